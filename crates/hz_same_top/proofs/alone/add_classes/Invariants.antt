use Rattle.std.proofs.Common.{◌≡◌, ◌++◌, take}
use Rattle.std.specs.Prelude.{codes, filter, not}
use Rattle.std.specs.List.{flat_map}
use Rattle.hz_tables.specs.Machines.{machine_of}
use Rattle.hz_same_model.specs.Common.{has_class}
use Rattle.hz_same_model.specs.Texts.{alone_line}
use Rattle.hz_same_top.proofs.alone.add_classes.Given as goal

abbrev pub invariant-loop-name : goal.invariant-loop-name
invariant-loop-name l =
    l.text.items ≡ l.fn.text.items ++ flat_map (alone_line (codes "class") l.file) (filter (λ name. not (has_class (machine_of l.other) name)) (take l.name-index l.classes))
