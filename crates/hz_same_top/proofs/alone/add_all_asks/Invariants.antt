use Rattle.std.proofs.Common.{◌≡◌, ◌++◌, map, take}
use Rattle.std.specs.Prelude.{codes, filter, not}
use Rattle.std.specs.List.{flat_map}
use Rattle.hz_pipeline_model.specs.Tables.Machines.{names_of}
use Rattle.hz_tables.specs.Machines.{machine_of}
use Rattle.hz_tables.specs.Parts.{part_of}
use Rattle.hz_same_model.specs.Common.{has_ask}
use Rattle.hz_same_model.specs.Texts.{alone_line}
use Rattle.hz_same_top.proofs.alone.add_all_asks.Given as goal

abbrev pub invariant-loop-part : goal.invariant-loop-part
invariant-loop-part l =
    l.text.items ≡ l.fn.text.items ++ flat_map (alone_line (codes "ask") l.file) (filter (λ name. not (has_ask (machine_of l.other) name)) (names_of (take l.part-index (map part_of l.parts))))
