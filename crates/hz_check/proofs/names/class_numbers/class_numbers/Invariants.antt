use Rattle.std.proofs.Common.{◌≡◌, ◌++◌, drop}
use Rattle.hz_mdread.specs.Shape.{description}
use Rattle.hz_description_model.specs.Check.CheckedParts.{class_numbers}
use Rattle.hz_check.proofs.names.class_numbers.class_numbers.Given as goal

abbrev pub invariant-loop-class : goal.invariant-loop-class
invariant-loop-class l =
    l.numbers.items ++ class_numbers (description l.names.desc.now) (drop l.class-index l.classes) ≡ class_numbers (description l.names.desc.now) l.classes
