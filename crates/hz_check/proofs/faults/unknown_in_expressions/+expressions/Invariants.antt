use Rattle.std.proofs.Common.{◌≡◌, drop, filter, not}
use Rattle.hz_mdread.specs.Shape.{description}
use Rattle.hz_regexp.specs.Shape.{expressions}
use Rattle.hz_check.specs.Names.First.{first_of}
use Rattle.hz_description_model.specs.Check.CheckFaults.{is_reservable}
use Rattle.hz_description_model.specs.Reservations.NamesIn.{names_in_parts}
use Rattle.hz_description_model.specs.Reservations.Alternatives.{parts_of}
use Rattle.hz_check.proofs.faults.unknown_in_expressions.+expressions.Given as goal

abbrev pub invariant-unknown_in_parts-loop-part : goal.invariant-unknown_in_parts-loop-part
invariant-unknown_in_parts-loop-part l =
    first_of (filter (λ name. not (is_reservable (description l.names.desc.now) name)) (names_in_parts (parts_of (expressions (drop l.part-index l.parts)))))
    ≡ first_of (filter (λ name. not (is_reservable (description l.names.desc.now) name)) (names_in_parts (parts_of (expressions l.parts))))
