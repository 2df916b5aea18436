use Rattle.std.proofs.Common.{not, refl}
use Rattle.hz_mdread.specs.Shape.{description}
use Rattle.hz_regexp.specs.Shape.{expression, expressions}
use Rattle.hz_check.proofs.Lists.FirstOf.{first_here}
use Rattle.hz_description_model.specs.Check.CheckFaults.{is_reservable}
use Rattle.hz_description_model.specs.Reservations.NamesIn.{names_in, names_in_parts}
use Rattle.hz_description_model.specs.Reservations.Alternatives.{parts_of}
use Rattle.hz_check.proofs.faults.unknown_in_expressions.+expressions.Goals as goal

pub unknown_in_parts-returns-in-Some : goal.unknown_in_parts-returns-in-Some
unknown_in_parts-returns-in-Some t c =
    first_here (λ name. not (is_reservable (description c.args.names.now.desc.now) name)) (λ parts. names_in_parts (parts_of (expressions parts))) (names_in (expression c.part-item.result)) c.args.parts.now c.loop-part.part-index c.part-item.result c.in-Some.name.now
    c.part-item.is c.loop-part-test.true refl c.in-Some.ensures c.loop-part.invariant
