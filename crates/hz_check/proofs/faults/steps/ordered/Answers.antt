use Rattle.std.proofs.Common.{IfErr, Ok, subst}
use Rattle.hz_mdread.specs.Shape.{description}
use Rattle.hz_check_reservations.specs.Faults.{TellsCircle}
use Rattle.hz_check_reservations.specs.Places.{site_of}
use Rattle.hz_check_reservations.specs.declared.ordering.fault.OrderFault.TheVariants.{Circular}
use Rattle.hz_check.proofs.Telling.CheckSteps.{circle_reported, place_circles}
use Rattle.hz_check.proofs.faults.steps.ordered.Goals as goal

pub returns-in-Err-clause-err : goal.returns-in-Err-clause-err
returns-in-Err-clause-err c =
    let d = description c.args.desc.now in
    let answered = place_circles d c.counting_order.result (Ok c.in_ok-order.field-0) c.counting_order.ensures.err c.in_ok-order.ensures in
    let circle : TellsCircle d (Circular c.in-Err.place) = subst (λ found. IfErr found (λ place. TellsCircle d (Circular place))) c.in-Err.is answered in
    circle_reported c.args.desc.now c.in-Err.place c.requires.named circle c.index-reservation.result.now c.index-reservation.ensures (site_of c.site.result) c.site.ensures c.refused.result c.refused.ensures
