use Rattle.std.proofs.Common.{arith, ap, ◌∙◌, Some, None, cond}
use Rattle.hz_check.specs.Names.Held.{is_held}
use Rattle.hz_check_reservations.specs.Places.{site_of, reported}
use Rattle.hz_check.specs.Faults.Twice.{is_given}
use Rattle.hz_check.proofs.Telling.Repeated.{repeated_next, reported-then_some}
use Rattle.hz_check.proofs.faults.twice_defined.second_site.Goals as goal

pub loop-item-preserved : goal.loop-item-preserved
loop-item-preserved g c =
    repeated_next g.T.Defines.site (is_given c.args.others.now) (is_held c.loop-item.seen) (is_held c.put.new.self) (reported c.loop-item.first) (reported c.then_some.result) (reported c.earlier-first.result) _ c.args.items.now c.loop-item.item-index c.item-item.result (site_of c.site-site.result)
    c.item-item.is c.loop-item-test.true c.site-site.ensures
    (λ name. grind (arith, c.in_ok-put.ensures name))
    (ap reported c.then_some.ensures ∙ (reported-then_some c.is_again-again.result c.site-site.result ∙ ap (λ b. cond b (Some (site_of c.site-site.result)) None) c.is_again-again.ensures))
    c.earlier-first.ensures c.loop-item.invariant
