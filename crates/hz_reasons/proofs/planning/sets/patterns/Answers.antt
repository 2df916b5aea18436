use Rattle.std.proofs.Common.{map, ap, ◌∙◌}
use Rattle.hz_check_reservations.specs.Shape.{place_of}
use Rattle.hz_reasons.specs.Plans.{unit_of}
use Rattle.hz_reasons.proofs.PlanLaws.{made_more}
use Rattle.hz_reasons.proofs.planning.sets.patterns.Goals as goal

pub loop-pattern-preserved : goal.loop-pattern-preserved
loop-pattern-preserved c =
    ap (map (λ pattern. map unit_of pattern.items)) c.in_ok-push.ensures.items
    ∙ made_more (λ pattern. map unit_of pattern.items) (λ pattern. map place_of pattern.items) c.loop-pattern.patterns.items c.args.placed.now c.loop-pattern.pattern-index c.in_ok-pattern.pattern c.pattern-item.result c.pattern-item.is c.loop-pattern-test.true c.loop-pattern.invariant
    (c.in_ok-pattern.ensures ∙ ap (map place_of) c.deref.ensures.value)
