use Rattle.std.proofs.Common.{ap, arith}
use Rattle.hz_reasons.specs.Holding.{last_of_classes}
use Rattle.hz_reasons.proofs.StretchLaws.{within_plan}
use Rattle.hz_reasons.proofs.stretch.span.Goals as goal

pub returns : goal.returns
returns c = λ k i p there.
    let within = within_plan c.args.plan.now k i p there in
    let all = ap last_of_classes c.deref.ensures.value in
    let last = c.last_of_all.ensures in
    let from = c.from.ensures in
    omega arith
