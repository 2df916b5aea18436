use Rattle.hz_replay.specs.Traces.{events_in, lines_in}
use Rattle.hz_reasons.specs.Frontiers.{first_of}
use Rattle.hz_reasons.proofs.FrontierSteps.{if_ok_then}
use Rattle.hz_explain.proofs.whole.refusal.Goals as goal

pub returns : goal.returns
returns c = if_ok_then _ _ c.tell_refusal.result c.tell_refusal.ensures (λ text reported m is frontier.
    let by = reported m (events_in c.args.events.now) (lines_in c.args.events.now) is frontier (c.in_ok-holders.ensures.holders m is frontier) in
    record { choices = (first_of c.args.frontier).choices; first = c.in_ok-holders.ensures.first m is frontier; wait = by.0; waits = by.1; is = by.2 })
