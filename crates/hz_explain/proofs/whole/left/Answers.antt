use Rattle.hz_replay.specs.Traces.{events_in, lines_in}
use Rattle.hz_reasons.specs.Frontiers.{first_of}
use Rattle.hz_reasons.proofs.FrontierSteps.{if_ok_then}
use Rattle.hz_explain.proofs.whole.left.Goals as goal

pub returns : goal.returns
returns c = if_ok_then _ _ c.tell_left.result c.tell_left.ensures (λ text reported m is frontier.
    let choices = (first_of c.args.frontier.now).choices in
    record {
      choices = choices;
      first = c.in_ok-holders.ensures.first m is frontier;
      is = reported m (events_in c.args.events.now) (lines_in c.args.events.now) choices is (c.in_ok-holders.ensures.holders m is frontier);
    })
