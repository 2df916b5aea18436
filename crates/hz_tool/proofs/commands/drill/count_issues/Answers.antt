use Rattle.std.proofs.Common.{◌<◌, length, get_or, arith}
use Rattle.hz_replay.specs.Lines.{event_of}
use Rattle.hz_tool.proofs.DrillLemmas.{issues_more, one_issue}
use Rattle.hz_front.proofs.TraceLemmas.{some_event}
use Rattle.hz_tool.proofs.commands.drill.count_issues.Goals as goal

pub loop-event-preserved : goal.loop-event-preserved
loop-event-preserved c =
    let es = c.args.events.now in
    let i = c.loop-event.event-index in
    let inside : i < length es = omega arith in
    let more = issues_more es i some_event inside in
    let before = c.loop-event.invariant in
    let one = c.issues_at-issues.ensures in
    record {
      counted = omega (arith, more, before.counted, one);
      few = omega (arith, before.few, one, one_issue (event_of (get_or es i some_event).what));
    }
