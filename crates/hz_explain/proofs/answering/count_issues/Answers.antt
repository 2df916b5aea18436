use Rattle.std.proofs.Common.{◌<◌, length, get_or, arith}
use Rattle.hz_replay.specs.Lines.{event_of}
use Rattle.hz_replay.proofs.EventLemmas.{no_event, issues_more, one_issue}
use Rattle.hz_explain.proofs.answering.count_issues.Goals as goal

pub loop-event-preserved : goal.loop-event-preserved
loop-event-preserved c =
    let es = c.args.events.now in
    let i = c.loop-event.event-index in
    let inside : i < length es = omega arith in
    let before = c.loop-event.invariant in
    let most = one_issue (event_of (get_or es i no_event).what) in
    record {
      issues = omega (arith, c.issues_at-issues.ensures, before.issues, issues_more es i inside);
      few = omega (arith, c.issues_at-issues.ensures, before.few, most);
    }
