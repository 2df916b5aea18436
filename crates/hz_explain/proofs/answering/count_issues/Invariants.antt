use Rattle.std.proofs.Common.{◌≡◌, ◌≤◌, take}
use Rattle.hz_pipeline_model.specs.Accepting.Events.{issues_of}
use Rattle.hz_replay.specs.Traces.{events_in}
use Rattle.hz_explain.proofs.answering.count_issues.Given as goal

abbrev pub invariant-loop-event : goal.invariant-loop-event
invariant-loop-event l = record {
  issues : l.issues ≡ issues_of (events_in (take l.event-index l.events));
  few : l.issues ≤ l.event-index;
}
