use Rattle.std.proofs.Common.{◌≡◌, ◌≤◌, ◌+◌, ◌-◌, length, drop}
use Rattle.hz_pipeline_model.specs.Accepting.Events.{issues_of, cycles_of}
use Rattle.hz_replay.specs.Traces.{events_in}
use Rattle.hz_reasons.proofs.stretch.last_stretch.Given as goal

-- the events from the start on, of which each is an issue at most
abbrev pub invariant-loop-start : goal.invariant-loop-start
invariant-loop-start l = record {
  within : l.start + l.issues ≤ length l.events;
  issues : l.issues ≡ issues_of (events_in (drop l.start l.events));
  left : l.left ≡ l.cycles - cycles_of (events_in (drop l.start l.events));
}

abbrev pub decreases-loop-start : goal.decreases-loop-start
decreases-loop-start l = l.start
