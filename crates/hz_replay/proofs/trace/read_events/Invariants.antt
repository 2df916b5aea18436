use Rattle.std.proofs.Common.{◌≡◌, ◌+◌, ◌-◌, ◌≤◌, [], length, drop}
use Rattle.hz_pipeline_model.specs.Traces.TraceLimits.{advance_limit}
use Rattle.hz_base_model.specs.Lines.{lines_of}
use Rattle.hz_replay.specs.Traces.{placed_in}
use Rattle.hz_replay.proofs.TraceLemmas.{trace_from}
use Rattle.hz_replay.proofs.trace.read_events.Given as goal

-- the events so far, with those of the rest, are those of the text
abbrev pub invariant-loop-at : goal.invariant-loop-at
invariant-loop-at l = record {
  reported : trace_from l.names (placed_in l.events.items) l.advanced (l.number + 1) (lines_of (drop l.at l.text)) ≡ trace_from l.names [] 0 1 (lines_of l.text);
  source : l.reading ≡ record { names = l.names; text = l.text };
  low : l.advanced ≤ advance_limit;
  counted : l.number ≤ l.at;
  within : l.at ≤ length l.text + 1;
}

abbrev pub decreases-loop-at : goal.decreases-loop-at
decreases-loop-at l = length l.text + 1 - l.at
