use Rattle.std.proofs.Common.{◌≡◌, ℕ, ◌<◌, ◌≤◌, true, get_or, length}
use Rattle.hz_pipeline_model.specs.Traces.Traces.{is_margin}
use Rattle.hz_replay.proofs.lines.margin_after.Given as goal

-- each byte from the end on is of the margin
abbrev pub invariant-loop-end : goal.invariant-loop-end
invariant-loop-end l = record {
  within : l.«end» ≤ length l.line;
  margin : (k : ℕ) → l.«end» ≤ k → k < length l.line → is_margin (get_or l.line k 0) ≡ true;
}

abbrev pub decreases-loop-end : goal.decreases-loop-end
decreases-loop-end l = l.«end»
