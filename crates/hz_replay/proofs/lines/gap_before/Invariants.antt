use Rattle.std.proofs.Common.{◌≡◌, ℕ, ◌<◌, true, get_or}
use Rattle.hz_pipeline_model.specs.Traces.Traces.{is_gap}
use Rattle.hz_replay.proofs.lines.gap_before.Given as goal

abbrev pub invariant-loop-count : goal.invariant-loop-count
invariant-loop-count l = (k : ℕ) → k < l.count → is_gap (get_or l.text k 0) ≡ true
