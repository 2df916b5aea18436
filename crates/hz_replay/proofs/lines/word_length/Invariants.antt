use Rattle.std.proofs.Common.{◌≡◌, ℕ, ◌<◌, false, get_or}
use Rattle.hz_pipeline_model.specs.Traces.Traces.{is_gap}
use Rattle.hz_replay.proofs.lines.word_length.Given as goal

abbrev pub invariant-loop-count : goal.invariant-loop-count
invariant-loop-count l = (k : ℕ) → k < l.count → is_gap (get_or l.line k 0) ≡ false
