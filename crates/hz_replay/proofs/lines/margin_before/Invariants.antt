use Rattle.std.proofs.Common.{◌≡◌, ℕ, ◌<◌, true, get_or}
use Rattle.hz_pipeline_model.specs.Traces.Traces.{is_margin}
use Rattle.hz_replay.proofs.lines.margin_before.Given as goal

abbrev pub invariant-loop-count : goal.invariant-loop-count
invariant-loop-count l = (k : ℕ) → k < l.count → is_margin (get_or l.line k 0) ≡ true
