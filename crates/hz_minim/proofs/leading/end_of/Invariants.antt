use Rattle.std.proofs.Common.{ℕ, ◌<◌, get_or}
use Rattle.hz_minim.proofs.leading.end_of.Given as goal

abbrev pub invariant-loop-block : goal.invariant-loop-block
invariant-loop-block l = (k : ℕ) (d : ℕ) → k < l.block-index → get_or l.blocks k d < l.end
