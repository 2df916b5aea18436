-- A count that is known. This profile, docs/RULES.md, 'Limits'.
use Rattle.std.specs.Prelude.{ℕ, ◌<◌}
use Rattle.hz_pipeline_model.specs.Accepting.Replay.{Pipeline}
use Rattle.hz_pipeline_model.specs.Reaching.Counts.{Count, CountIsAbove, CountIsAtMost}

-- the count of this kind is n: it is at most n, and above each number below n
pub record CountIs {U : Type 0} (m : Pipeline U) (columns : ℕ) (kind : Count) (n : ℕ) : Type 0 where
  pub most : CountIsAtMost m columns kind n
  pub least : (k : ℕ) → k < n → CountIsAbove m columns kind k
