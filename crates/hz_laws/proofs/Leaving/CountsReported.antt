-- Every count is reported.
use Rattle.std.proofs.Common.{ℕ, ◌+◌, ◌⊎◌, Bool, length, arith}
use Rattle.hz_pipeline_model.specs.Accepting.Plays.{Tells}
use Rattle.hz_pipeline_model.specs.Accepting.Replay.{Pipeline}
use Rattle.hz_pipeline_model.specs.Reaching.Counts.{Count, grids, states, members, cells, CountIsAbove, CountIsAtMost}
use Rattle.hz_laws.proofs.Leaving.GridCounts.{grids_reported}
use Rattle.hz_laws.proofs.Leaving.StateCounts.{states_reported}

pub counts_reported : {U : Type 0} (same : U → U → Bool) → Tells same → (m : Pipeline U) (columns : ℕ) (count : Count) (n : ℕ) → CountIsAtMost m columns count n ⊎ CountIsAbove m columns count n
counts_reported same tells m columns grids n = grids_reported same tells m n
counts_reported same tells m columns states n = states_reported same tells m (λ _. 1) (λ gs some. omega arith) n
counts_reported same tells m columns members n = states_reported same tells m length (λ gs some. some) n
counts_reported same tells m columns cells n = states_reported same tells m (λ _. columns + 1) (λ gs some. omega arith) n
