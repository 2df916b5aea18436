-- The leaders of the first states.
use Rattle.std.specs.Prelude.{◌≡◌, ℕ, zero, suc, ◌+◌, ◌<◌, ◌==◌, List, Option, Some, None, if◌then◌else◌, All, length, slice_index_or}
use Rattle.hz_pipeline_model.specs.Least.Blocks.{block_of}
use Rattle.hz_minim.specs.Leading.{leader_of}

-- how many of the first k states another one leads
abbrev pub led_below : List ℕ → ℕ → ℕ
led_below leaders zero = 0
led_below leaders (suc k) = (if leader_of leaders k == k then 0 else 1) + led_below leaders k

-- the first states of blocks, and the leaders of the first k states
pub record LedSoFar (blocks : List ℕ) (k : ℕ) (firsts : List (Option ℕ)) (leaders : List ℕ) : Type 0 where
  pub each : length leaders ≡ k
  pub room : All (λ block. block < length firsts) blocks
  pub held : (state : ℕ) → state < k → slice_index_or firsts (block_of blocks state) None ≡ Some (leader_of leaders state)
  pub first : (block state : ℕ) → slice_index_or firsts block None ≡ Some state → (state < k) × (leader_of leaders state ≡ state)
