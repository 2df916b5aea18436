-- What leads to a block, by columns.
use Rattle.std.specs.Prelude.{◌≡◌, ◌⊎◌, ℕ, ◌<◌, List, length}
use Rattle.std.specs.List.{Contains}
use Rattle.hz_pipeline_model.specs.Least.Blocks.{block_of}
use Rattle.hz_minim.specs.declared.arrows.Arrow.{Arrow}
use Rattle.hz_minim.specs.Arrows.{arrow_from}
use Rattle.hz_minim.specs.Lists.{list_at}

-- the source of each arrow is added to the list of its column
pub record AddsArrows (arrows : List Arrow) (before after : List (List ℕ)) : Type 0 where
  pub size : length after ≡ length before
  pub kept : (column state : ℕ) → Contains (list_at before column) state → Contains (list_at after column) state
  pub put : (column state : ℕ) → Contains arrows (arrow_from state column) → Contains (list_at after column) state
  pub only : (column state : ℕ) → Contains (list_at after column) state → Contains (list_at before column) state ⊎ Contains arrows (arrow_from state column)

-- the bucket of a column has the sources of the arrows of that column to the states of a block
pub record AreBuckets (arrows : List (List Arrow)) (blocks : List ℕ) (block : ℕ) (buckets : List (List ℕ)) : Type 0 where
  pub all : (target column state : ℕ) → target < length blocks → block_of blocks target ≡ block → Contains (list_at arrows target) (arrow_from state column) → Contains (list_at buckets column) state
  pub only : (column state : ℕ) → Contains (list_at buckets column) state → (target : ℕ) × (target < length blocks) × (block_of blocks target ≡ block) × Contains (list_at arrows target) (arrow_from state column)
