-- What is kept of blocks from turn to turn.
use Rattle.std.specs.Prelude.{◌≡◌, ℕ, ◌<◌, ◌≤◌, List, length, vec_len}
use Rattle.std.specs.List.{Contains}
use Rattle.hz_pipeline_model.specs.Tables.Tables.{Table}
use Rattle.hz_pipeline_model.specs.Least.Blocks.{KeepsApart, block_limit}
use Rattle.hz_minim.specs.declared.marks.Marks.{Marks}
use Rattle.hz_minim.specs.declared.partition.Partition.{Partition}
use Rattle.hz_minim.specs.Lists.{list_at, lists_of}
use Rattle.hz_minim.specs.Moves.{IsListed, IsSeparate}

-- So many states have blocks, each is listed in its block, and each block has a mark, of which there are not too many.
pub record IsKept (states : ℕ) (partition : Partition) (marks : Marks) : Type 0 where
  pub each : length partition.blocks.items ≡ states
  pub listed : IsListed partition.blocks.items (lists_of partition.members.items)
  pub marked : vec_len marks.of_blocks ≡ vec_len partition.members
  pub few : vec_len marks.of_blocks ≤ block_limit

-- these are all states of the first so many
abbrev pub AreBelow : ℕ → List ℕ → Type 0
AreBelow count states = (state : ℕ) → Contains states state → state < count

-- States of different blocks stay apart, in each table of which these states are apart from all others.
abbrev pub StaysApart : List ℕ → List ℕ → List ℕ → Type 0
StaysApart states before after = (table : Table) → IsSeparate table states → KeepsApart table before → KeepsApart table after

-- States of different blocks stay apart, in each table of which the states of each list are apart from all others.
abbrev pub StayApart : List (List ℕ) → List ℕ → List ℕ → Type 0
StayApart lists before after = (table : Table) → ((place : ℕ) → IsSeparate table (list_at lists place)) → KeepsApart table before → KeepsApart table after
