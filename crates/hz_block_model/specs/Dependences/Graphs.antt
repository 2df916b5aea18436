-- The graph of a block's dependences, heights, and orders that keep it. This profile, docs/RULES.md, 'Dependences'.
use Rattle.std.specs.Prelude.{◌≡◌, ℕ, ◌+◌, ◌<◌, ◌≤◌, true, List, length, slice_index}
use Rattle.std.specs.List.{Contains, AllPairs}
use Rattle.hz_block_model.specs.Running.Blocks.{Instruction}
use Rattle.hz_block_model.specs.Dependences.Dependences.{depends, Timing, cost}

-- the instruction at `to` depends on the one at `from`, and is issued at least `cost` cycles after it
pub record Edge : Type 0 where
  pub from : ℕ
  pub to : ℕ
  pub cost : ℕ

-- the edge between two places of a block
abbrev pub edge : List Instruction → Timing → ℕ → ℕ → Edge
edge block t i j = record { from = i; to = j; cost = cost block t i j }

-- Exactly one edge for each dependence of a block, with its cost, and no other.
pub record IsGraph (block : List Instruction) (t : Timing) (edges : List Edge) : Type 0 where
  pub each : (i j : ℕ) → i < length block → j < length block → depends block i j ≡ true → Contains edges (edge block t i j)
  pub only : (e : Edge) → Contains edges e → (e.from < e.to) × (e.to < length block) × (depends block e.from e.to ≡ true) × (e.cost ≡ cost block t e.from e.to)
  pub once : AllPairs (λ a b. a.from ≡ b.from → a.to ≡ b.to → ⊥) edges

-- The height of a place: the greatest sum of an edge's cost and the height of the place that it leads to, or the latency where no
-- edge leads from it.
pub record IsHeight (edges : List Edge) (latency heights : List ℕ) (i : ℕ) : Type 0 where
  pub none : ((e : Edge) → Contains edges e → e.from ≡ i → ⊥) → slice_index heights i ≡ slice_index latency i
  pub least : (e : Edge) → Contains edges e → e.from ≡ i → e.cost + slice_index heights e.to ≤ slice_index heights i
  pub reached : (e : Edge) → Contains edges e → e.from ≡ i → (f : Edge) × Contains edges f × (f.from ≡ i) × (slice_index heights i ≡ f.cost + slice_index heights f.to)
