-- Tails and chains by rows of edges, one for each place. These words are only to prove with.
use Rattle.std.specs.Prelude.{◌≡◌, ℕ, ◌+◌, ◌*◌, ◌<◌, ◌≤◌, ◌==◌, List, [], ◌∷◌, map, slice_index, slice_index_or, length, min, if◌then◌else◌, Option, Some}
use Rattle.std.specs.declared.alloc.Global.{Global}
use Rattle.std.specs.declared.vec.Vec.{Vec}
use Rattle.std.specs.Option.{option_map_or}
use Rattle.std.specs.List.{Contains}
use Rattle.hz_description_model.specs.Reading.Limits.{latency_limit}
use Rattle.hz_block_model.specs.Scheduling.Schedules.{Graph}
use Rattle.hz_measure_model.specs.Bounds.Paths.{greatest, AreTails, IsLeast, IsChain}
use Rattle.hz_depend.specs.declared.parts.Edge.{Edge}

-- the row of an instruction, an empty one where there is none
abbrev pub row_at : List (Vec Edge Global) → ℕ → List Edge
row_at rows i = slice_index_or (map (λ row. row.items) rows) i []

-- the cost of an edge and the tail where it leads
abbrev pub sum_of : List ℕ → Edge → ℕ
sum_of tails e = e.cost + slice_index tails e.to

-- An edge of a row carries a tail on to k.
pub record Carries (row : List Edge) (tails : List ℕ) (tail k : ℕ) : Type 0 where
  pub by : Edge
  pub there : Contains row by
  pub leads : by.to ≡ k
  pub whole : tail ≡ by.cost + slice_index tails k

-- the lesser of a place, if there is one, and that to which an edge leads, where it carries the tail on
abbrev pub lesser : List ℕ → ℕ → Option ℕ → Edge → Option ℕ
lesser tails tail next e = if sum_of tails e == tail then Some (option_map_or (λ least. min least e.to) next e.to) else next

-- the least of a place, if there is one, and those to which edges carry the tail on
abbrev pub least_in : List ℕ → ℕ → List Edge → Option ℕ → Option ℕ
least_in tails tail [] next = next
least_in tails tail (e ∷ row) next = least_in tails tail row (lesser tails tail next e)

-- how a chain goes on
abbrev pub Follows : (ℕ → List Edge) → List ℕ → ℕ → List ℕ → Type 0
Follows rows tails j [] = slice_index tails j ≡ 0
Follows rows tails j (k ∷ chain) = (0 < slice_index tails j) × IsLeast (Carries (rows j) tails (slice_index tails j)) k × Follows rows tails k chain

abbrev pub IsChainOf : (ℕ → List Edge) → List ℕ → List ℕ → Type 0
IsChainOf rows tails [] = length tails ≡ 0
IsChainOf rows tails (j ∷ chain) = IsLeast (λ i. (i < length tails) × (slice_index tails i ≡ greatest tails)) j × Follows rows tails j chain

-- Tails from a place on; each costs at most so much for each place after it.
pub record TailsFrom (rows : ℕ → List Edge) (n place : ℕ) (tails : List ℕ) : Type 0 where
  pub long : length tails ≡ n
  pub each : (i : ℕ) → place ≤ i → i < n → slice_index tails i ≡ greatest (map (sum_of tails) (rows i))
  pub small : (i : ℕ) → i < n → slice_index tails i + latency_limit * i ≤ latency_limit * n

-- Edges of rows lead upwards, and cost little.
pub record LeadUp (rows : ℕ → List Edge) (n : ℕ) : Type 0 where
  pub up : (i : ℕ) (e : Edge) → Contains (rows i) e → (i < e.to) × (e.to < n) × (e.cost ≤ latency_limit)

-- The greatest tail of a graph, with its chain.
pub record IsPathOf (g : Graph) (most : ℕ) (places : List ℕ) : Type 0 where
  pub tails : List ℕ
  pub are : AreTails g tails
  pub path : most ≡ greatest tails
  pub chain : IsChain g tails places
