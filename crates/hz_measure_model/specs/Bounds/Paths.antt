-- How many cycles the dependences of a graph ask for: tails, the greatest of them, and the chain that shows it. This profile,
-- docs/RULES.md, 'Lower bounds'.
use Rattle.std.specs.Prelude.{◌≡◌, ℕ, ◌+◌, ◌<◌, max, List, [], ◌∷◌, length, slice_index}
use Rattle.std.specs.List.{Contains}
use Rattle.hz_block_model.specs.Dependences.Graphs.{Edge, IsHeight}
use Rattle.hz_block_model.specs.Scheduling.Schedules.{Graph}

-- the greatest of numbers, 0 where there is none
abbrev pub greatest : List ℕ → ℕ
greatest [] = 0
greatest (n ∷ ns) = max n (greatest ns)

-- of each place the greatest sum of the cost of an edge from it and the tail of the place that it leads to, 0 where no edge
-- leads from it. So it is a height where all latencies are 0.
pub record AreTails (g : Graph) (tails : List ℕ) : Type 0 where
  pub long : length tails ≡ length g.nodes
  pub each : (i : ℕ) → i < length g.nodes → IsHeight g.edges [] tails i

-- An edge carries the tail of one place on to another: its cost and the tail there are that tail.
pub record CarriesOn (g : Graph) (tails : List ℕ) (j k : ℕ) : Type 0 where
  pub by : Edge
  pub there : Contains g.edges by
  pub leaves : by.from ≡ j
  pub leads : by.to ≡ k
  pub whole : slice_index tails j ≡ by.cost + slice_index tails k

-- The least number of which something holds.
pub record IsLeast (P : ℕ → Type 0) (i : ℕ) : Type 0 where
  pub is : P i
  pub first : (j : ℕ) → j < i → P j → ⊥

-- how a chain goes on after a place: to the least place to which its tail is carried on, as long as that is above 0
abbrev pub GoesOn : Graph → List ℕ → ℕ → List ℕ → Type 0
GoesOn g tails j [] = slice_index tails j ≡ 0
GoesOn g tails j (k ∷ chain) = (0 < slice_index tails j) × IsLeast (CarriesOn g tails j) k × GoesOn g tails k chain

-- a place of the graph has the greatest tail
abbrev pub HasGreatest : Graph → List ℕ → ℕ → Type 0
HasGreatest g tails i = (i < length g.nodes) × (slice_index tails i ≡ greatest tails)

-- the chain that shows the greatest tail: it begins at the least place that has it
abbrev pub IsChain : Graph → List ℕ → List ℕ → Type 0
IsChain g tails [] = length g.nodes ≡ 0
IsChain g tails (j ∷ chain) = IsLeast (HasGreatest g tails) j × GoesOn g tails j chain

-- Edges lead from a place along others, one after the other.
abbrev pub LeadAlong : Graph → ℕ → List ℕ → List Edge → Type 0
LeadAlong g j [] edges = edges ≡ []
LeadAlong g j (k ∷ chain) [] = ⊥
LeadAlong g j (k ∷ chain) (e ∷ edges) = Contains g.edges e × (e.from ≡ j) × (e.to ≡ k) × LeadAlong g k chain edges
