-- From which interval on all dependences between turns are kept in few stages.
use Rattle.std.specs.Prelude.{ℕ, ◌+◌, ◌*◌, ◌-◌, ◌/◌, ◌%◌, ◌<◌, ◌≤◌, nat_lt, max, if◌then◌else◌, List, [], ◌∷◌, map, length, All}
use Rattle.std.specs.List.{repeat}
use Rattle.hz_description_model.specs.Reading.Limits.{latency_limit}
use Rattle.hz_block_model.specs.Dependences.Graphs as model
use Rattle.hz_measure_model.specs.Kernels.Repeats.{stage_limit}
use Rattle.hz_rtl.specs.declared.block.Block.{Block}
use Rattle.hz_rtl.specs.Shape.{instructions}
use Rattle.hz_checked.specs.declared.checked.Checked.{Checked}
use Rattle.hz_depend.specs.declared.parts.Edge.{Edge}
use Rattle.hz_depend.specs.declared.parts.Graph.{Graph}
use Rattle.hz_depend.specs.GraphShape.{edge_of, timing_in}
use Rattle.hz_block_model.specs.Dependences.Dependences.{Timing}

-- the timing of so many copies of a block, whose graph is this
abbrev pub timing_of_copies : Checked → Block → Graph → ℕ → Timing
timing_of_copies checked block graph count = timing_in checked (repeat count (map (λ i. i.class) graph.insns.items)) (repeat count (instructions block))

-- The edges of three copies of a block in a row, whose graph is this.
pub record AreTurnEdges (checked : Checked) (block : Block) (graph : Graph) (edges : List Edge) : Type 0 where
  pub each : model.IsGraph (repeat 3 (instructions block)) (timing_of_copies checked block graph 3) (map edge_of edges)
  pub inside : All (λ e. (e.from < e.to) × (e.to < 3 * length block.insns.items) × (e.cost ≤ latency_limit)) edges

-- the least interval that keeps an edge between two turns: what lacks in cycles, shared by the turns between, rounded up
abbrev pub least_for : (size : ℕ) (cycle : ℕ → ℕ) → model.Edge → ℕ
least_for size cycle e = (((cycle (e.from % size) + e.cost) - cycle (e.to % size)) + ((e.to / size - e.from / size) - 1)) / (e.to / size - e.from / size)

-- the greatest of those of all edges that lead from one turn to another
abbrev pub least_of : (size : ℕ) (cycle : ℕ → ℕ) → List model.Edge → ℕ
least_of size cycle [] = 0
least_of size cycle (e ∷ edges) = if nat_lt (e.from / size) (e.to / size) then max (least_for size cycle e) (least_of size cycle edges) else least_of size cycle edges

-- the first interval with few stages that keeps all edges, where the schedule ends at `last`
abbrev pub first_interval : (size : ℕ) (cycle : ℕ → ℕ) (last : ℕ) → List model.Edge → ℕ
first_interval size cycle last edges = max (last / (stage_limit + 1) + 1) (least_of size cycle edges)
