-- Edges by the instruction that they lead from. These words are only to prove with.
use Rattle.std.specs.Prelude.{ℕ, ◌+◌, ◌==◌, if◌then◌else◌, List, [], ◌∷◌, map, slice_index_or}
use Rattle.std.specs.declared.alloc.Global.{Global}
use Rattle.std.specs.declared.vec.Vec.{Vec}
use Rattle.hz_block_model.specs.Dependences.Graphs.{Edge}
use Rattle.hz_sched.specs.declared.adjacency.Successor.{Successor}

-- the edge from an instruction to a successor
abbrev pub edge_to : ℕ → Successor → Edge
edge_to from s = record { from = from; to = s.place; cost = s.cost }

-- the edges to successors, where it is no matter from which instruction
abbrev pub edges_to : List Successor → List Edge
edges_to row = map (edge_to 0) row

-- the edges of the row of an instruction, none where there is no row
abbrev pub row_at : List (Vec Successor Global) → ℕ → List Edge
row_at rows i = map (edge_to i) (slice_index_or (map (λ row. row.items) rows) i [])

-- how many of these edges lead from an instruction
abbrev pub leaving : ℕ → List Edge → ℕ
leaving i [] = 0
leaving i (e ∷ edges) = (if e.from == i then 1 else 0) + leaving i edges
