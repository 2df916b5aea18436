-- Heights, edge by edge from the last to the first. These words are only to prove with.
use Rattle.std.specs.Prelude.{ℕ, ◌+◌, List, [], ◌∷◌, max, length, replicate, Option, Some, None, unwrap_or, slice_index, slice_index_or, slice_set}
use Rattle.hz_block_model.specs.Dependences.Graphs.{Edge}

-- the height of a place by the edges so far: the greatest sum where an edge leads from it, else the latency
abbrev pub height_at : List ℕ → List (Option ℕ) → ℕ → ℕ
height_at latencies sums i = unwrap_or (slice_index_or sums i None) (slice_index latencies i)

-- one more edge
abbrev pub relax : List ℕ → Edge → List (Option ℕ) → List (Option ℕ)
relax latencies e sums = slice_set sums e.from (Some (max (unwrap_or (slice_index_or sums e.from None) 0) (e.cost + height_at latencies sums e.to)))

-- all edges
abbrev pub relaxed : List ℕ → List Edge → List (Option ℕ)
relaxed latencies [] = replicate (length latencies) None
relaxed latencies (e ∷ edges) = relax latencies e (relaxed latencies edges)
