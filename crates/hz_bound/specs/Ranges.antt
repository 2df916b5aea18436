-- Ranges of cycles. These words are only to prove with.
use Rattle.std.specs.Prelude.{ℕ, ◌==◌, Bool, min, max, List, [], ◌∷◌, Option, Some, None}
use Rattle.std.specs.List.{flat_map, list_any}
use Rattle.hz_base_model.specs.Pairs.{Pair}
use Rattle.hz_measure_model.specs.Bounds.Paths.{greatest}
use Rattle.hz_measure_model.specs.Bounds.Loads.{least, cycles_at}
use Rattle.hz_bound.specs.declared.cycles.Range.{Range}

-- whether a grid takes the unit in a cycle
abbrev pub has : List (Pair ℕ) → ℕ → ℕ → Bool
has grid unit cycle = list_any (λ c. c == cycle) (cycles_at unit grid)

-- the first and the last of cycles
abbrev pub range_of : List ℕ → Option Range
range_of [] = None
range_of (c ∷ cs) = Some (record { first = least (c ∷ cs); last = greatest (c ∷ cs) })

-- the range of the cycles of both
abbrev pub joined : Option Range → Option Range → Option Range
joined None other = other
joined (Some a) None = Some a
joined (Some a) (Some b) = Some (record { first = min a.first b.first; last = max a.last b.last })

-- the cycles of all ways
abbrev pub all_cycles : List (List ℕ) → List ℕ
all_cycles ways = flat_map (λ cycles. cycles) ways
