-- What is kept of a unit, class by class. These words are only to prove with.
use Rattle.std.specs.Prelude.{◌≡◌, ℕ, zero, suc, ◌+◌, ◌-◌, ◌*◌, ◌<◌, ◌≤◌, ◌==◌, ◌&&◌, nat_lt, min, cond, List, [], ◌∷◌, ◌++◌, map, length, Option, None, slice_index_or}
use Rattle.std.specs.Option.{option_map}
use Rattle.hz_base_model.specs.Pairs.{Pair}
use Rattle.hz_measure_model.specs.Bounds.Loads as model
use Rattle.hz_measure_model.specs.Bounds.Loads.{ways_in, ways_by, least, force, cycles_of_users}
use Rattle.hz_bound.specs.declared.cycles.Range.{Range}
use Rattle.hz_bound.specs.declared.loads.Total.{Total}
use Rattle.hz_bound.specs.declared.loads.Counted.{Counted}
use Rattle.hz_bound.specs.Ranges.{range_of, joined, all_cycles}

-- ---- classes

-- how often a class is that of an instruction
abbrev pub occurs : ℕ → List ℕ → ℕ
occurs k [] = 0
occurs k (c ∷ classes) = cond (c == k) 1 0 + occurs k classes

abbrev pub times_at : List ℕ → ℕ → ℕ
times_at times k = slice_index_or times k 0

-- These are the classes of so many instructions each.
pub record AreTimes (classes : List ℕ) (count : ℕ) (times : List ℕ) : Type 0 where
  pub long : length times ≡ count
  pub each : (k : ℕ) → k < count → times_at times k ≡ min (occurs k classes) 4294967295

-- ---- totals

-- the total of a unit before any class
abbrev pub no_total : Total
no_total = record { count = 0; range = None }

-- the total of the unit at a place
abbrev pub total_at : List Total → ℕ → Total
total_at totals u = slice_index_or totals u no_total

-- the total with so many instructions of a class, of this least count and range, which are reported if they can't do without the unit
abbrev pub with_times : ℕ → ℕ → Option Range → Total → Total
with_times times least range t = cond (nat_lt 0 times && nat_lt 0 least) (record { count = min (t.count + min (times * least) 4294967295) 4294967295; range = joined t.range range }) t

-- Each unit is reported what so many instructions of a class with these grids take.
pub record AreJoined (list : List (List (Pair ℕ))) (times : ℕ) (old new : List Total) : Type 0 where
  pub long : length new ≡ length old
  pub each : (u : ℕ) → u < length old → total_at new u ≡ with_times times (least (map length (ways_in u list))) (range_of (all_cycles (ways_in u list))) (total_at old u)
  pub few : (u : ℕ) → u < length old → 0 < times → least (map length (ways_in u list)) ≤ 512

-- for how many cycles the first classes take a unit
abbrev pub sum_of : (ℕ → List (List ℕ)) → List ℕ → ℕ → ℕ
sum_of ways times zero = 0
sum_of ways times (suc n) = sum_of ways times n + times_at times n * force ways n

-- those of the first classes that some instruction has
abbrev pub present : List ℕ → ℕ → List ℕ
present times zero = []
present times (suc n) = present times n ++ cond (nat_lt 0 (times_at times n)) (n ∷ []) []

-- The total of a unit over the first classes.
pub record IsTotal (ways : ℕ → List (List ℕ)) (times : List ℕ) (n : ℕ) (t : Total) : Type 0 where
  pub count : t.count ≡ min (sum_of ways times n) 4294967295
  pub range : t.range ≡ range_of (cycles_of_users ways (present times n))
  pub few : (k : ℕ) → k < n → 0 < times_at times k → force ways k ≤ 512

-- The totals of the units of an automaton over the first classes.
pub record AreTotals (lists : List (List (List (List (Pair ℕ))))) (automaton : ℕ) (times : List ℕ) (n count : ℕ) (totals : List Total) : Type 0 where
  pub long : length totals ≡ count
  pub each : (u : ℕ) → u < count → IsTotal (ways_by lists (record { automaton = automaton; unit = u })) times n (total_at totals u)

-- the load by a total
abbrev pub load_by : Total → Option Counted
load_by t = option_map (λ r. record { count = t.count; span = r.last - r.first; value = t.count - 1 - (r.last - r.first) }) t.range

-- a load as the definitions have it
abbrev pub shown : Counted → model.Load
shown l = record { count = l.count; span = l.span; value = l.value }
