-- How many cycles the instructions of a block ask a unit for. This profile, docs/RULES.md, 'Lower bounds'.
use Rattle.std.specs.Prelude.{ℕ, ◌-◌, ◌==◌, ◌&&◌, Bool, nat_lt, min, if◌then◌else◌, List, [], ◌∷◌, map, filter, length, Option, Some, None, sum_by, slice_index_or}
use Rattle.std.specs.List.{flat_map}
use Rattle.hz_base_model.specs.Pairs.{Pair}
use Rattle.hz_description_model.specs.Reservations.Alternatives.{Alternative}
use Rattle.hz_description_model.specs.Reservations.Automata.{UnitPlace, ascending}
use Rattle.hz_pipeline_model.specs.Accepting.Replay.{Pipeline, alternatives_at}
use Rattle.hz_measure_model.specs.Bounds.Paths.{greatest}

-- the least of numbers, 0 where there is none
abbrev pub least : List ℕ → ℕ
least [] = 0
least (n ∷ []) = n
least (n ∷ m ∷ ns) = min n (least (m ∷ ns))

-- ---- in which cycles a unit is taken

-- whether a pair is of the unit
abbrev pub takes : UnitPlace → Pair UnitPlace → Bool
takes u p = p.unit.automaton == u.automaton && p.unit.unit == u.unit

-- the cycles in which an alternative takes the unit, each once
abbrev pub cycles_in : UnitPlace → Alternative UnitPlace → List ℕ
cycles_in u a = map (λ p. p.cycle) (filter (takes u) (ascending a.pairs))

-- the same of each alternative of a class, also of one that never fits
abbrev pub ways : Pipeline UnitPlace → UnitPlace → ℕ → List (List ℕ)
ways m u k = map (cycles_in u) (alternatives_at m k)

-- the cycles in which a grid of an automaton takes the unit of this number there
abbrev pub cycles_at : ℕ → List (Pair ℕ) → List ℕ
cycles_at unit grid = map (λ p. p.cycle) (filter (λ p. p.unit == unit) grid)

-- the same of each grid of a list
abbrev pub ways_in : ℕ → List (List (Pair ℕ)) → List (List ℕ)
ways_in unit list = map (cycles_at unit) list

-- The same of each class, by its list for each automaton. The load of a unit by these lists is that by the alternatives: law
-- `bounds_are_of_lists`.
abbrev pub ways_by : List (List (List (List (Pair ℕ)))) → UnitPlace → ℕ → List (List ℕ)
ways_by lists u k = ways_in u.unit (slice_index_or (slice_index_or lists k []) u.automaton [])

-- ---- the load of a unit

-- What instructions ask a unit for: for how many cycles, and how many of them the end of the block needn't wait for.
pub record Load : Type 0 where
  pub count : ℕ
  pub span : ℕ
  pub value : ℕ

-- A unit, by the cycles in which each alternative of each class takes it.
module _ (taken : ℕ → List (List ℕ)) where
  -- the least number of cycles for which an alternative of the class takes it
  abbrev pub force : ℕ → ℕ
  force k = least (map length (taken k))

  -- Of the classes of instructions those that can't do without it.
  abbrev pub users : List ℕ → List ℕ
  users classes = filter (λ k. nat_lt 0 (force k)) classes

  -- the cycles in which alternatives of these may take it
  abbrev pub cycles_of_users : List ℕ → List ℕ
  cycles_of_users classes = flat_map (λ k. flat_map (λ cycles. cycles) (taken k)) (users classes)

  -- for how many cycles these take it at least
  abbrev pub count : List ℕ → ℕ
  count classes = sum_by force (users classes)

  -- from the first of these cycles to the last
  abbrev pub span : List ℕ → ℕ
  span classes = greatest (cycles_of_users classes) - least (cycles_of_users classes)

  -- what these ask it for
  abbrev pub asked_load : List ℕ → Load
  asked_load classes = record { count = count classes; span = span classes; value = count classes - 1 - span classes }

  -- the load, where some instruction can't do without the unit
  abbrev pub load_of : List ℕ → Option Load
  load_of classes = if nat_lt 0 (length (users classes)) then Some (asked_load classes) else None
