-- Which units a picture shows, and what it shows of them, by what the code holds.
use Rattle.std.specs.Prelude.{◌≡◌, ℕ, ◌+◌, ◌-◌, ◌*◌, ◌&&◌, ◌||◌, Bool, false, nat_le, nat_lt, max, List, [], ◌∷◌, map, decimal, Option, Some, None, slice_index_or, if◌then◌else◌}
use Rattle.std.specs.List.{find, flat_map, list_any, range_with_len}
use Rattle.std.specs.Option.{option_map}
use Rattle.std.specs.declared.alloc.Global.{Global}
use Rattle.std.specs.declared.vec.Vec.{Vec}
use Rattle.hz_base_model.specs.Pairs.{Pair}
use Rattle.hz_check.specs.declared.parts.Parts.{Parts}
use Rattle.hz_description_model.specs.Reservations.Automata.{UnitPlace}
use Rattle.hz_why_model.specs.Pictures.{cycles_in, longest}
use Rattle.hz_why_model.specs.Reasons.{same_place}
use Rattle.hz_reasons.specs.Holding.{most, age_of}
use Rattle.hz_reasons.specs.Plans.{unit_of, choices_at, pairs_at}
use Rattle.hz_explain.specs.Telling.{holder_in, unit_in, unit_name}
use Rattle.hz_explain.specs.declared.drawing.Row.{Row}
use Rattle.hz_reasons.specs.declared.holders.Holder.{Holder}
use Rattle.hz_reasons.specs.declared.plan.Choice.{Choice}
use Rattle.hz_reasons.specs.declared.plan.Place.{Place}
use Rattle.hz_reasons.specs.declared.plan.Plan.{Plan}

-- ---- marks, one for each unit that an automaton may have

-- the place of a unit's mark
abbrev pub mark_of : UnitPlace → ℕ
mark_of u = u.automaton * 256 + u.unit

-- whether a unit is marked
abbrev pub is_marked : List Bool → UnitPlace → Bool
is_marked marks u = nat_lt u.unit 256 && slice_index_or marks (mark_of u) false

-- the pair is of the unit, and its cycle is not before this one
abbrev pub is_of : ℕ → UnitPlace → Place → Bool
is_of age u p = nat_le age p.cycle && same_place (unit_of (unit_in p)) u

-- an alternative asks for the unit
abbrev pub is_asked : List Choice → UnitPlace → Bool
is_asked choices u = list_any (λ c. list_any (is_of 0 u) c.pairs.items) choices

-- an issue holds the unit from the present cycle on
abbrev pub is_kept : Plan → List Holder → UnitPlace → Bool
is_kept plan issues u = list_any (λ h. list_any (is_of (age_of h) u) (pairs_at (choices_at plan h.class) h.number)) issues

-- either of both
abbrev pub is_shown : Plan → List Holder → List Choice → UnitPlace → Bool
is_shown plan issues choices u = is_asked choices u || is_kept plan issues u

-- ---- the issues of each unit

-- the lists that the code holds
abbrev pub lists_of : {X : Type 0} → List (Vec X Global) → List (List X)
lists_of lists = map (λ list. list.items) lists

-- the list of a place, empty where there is none
abbrev pub list_at : {X : Type 0} → List (List X) → ℕ → List X
list_at lists place = slice_index_or lists place []

-- the issues in the list of a unit
abbrev pub listed_for : List (Vec Holder Global) → UnitPlace → List Holder
listed_for held u = if nat_lt u.unit 256 then list_at (lists_of held) (mark_of u) else []

-- an issue, as often as one of the pairs is of the unit and not before this cycle
abbrev pub each_time : ℕ → UnitPlace → Holder → List Place → List Holder
each_time age u h pairs = flat_map (λ p. if is_of age u p then h ∷ [] else []) pairs

-- an issue, as often as it has a pair of the unit from the present cycle on
abbrev pub times_held : Plan → UnitPlace → Holder → List Holder
times_held plan u h = each_time (age_of h) u h (pairs_at (choices_at plan h.class) h.number)

-- the issues that hold the unit from the present cycle on
abbrev pub holders_of : Plan → List Holder → UnitPlace → List Holder
holders_of plan issues u = flat_map (times_held plan u) issues

-- a search finds the same in both, whatever is looked for
abbrev pub FindAlike : List Holder → List Holder → Type 0
FindAlike one other = (test : Holder → Bool) → find test one ≡ find test other

-- ---- how many cycles, and how long a cell is

-- the cycles up to the last of a pair of alternatives
abbrev pub cycles_asked : List Choice → ℕ
cycles_asked choices = most (λ c. most (λ p. p.cycle + 1) c.pairs.items) choices

-- the cycles up to the last that is held or asked for
abbrev pub cycles_shown : List Holder → List Choice → ℕ
cycles_shown issues choices = max (most (λ h. h.left + 1) issues) (cycles_asked choices)

-- the longest text of a cell
abbrev pub longest_shown : List Holder → (cycles : ℕ) → ℕ
longest_shown issues cycles = longest (decimal (cycles - 1) ∷ map (λ h. decimal h.line) issues)

-- ---- rows

-- the lines of the issues that hold a unit in each of so many cycles
abbrev pub lines_shown : Plan → List Holder → ℕ → UnitPlace → List (Option ℕ)
lines_shown plan issues cycles u = map (λ cycle. option_map (λ h. h.line) (holder_in plan issues u cycle)) (range_with_len 0 cycles)

-- What a row shows.
pub record Shown : Type 0 where
  pub name : List ℕ
  pub lines : List (Option ℕ)

abbrev pub shown_in : Row → Shown
shown_in row = record { name = row.name.now; lines = row.lines.items }

-- a unit, for so many cycles
abbrev pub shown_of : Parts → Plan → List Holder → ℕ → UnitPlace → Shown
shown_of parts plan issues cycles u = record { name = unit_name parts u; lines = lines_shown plan issues cycles u }

-- the same by the issues in the list of the unit
abbrev pub shown_by : Parts → Plan → List (Vec Holder Global) → ℕ → UnitPlace → Shown
shown_by parts plan held cycles u = shown_of parts plan (listed_for held u) cycles u

-- and by those that hold the unit
abbrev pub shown_held : Parts → Plan → List Holder → ℕ → UnitPlace → Shown
shown_held parts plan issues cycles u = shown_of parts plan (holders_of plan issues u) cycles u

-- a unit if its numbers are small
abbrev pub small_unit : UnitPlace → Option UnitPlace
small_unit u = if nat_lt u.automaton 256 && nat_lt u.unit 256 then Some u else None

-- a unit if it is marked
abbrev pub marked_unit : List Bool → UnitPlace → Option UnitPlace
marked_unit marks u = if is_marked marks u then Some u else None

-- the row of a unit, if there is one
abbrev pub rows_of_unit : Parts → Plan → List (Vec Holder Global) → ℕ → Option UnitPlace → List Shown
rows_of_unit parts plan held cycles None = []
rows_of_unit parts plan held cycles (Some u) = shown_by parts plan held cycles u ∷ []

-- the alternatives ask for these pairs
pub record AskFor (choices : List Choice) (pairs : List (Pair UnitPlace)) : Type 0 where
  pub units : (u : UnitPlace) → list_any (λ p. same_place p.unit u) pairs ≡ is_asked choices u
  pub cycles : cycles_in pairs ≡ cycles_asked choices
