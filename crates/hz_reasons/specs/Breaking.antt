-- How set statements are broken, by what stands reserved and what is added in each automaton, with cycles counted from the present one.
use Rattle.std.specs.Prelude.{◌≡◌, ⊤, ℕ, suc, ◌+◌, Bool, true, false, not, ◌&&◌, ◌||◌, if◌then◌else◌, List, [], ◌∷◌, Option, Some, None, slice_get, slice_index_or}
use Rattle.std.specs.List.{find, list_all}
use Rattle.std.specs.Option.{option_map, option_and_then}
use Rattle.hz_base_model.specs.Pairs.{Pair, later}
use Rattle.hz_description_model.specs.Reservations.Automata.{UnitPlace}
use Rattle.hz_description_model.specs.Reservations.Sets.{SetKind, exclusion, presence, final_presence, absence, final_absence, Statement}
use Rattle.hz_pipeline_model.specs.Accepting.Plays.{asks}
use Rattle.hz_why_model.specs.Reasons as model
use Rattle.hz_why_model.specs.Reasons.{taken, broken, patterns_of, or_else, breaking, breaking_pattern}
use Rattle.hz_reasons.specs.Plans.{place_of, unit_of}
use Rattle.hz_reasons.specs.Taken.{is_held}
use Rattle.hz_reasons.specs.declared.plan.Place.{Place}
use Rattle.hz_reasons.specs.declared.reasons.Break.{Break}
use Rattle.hz_reasons.specs.declared.reasons.Reason.{Reason}
use Rattle.hz_reasons.specs.declared.reasons.Reason.TheVariants.{Taken, Broken}
use Rattle.hz_reasons.specs.declared.statements.Seen.{Seen}
use Rattle.hz_reasons.specs.declared.statements.Seen.TheVariants.{Standing, Added, Both}

-- ---- what is answered

-- the pattern of this number; an empty one without a number
abbrev pub pattern_at : List (List UnitPlace) → Option ℕ → List UnitPlace
pattern_at patterns None = []
pattern_at patterns (Some number) = slice_index_or patterns number []

-- how a statement with these patterns is broken, where the present cycle is `now`
abbrev pub broken_with : List (List UnitPlace) → (now : ℕ) → Break → model.Reason UnitPlace
broken_with patterns now b = broken b.statement (now + b.cycle) (unit_of b.unit) (pattern_at patterns b.pattern)

-- what forbids an alternative of a pipeline with these statements, where the present cycle is `now`
abbrev pub reason_at : List (Statement UnitPlace) → (now : ℕ) → Reason → model.Reason UnitPlace
reason_at statements now (Taken p) = taken (later now (place_of p))
reason_at statements now (Broken b) = broken_with (patterns_of (slice_get statements b.statement)) now b

-- ---- by tests of what stood there, what is added, and all

-- which of the three tests
abbrev pub seen : Seen → (source added result : UnitPlace → Bool) → UnitPlace → Bool
seen Standing source added result = source
seen Added source added result = added
seen Both source added result = result

-- where a statement of this kind looks for a pattern
abbrev pub looked_in : SetKind → (source result : UnitPlace → Bool) → UnitPlace → Bool
looked_in exclusion source result = result
looked_in presence source result = source
looked_in final_presence source result = result
looked_in absence source result = source
looked_in final_absence source result = result

-- whether it is broken where a pattern is missed, and not where one is there
abbrev pub wants : SetKind → Bool
wants exclusion = false
wants presence = true
wants final_presence = true
wants absence = false
wants final_absence = false

-- Whether a statement is broken that wants a pattern or not, by whether a unit of it is there and whether a pattern is.
abbrev pub breaks : (wanted unit whole : Bool) → Bool
breaks wanted unit whole = unit && (if wanted then not whole else whole)

module _ (source added result : (cycle : ℕ) → UnitPlace → Bool) where
  -- the statement does not allow the cycle
  abbrev pub is_broken_by : Statement UnitPlace → (cycle : ℕ) → Bool
  is_broken_by s cycle = not (asks s.kind s.units s.patterns (source cycle) (added cycle) (result cycle))

  -- how the statement of this number is broken in a cycle
  abbrev pub broken_by : (now number : ℕ) → Statement UnitPlace → (cycle : ℕ) → Option (model.Reason UnitPlace)
  broken_by now number s cycle = option_map
      (λ u. broken number (now + cycle) u (breaking_pattern s.kind s.patterns (source cycle) (result cycle)))
      (find (breaking s.kind (added cycle) (result cycle)) s.units)

  -- the same in the first cycle of these pairs in which it is broken
  abbrev pub broken_first_by : (now number : ℕ) → Statement UnitPlace → List Place → Option (model.Reason UnitPlace)
  broken_first_by now number s pairs = option_and_then (λ p. broken_by now number s p.cycle) (find (λ p. is_broken_by s p.cycle) pairs)

  -- how the first statement is broken that is, where the first of these has this number
  abbrev pub first_broken_by : (now number : ℕ) → List (Statement UnitPlace) → List Place → Option (model.Reason UnitPlace)
  first_broken_by now number [] pairs = None
  first_broken_by now number (s ∷ others) pairs = or_else (broken_first_by now number s pairs) (first_broken_by now (suc number) others pairs)

-- whether the unit is held in the cycle when the parts are added
abbrev pub is_held_with : (grids parts : List (List (Pair ℕ))) → (cycle : ℕ) → UnitPlace → Bool
is_held_with grids parts cycle u = is_held grids cycle u || is_held parts cycle u

-- which units are held in the cycle
abbrev pub seen_in : Seen → (grids parts : List (List (Pair ℕ))) → (cycle : ℕ) → UnitPlace → Bool
seen_in which grids parts cycle = seen which (is_held grids cycle) (is_held parts cycle) (is_held_with grids parts cycle)

-- ---- by which pattern

-- the number of the first item that passes, where the first of these has this number; none where none passes
abbrev pub first_number_from : {X : Type 0} → (X → Bool) → (number : ℕ) → List X → Option ℕ
first_number_from test number [] = None
first_number_from test number (x ∷ xs) = if test x then Some number else first_number_from test (suc number) xs

-- of a statement that wants no pattern, the number of the first that is wholly where it looks for one in the cycle, if there is one;
-- none of a statement that wants a pattern
abbrev pub number_in : Statement UnitPlace → (grids parts : List (List (Pair ℕ))) → (cycle : ℕ) → Option ℕ
number_in s grids parts cycle = if wants s.kind then None else first_number_from (list_all (looked_in s.kind (is_held grids cycle) (is_held_with grids parts cycle))) 0 s.patterns

-- the break's statement is there, and its pattern has the number that `number_in` gives in its cycle
abbrev pub HasPatternNumber : List (Statement UnitPlace) → (grids parts : List (List (Pair ℕ))) → Break → Type 0
HasPatternNumber statements grids parts b = option_map (λ s. number_in s grids parts b.cycle) (slice_get statements b.statement) ≡ Some b.pattern

-- the same of what forbids an alternative, if that is a statement that is broken
abbrev pub IsNumbered : List (Statement UnitPlace) → (grids parts : List (List (Pair ℕ))) → Reason → Type 0
IsNumbered statements grids parts (Taken p) = ⊤
IsNumbered statements grids parts (Broken b) = HasPatternNumber statements grids parts b
