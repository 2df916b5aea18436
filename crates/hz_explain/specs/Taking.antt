-- What alternatives take, by what the code holds of each: its pairs, and its pairs in each automaton.
use Rattle.std.specs.Prelude.{◌≡◌, ℕ, zero, suc, ◌+◌, ◌-◌, ◌&&◌, Bool, nat_lt, List, [], ◌∷◌, ◌++◌, codes, decimal, map, take, length, if◌then◌else◌}
use Rattle.std.specs.List.{concat}
use Rattle.hz_base_model.specs.Pairs.{Pair}
use Rattle.hz_description_model.specs.Reservations.Automata.{UnitPlace}
use Rattle.hz_pipeline_model.specs.Accepting.Plays.{holds}
use Rattle.hz_why_model.specs.Groups.{group_texts}
use Rattle.hz_why_model.specs.Lists.{listed, alternatives_text}
use Rattle.hz_why_model.specs.Pictures.{line_limit, cycles_in}
use Rattle.hz_why_model.specs.Reasons.{same_place}
use Rattle.hz_why_model.specs.Takes as model
use Rattle.hz_why_model.specs.Takes.{takes_limit, are_same, stretch_text, takes_word}
use Rattle.hz_reasons.specs.Plans.{place_of, unit_of}
use Rattle.hz_reasons.specs.Taken.{is_held}
use Rattle.hz_explain.specs.declared.takes.Stretch.{Stretch}
use Rattle.hz_reasons.specs.declared.plan.Choice.{Choice}

-- all pairs of an alternative
abbrev pub pairs_in : Choice → List (Pair UnitPlace)
pairs_in c = map place_of c.pairs.items

-- a stretch that the code holds
abbrev pub stretch_of : Stretch → model.Stretch UnitPlace
stretch_of s = record { unit = unit_of s.unit; first = s.first; last = s.last }

-- an alternative's pairs in each automaton are all its pairs
abbrev pub IsInParts : Choice → Type 0
IsInParts c = (cycle : ℕ) (u : UnitPlace) → holds same_place (pairs_in c) cycle u ≡ is_held c.parts.items cycle u

-- ---- stretches, by the pairs in each automaton

module _ (parts : List (List (Pair ℕ))) where
  -- for how many cycles after this one the unit is taken without a break, of at most so many
  abbrev pub runs_on : (most : ℕ) → UnitPlace → (cycle : ℕ) → ℕ
  runs_on zero u cycle = 0
  runs_on (suc most) u cycle = if is_held parts (suc cycle) u then suc (runs_on most u (suc cycle)) else 0

  -- whether the unit of a pair is taken in the cycle before it, too
  abbrev pub runs_before : Pair UnitPlace → Bool
  runs_before p = nat_lt 0 p.cycle && is_held parts (p.cycle - 1) p.unit

  -- the last cycle of the stretch that begins with a pair, where all is within so many cycles
  abbrev pub runs_to : (cycles : ℕ) → UnitPlace → (cycle : ℕ) → ℕ
  runs_to cycles u cycle = cycle + runs_on (cycles - suc cycle) u cycle

  -- the stretch that begins with a pair
  abbrev pub stretch_at : (cycles : ℕ) → Pair UnitPlace → model.Stretch UnitPlace
  stretch_at cycles p = record { unit = p.unit; first = p.cycle; last = runs_to cycles p.unit p.cycle }

  -- the stretches that begin with a pair, if one does
  abbrev pub stretches_at : (cycles : ℕ) → Pair UnitPlace → List (model.Stretch UnitPlace)
  stretches_at cycles p = if runs_before p then [] else stretch_at cycles p ∷ []

  -- the stretches that begin with one of these pairs
  abbrev pub stretches_by : (cycles : ℕ) → List (Pair UnitPlace) → List (model.Stretch UnitPlace)
  stretches_by cycles [] = []
  stretches_by cycles (p ∷ ps) = stretches_at cycles p ++ stretches_by cycles ps

-- the stretches of an alternative
abbrev pub stretches_in : Choice → List (model.Stretch UnitPlace)
stretches_in c = stretches_by c.parts.items (cycles_in (pairs_in c)) (pairs_in c)

-- ---- lines

-- texts of stretches, in the columns that are left
abbrev pub taken_by : (columns : ℕ) → List (List ℕ) → List ℕ
taken_by columns [] = codes " nothing"
taken_by columns (text ∷ texts) = listed columns (codes " ") (codes ", ") (text ∷ texts)

-- whether two alternatives take the same
abbrev pub take_alike : Choice → Choice → Bool
take_alike a b = are_same same_place (pairs_in a) (pairs_in b)

-- how many more alternatives there are than are written, if there are more
abbrev pub more_reported : (alternatives : ℕ) → List ℕ
more_reported alternatives = if nat_lt takes_limit alternatives then concat (codes "more alternatives: " ∷ decimal (alternatives - takes_limit) ∷ codes "\n" ∷ []) else []

module _ (name : UnitPlace → List ℕ) where
  -- the line of the alternatives of these numbers, which take the same as this one
  abbrev pub line_reported : (numbers : List ℕ) → Choice → List ℕ
  line_reported numbers c = concat (alternatives_text numbers ∷ takes_word numbers ∷ taken_by (line_limit - (length (alternatives_text numbers) + length (takes_word numbers))) (map (stretch_text name) (stretches_in c)) ∷ codes "\n" ∷ [])

  -- what alternatives take: of the first of them, those that take the same as one
  abbrev pub takes_reported : List Choice → List ℕ
  takes_reported choices = group_texts take_alike line_reported (take takes_limit choices) ++ more_reported (length choices)
