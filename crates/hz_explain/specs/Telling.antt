-- What is reported of a refusal, by what the code holds: its reasons, and the issues that hold what stands reserved.
use Rattle.std.specs.Prelude.{◌≡◌, ◌==◌, ℕ, Bool, nat_lt, List, [], ◌∷◌, ◌++◌, length, map, codes, decimal, Option, Some, None, slice_get, if◌then◌else◌}
use Rattle.std.specs.List.{concat, find, flat_map}
use Rattle.std.specs.Option.{option_map}
use Rattle.std.specs.declared.alloc.Global.{Global}
use Rattle.std.specs.declared.vec.Vec.{Vec}
use Rattle.hz_checked.specs.declared.checked.CheckedAutomaton.{CheckedAutomaton}
use Rattle.hz_check.specs.declared.parts.Parts.{Parts}
use Rattle.hz_check_reservations.specs.Shape.{place_of}
use Rattle.hz_description_model.specs.Reservations.Automata.{UnitPlace, place_cmp}
use Rattle.hz_mdread.specs.Shape.{set_kind}
use Rattle.hz_mdread.specs.declared.description.Description.{Description}
use Rattle.hz_mdread.specs.declared.items.ClassItem.{ClassItem}
use Rattle.hz_mdread.specs.declared.items.SetItem.{SetItem}
use Rattle.hz_pipeline_model.specs.Accepting.Replay.{Pipeline, State, alternatives_at}
use Rattle.hz_why_model.specs.Answers.{set_word}
use Rattle.hz_why_model.specs.Explanations.{Wording, held_word}
use Rattle.hz_why_model.specs.Reasons.{reason_of, same_place}
use Rattle.hz_reasons.specs.Breaking.{reason_at}
use Rattle.hz_reasons.specs.Holding.{is_holder_of}
use Rattle.hz_reasons.specs.Plans.{unit_of}
use Rattle.hz_reasons.specs.declared.holders.Holder.{Holder}
use Rattle.hz_reasons.specs.declared.plan.AutomatonUnit.{AutomatonUnit}
use Rattle.hz_reasons.specs.declared.plan.Place.{Place}
use Rattle.hz_reasons.specs.declared.plan.Plan.{Plan}
use Rattle.hz_reasons.specs.declared.plan.SetStatement.{SetStatement}
use Rattle.hz_reasons.specs.declared.reasons.Break.{Break}
use Rattle.hz_reasons.specs.declared.reasons.Reason.{Reason}
use Rattle.hz_reasons.specs.declared.reasons.Reason.TheVariants.{Taken, Broken}

-- ---- names

-- a name, empty where there is none
abbrev pub name_or_none : Option (List ℕ) → List ℕ
name_or_none None = []
name_or_none (Some name) = name

-- the units of an automaton, none where there is no such automaton
abbrev pub units_or_none : Option CheckedAutomaton → List (List ℕ)
units_or_none None = []
units_or_none (Some a) = a.units.items

-- the name of a unit
abbrev pub unit_name : Parts → UnitPlace → List ℕ
unit_name parts u = name_or_none (slice_get (units_or_none (slice_get parts.automata.items u.automaton)) u.unit)

abbrev pub class_or_none : Option ClassItem → List ℕ
class_or_none None = []
class_or_none (Some c) = c.name

-- the name of a class
abbrev pub class_name : Description → ℕ → List ℕ
class_name d k = class_or_none (slice_get d.classes.items k)

abbrev pub word_or_none : Option SetItem → List ℕ
word_or_none None = []
word_or_none (Some s) = set_word (set_kind s.kind)

-- the word of a set statement
abbrev pub statement_word : Description → ℕ → List ℕ
statement_word d n = word_or_none (slice_get d.sets.items n)

abbrev pub line_or_none : Option SetItem → ℕ
line_or_none None = 0
line_or_none (Some s) = s.line

-- its line
abbrev pub statement_line : Description → ℕ → ℕ
statement_line d n = line_or_none (slice_get d.sets.items n)

-- how a description is spoken of, of which these are the parts
abbrev pub wording_in : Description → Parts → Wording UnitPlace
wording_in d parts = record {
  units = map place_of parts.places.items;
  same = same_place;
  unit_cmp = place_cmp;
  unit = unit_name parts;
  class = class_name d;
  statement = statement_word d;
  line = statement_line d;
}

-- ---- who holds a unit

-- the issue that holds a unit in a cycle, which is counted from the present one
abbrev pub holder_in : Plan → List Holder → UnitPlace → (cycle : ℕ) → Option Holder
holder_in plan issues u cycle = if nat_lt u.automaton (length plan.rules.items) then find (is_holder_of plan u cycle) issues else None

-- ---- the pattern by which a statement is broken

abbrev pub pattern_or_none : Option (Vec AutomatonUnit Global) → List AutomatonUnit
pattern_or_none None = []
pattern_or_none (Some pattern) = pattern.items

abbrev pub pattern_numbered : List (Vec AutomatonUnit Global) → Option ℕ → List AutomatonUnit
pattern_numbered patterns None = []
pattern_numbered patterns (Some number) = pattern_or_none (slice_get patterns number)

abbrev pub patterns_or_none : Option SetStatement → List (Vec AutomatonUnit Global)
patterns_or_none None = []
patterns_or_none (Some s) = s.patterns.items

-- the pattern; an empty one where a pattern is missed
abbrev pub pattern_in : List SetStatement → Break → List AutomatonUnit
pattern_in sets b = pattern_numbered (patterns_or_none (slice_get sets b.statement)) b.pattern

-- ---- lines

-- the unit of a pair
abbrev pub unit_in : Place → AutomatonUnit
unit_in p = record { automaton = p.automaton; unit = p.unit }

module _ (w : Wording UnitPlace) where
  -- a unit in a cycle
  abbrev pub pair_reported : AutomatonUnit → (cycle : ℕ) → List ℕ
  pair_reported u cycle = concat (w.unit (unit_of u) ∷ codes " in cycle " ∷ decimal cycle ∷ [])

  -- who holds it in a cycle
  abbrev pub holder_reported : (cycle : ℕ) → Option Holder → List ℕ
  holder_reported cycle None = []
  holder_reported cycle (Some h) = concat (held_word (cycle == 0) ∷ decimal h.line ∷ codes ", " ∷ w.class h.class ∷ [])

  -- units, each after a blank
  abbrev pub units_reported : List AutomatonUnit → List ℕ
  units_reported us = flat_map (λ u. codes " " ++ w.unit (unit_of u)) us

  -- a pattern
  abbrev pub pattern_reported : List AutomatonUnit → List ℕ
  pattern_reported [] = codes " without a pattern"
  pattern_reported (u ∷ us) = codes " with" ++ units_reported (u ∷ us)

  -- a set statement that is broken
  abbrev pub broken_reported : Plan → Break → List ℕ
  broken_reported plan b = concat (w.statement b.statement ∷ codes " line " ∷ decimal (w.line b.statement) ∷ codes ", " ∷ pair_reported b.unit b.cycle ∷ pattern_reported (pattern_in plan.sets.items b) ∷ [])

  module _ (plan : Plan) (issues : List Holder) where
    -- what forbids an alternative
    abbrev pub reason_reported : Reason → List ℕ
    reason_reported (Taken p) = pair_reported (unit_in p) p.cycle ++ holder_reported p.cycle (holder_in plan issues (unit_of (unit_in p)) p.cycle)
    reason_reported (Broken b) = broken_reported plan b

-- by which choices
abbrev pub choice_reported : (any_fit : Bool) → List ℕ
choice_reported any_fit = if any_fit then codes "by one of the choices\n" else []

-- how many cycles later, and whether it is one
abbrev pub later_reported : (cycles : ℕ) → (one : Bool) → List ℕ
later_reported cycles one = if one then codes "fits 1 cycle later\n" else concat (codes "fits " ∷ decimal cycles ∷ codes " cycles later\n" ∷ [])

-- ---- what forbids alternatives

-- these are the reasons of the alternatives of a class, by what stands reserved
abbrev pub AreReasons : Pipeline UnitPlace → State UnitPlace → (class : ℕ) → List (Option Reason) → Type 0
AreReasons m s k reasons = map (option_map (reason_at m.statements s.now)) reasons ≡ map (reason_of same_place place_cmp m.statements s.reserved s.now) (alternatives_at m k)
