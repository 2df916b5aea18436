-- What is kept for names.
use Rattle.std.specs.Prelude.{◌≡◌, ℕ, ◌<◌, Bool, List, length, Option, Some}
use Rattle.std.specs.Ordering.{nat_cmp}
use Rattle.std.specs.Cmp.Lexicographic.{slice_cmp}
use Rattle.std.specs.BTreeMap.{get}
use Rattle.hz_description_model.specs.Reservations.Alternatives.{Alternative, Expression, Parts}
use Rattle.hz_description_model.specs.Reservations.Automata.{UnitPlace}
use Rattle.hz_description_model.specs.Reservations.Meanings.{Mentions, MentionsIn}
use Rattle.hz_description_model.specs.Check.Places.{Known}
use Rattle.hz_description_model.specs.Check.Places.{meaning, IsKnown}
use Rattle.hz_description_model.specs.Reading.Descriptions.{Description}
use Rattle.hz_description_model.specs.Splits.Rules.{passes, is_mixed, is_uneven}
use Rattle.hz_check_reservations.specs.declared.rules.habits.Habits.{Habits}
use Rattle.hz_check_reservations.specs.declared.rules.table.Table.{Table}
use Rattle.hz_check_reservations.specs.Habits.{Fits}

-- what is kept for a name
abbrev pub habits_in : Table → List ℕ → Option Habits
habits_in table name = get (slice_cmp nat_cmp) table.names name

-- what is kept for each name in the expression is right of its alternatives, of which there are some
pub record AreRight (kept : List ℕ → Option Habits) (known : List ℕ → List (Alternative UnitPlace)) (mixed uneven : List ℕ → Bool) (e : Expression) : Type 0 where
  pub each : (name : List ℕ) (h : Habits) → Mentions e name → kept name ≡ Some h → Fits (known name) (mixed name) (uneven name) h
  pub some : (name : List ℕ) → Mentions e name → 0 < length (known name)

-- the same of the names in parts
pub record AreRightIn (kept : List ℕ → Option Habits) (known : List ℕ → List (Alternative UnitPlace)) (mixed uneven : List ℕ → Bool) (parts : Parts) : Type 0 where
  pub each : (name : List ℕ) (h : Habits) → MentionsIn parts name → kept name ≡ Some h → Fits (known name) (mixed name) (uneven name) h
  pub some : (name : List ℕ) → MentionsIn parts name → 0 < length (known name)

-- an alternation inside the name holds units of two automata
abbrev pub mixed_in : Description → Known → List ℕ → Bool
mixed_in d known name = passes (is_mixed known) (meaning d) (length d.reservations) name

-- a part before a comma or in a repeat, inside the name, has two lengths
abbrev pub uneven_in : Description → Known → List ℕ → Bool
uneven_in d known name = passes (is_uneven known) (meaning d) (length d.reservations) name

-- what is to be kept for a name of the description
pub record HasHabits (d : Description) (name : List ℕ) (h : Habits) : Type 0 where
  pub fits : (known : Known) → IsKnown d known → Fits (known name) (mixed_in d known name) (uneven_in d known name) h
  pub some : (known : Known) → IsKnown d known → 0 < length (known name)
