-- Units and set statements inside one automaton. This profile, docs/RULES.md.
use Rattle.std.specs.Prelude.{◌&&◌, ◌≡◌, ℕ, ◌==◌, Bool, List, map}
use Rattle.std.specs.List.{Contains, list_all}
use Rattle.hz_description_model.specs.Reservations.Automata.{UnitPlace}
use Rattle.hz_description_model.specs.Reservations.Sets.{Statement}

-- the units' numbers alone
abbrev pub unit_numbers : List UnitPlace → List ℕ
unit_numbers units = map (λ u. u.unit) units

-- a statement by its units' numbers alone
abbrev pub inside_statement : Statement UnitPlace → Statement ℕ
inside_statement s = record { kind = s.kind; units = unit_numbers s.units; patterns = map unit_numbers s.patterns }

-- whether all of these units are of the automaton
abbrev pub are_inside : ℕ → List UnitPlace → Bool
are_inside automaton units = list_all (λ u. u.automaton == automaton) units

-- whether all units of a statement are of the automaton
abbrev pub is_inside : ℕ → Statement UnitPlace → Bool
is_inside automaton s = are_inside automaton s.units && list_all (are_inside automaton) s.patterns

-- the units of a statement are of the automaton
pub record IsStatementOf (automaton : ℕ) (s : Statement UnitPlace) : Type 0 where
  pub units : (u : UnitPlace) → Contains s.units u → u.automaton ≡ automaton
  pub patterns : (pattern : List UnitPlace) → Contains s.patterns pattern → (u : UnitPlace) → Contains pattern u → u.automaton ≡ automaton
