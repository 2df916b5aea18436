-- Query units as the parts of a description hold them.
use Rattle.std.specs.Prelude.{◌≢◌, ℕ, ◌<◌, ◌≤◌, List, All, length, map}
use Rattle.std.specs.List.{AllPairs}
use Rattle.hz_base_model.specs.Limits.{unit_limit}
use Rattle.hz_checked.specs.declared.checked.CheckedAutomaton.{CheckedAutomaton}
use Rattle.hz_check.specs.declared.parts.Parts.{Parts}
use Rattle.hz_checked.specs.Shape.{automaton_of}
use Rattle.hz_description_model.specs.Check.CheckedShape.{ask_names}

-- the query units of an automaton are units of it by their numbers
abbrev pub AsksUnits : CheckedAutomaton → Type 0
AsksUnits a = All (λ unit. unit < length a.units.items) a.queries.items

-- the numbers of the query units, automaton by automaton
abbrev pub queries_held : Parts → List (List ℕ)
queries_held parts = map (λ a. a.queries.items) parts.automata.items

-- The query units of an automaton are units of it, have names of their own, and are not too many.
pub record AsksApart (a : CheckedAutomaton) : Type 0 where
  pub units : AsksUnits a
  pub names : AllPairs (λ x y. x ≢ y) (ask_names (automaton_of a))
  pub few : length a.queries.items ≤ unit_limit
