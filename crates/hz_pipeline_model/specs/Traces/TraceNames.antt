-- The names that the lines of a trace say: this profile, docs/FORMATS.md, 'Trace'.
use Rattle.std.specs.Prelude.{ℕ, ◌+◌, List, [], ◌∷◌, Option, Some, None}
use Rattle.hz_base_model.specs.Lines.{place_of}

-- The names of the classes, and for each automaton those of its query units. The names of query units are distinct over
-- all automata.
pub record TraceNames : Type 0 where
  pub classes : List (List ℕ)
  pub queries : List (List (List ℕ))

-- this automaton and a place there, if there is one, else what is found in a later one
abbrev pub found_first : (automaton : ℕ) → (here : Option ℕ) → (later : Option (ℕ × ℕ)) → Option (ℕ × ℕ)
found_first automaton (Some query) later = Some (automaton, query)
found_first automaton None later = later

-- the automaton of a query unit and its place there, where the lists begin with that of this automaton
abbrev pub query_from : (automaton : ℕ) → List (List (List ℕ)) → List ℕ → Option (ℕ × ℕ)
query_from automaton [] name = None
query_from automaton (units ∷ others) name = found_first automaton (place_of name units) (query_from (automaton + 1) others name)

-- the automaton of a query unit and its place among the query units there, none where no query unit has the name
abbrev pub query_place : TraceNames → List ℕ → Option (ℕ × ℕ)
query_place names name = query_from 0 names.queries name
