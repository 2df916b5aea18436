-- Asks of query units. GCC Internals, 'Specifying processor pipeline description', on `define_query_cpu_unit`.
use Rattle.std.specs.Prelude.{ℕ, ◌<◌, List, [], ◌∷◌, length, take, slice_index_or}
use Rattle.std.specs.List.{Contains}
use Rattle.hz_pipeline_model.specs.Accepting.Events.{Event, issue, advance, ask, cycles_of}
use Rattle.hz_pipeline_model.specs.Accepting.Replay.{Pipeline, ChoiceFirst, calendar}

-- The unit is reserved in the present cycle after these events: their issues are accepted in the first treatment, and
-- what they reserve has it there.
abbrev pub IsHeld : {U : Type 0} → Pipeline U → List Event → U → Type 0
IsHeld m t unit = (choices : List ℕ) × ChoiceFirst m t choices × Contains (calendar m 0 t choices) (record { unit = unit; cycle = cycles_of t })

-- what an ask at this place of the events is answered: the unit is reserved after the events before it
abbrev pub Asked : {U : Type 0} → Pipeline U → List Event → (place : ℕ) → U → Type 0
Asked m t place unit = IsHeld m (take place t) unit

-- An ask names one of the query units of its automaton, where these are listed automaton by automaton.
abbrev pub IsOfQuery : {Q : Type 0} → (queries : List (List Q)) → Event → Type 0
IsOfQuery queries (issue k) = Unit {0}
IsOfQuery queries (advance n) = Unit {0}
IsOfQuery queries (ask a u) = u < length (slice_index_or queries a [])

-- the issues and advances among the events, in their order
abbrev pub issues_and_advances : List Event → List Event
issues_and_advances [] = []
issues_and_advances (issue k ∷ t) = issue k ∷ issues_and_advances t
issues_and_advances (advance n ∷ t) = advance n ∷ issues_and_advances t
issues_and_advances (ask a u ∷ t) = issues_and_advances t
