-- What two machines have by the same names, and events by these names. This profile, docs/RULES.md, 'Machines that are
-- compared'.
use Rattle.std.specs.Prelude.{ℕ, ◌+◌, List, ◌∷◌, ◌++◌, Bool, Option, Some, None, not, is_some, unwrap_or, length, map, filter, slice_index_or}
use Rattle.hz_base_model.specs.Lines.{place_of}
use Rattle.hz_pipeline_model.specs.Accepting.Events.{Event, issue, advance, ask}
use Rattle.hz_pipeline_model.specs.Traces.TraceNames.{query_place}
use Rattle.hz_pipeline_model.specs.Tables.Machines.{Machine, names_of}
use Rattle.hz_pipeline_model.specs.Tables.MachineNames.{names_of_machine}

-- The names of classes and of query units that both machines have, in the order of the first.
pub record Common : Type 0 where
  pub classes : List (List ℕ)
  pub asks : List (List ℕ)

-- whether a machine has a class, or a query unit, of this name
abbrev pub has_class : Machine → List ℕ → Bool
has_class m name = is_some (place_of name m.classes)

abbrev pub has_ask : Machine → List ℕ → Bool
has_ask m name = is_some (query_place (names_of_machine m) name)

-- what both machines have
abbrev pub common_of : Machine → Machine → Common
common_of first second = record { classes = filter (has_class second) first.classes; asks = filter (has_ask second) (names_of first.parts) }

-- what a machine has and another has not: classes, and query units
abbrev pub classes_alone : Machine → Machine → List (List ℕ)
classes_alone m other = filter (λ name. not (has_class other name)) m.classes

abbrev pub asks_alone : Machine → Machine → List (List ℕ)
asks_alone m other = filter (λ name. not (has_ask other name)) (names_of m.parts)

-- the issue of the class of a name; a name that no class has is a class that isn't there
abbrev pub issue_of : Machine → List ℕ → Event
issue_of m name = issue (unwrap_or (place_of name m.classes) (length m.classes))

-- the ask of the query unit at a place; where there is none, of a unit that isn't there
abbrev pub ask_at : Machine → Option (ℕ × ℕ) → Event
ask_at m None = ask (length m.parts) 0
ask_at m (Some place) = ask place.0 place.1

-- the ask of the query unit of a name
abbrev pub ask_of : Machine → List ℕ → Event
ask_of m name = ask_at m (query_place (names_of_machine m) name)

-- Symbols are numbers of events: first the issues of the common classes, then the advance of one cycle, then the asks of
-- the common query units. These are their events in a machine.
abbrev pub events_of : Common → Machine → List Event
events_of common m = map (issue_of m) common.classes ++ advance 1 ∷ map (ask_of m) common.asks

-- the symbol of the advance; those of issues are below it, and those of asks above
abbrev pub advance_symbol : Common → ℕ
advance_symbol common = length common.classes

-- how many symbols there are
abbrev pub symbol_count : Common → ℕ
symbol_count common = length common.classes + 1 + length common.asks

-- the event of a symbol in a machine
abbrev pub event_at : Common → Machine → ℕ → Event
event_at common m symbol = slice_index_or (events_of common m) symbol (advance 0)

-- the events of a word of symbols in a machine
abbrev pub events_at : Common → Machine → List ℕ → List Event
events_at common m word = map (event_at common m) word
