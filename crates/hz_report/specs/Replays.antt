-- The text of a replay: a line for each ask before it ends, and how it ends.
use Rattle.std.specs.Prelude.{⊤, ℕ, List, [], ◌∷◌, ◌++◌, All, length, take, slice_index_or}
use Rattle.std.specs.Option.{unwrap_or}
use Rattle.hz_pipeline_model.specs.Accepting.Asking.{IsOfQuery}
use Rattle.hz_pipeline_model.specs.Accepting.Events as accepting
use Rattle.hz_pipeline_model.specs.Accepting.Events.{IsOfClass}
use Rattle.hz_front_model.specs.Asks.{query_name}
use Rattle.hz_front_model.specs.Texts.{accepted_line, ask_line, refused_line}
use Rattle.hz_pipeline_model.specs.Tables.MachineNames.{names_of_machine}
use Rattle.hz_pipeline_model.specs.Tables.Machines.{Machine, parts_walk, starts_of, states_tell}
use Rattle.hz_replay.specs.Lines.{event_of}
use Rattle.hz_replay.specs.Replaying.{IsOutcome}
use Rattle.hz_replay.specs.Traces.{events_in}
use Rattle.hz_replay.specs.declared.event.Event.{Event}
use Rattle.hz_replay.specs.declared.event.What.TheVariants.{Issue}
use Rattle.hz_replay.specs.declared.outcome.Outcome.{Outcome}
use Rattle.hz_replay.specs.declared.outcome.Outcome.TheVariants.{Accepted, Refused}
use Rattle.hz_tables.specs.Machines.{machine_of}
use Rattle.hz_tables.specs.declared.machine.Machine as tables

-- the states after an event; one that is not walked leaves them
abbrev pub beyond : Machine → List ℕ → Event → List ℕ
beyond m states e = unwrap_or (parts_walk m.parts states (event_of e.what ∷ [])) states

-- the states after events
abbrev pub states_from : Machine → List ℕ → List Event → List ℕ
states_from m states [] = states
states_from m states (e ∷ events) = states_from m (beyond m states e) events

-- what is reported of an event that stands on this line, in these states: an ask is answered
abbrev pub reported_on : Machine → List ℕ → ℕ → accepting.Event → List ℕ
reported_on m states line (accepting.issue class) = []
reported_on m states line (accepting.advance cycles) = []
reported_on m states line (accepting.ask part query) = ask_line line (query_name (names_of_machine m) part query) (states_tell m states part query)

abbrev pub line_of : Machine → List ℕ → Event → List ℕ
line_of m states e = reported_on m states e.line (event_of e.what)

-- the lines of the asks among events
abbrev pub asks_from : Machine → List ℕ → List Event → List ℕ
asks_from m states [] = []
asks_from m states (e ∷ events) = line_of m states e ++ asks_from m (beyond m states e) events

-- the events before the one that is refused, or all
abbrev pub taken : Outcome → List Event → List Event
taken (Accepted issues cycles) events = events
taken (Refused event) events = take event events

-- an event that is no ask
abbrev pub AsksNothing : accepting.Event → Type 0
AsksNothing (accepting.issue class) = ⊤
AsksNothing (accepting.advance cycles) = ⊤
AsksNothing (accepting.ask part query) = ⊥

-- the name of the class that an event issues
abbrev pub issued_name : (classes : List (List ℕ)) → accepting.Event → List ℕ
issued_name classes (accepting.issue class) = slice_index_or classes class []
issued_name classes _ = []

-- an event, read where there is none
abbrev pub no_event : Event
no_event = record { line = 0; what = Issue 0 }

-- the line of an event that is refused
abbrev pub refused_by : (classes : List (List ℕ)) → Event → List ℕ
refused_by classes e = refused_line e.line (issued_name classes (event_of e.what))

-- how a replay ends
abbrev pub end_line : (classes : List (List ℕ)) → List Event → Outcome → List ℕ
end_line classes events (Accepted issues cycles) = accepted_line issues cycles
end_line classes events (Refused event) = refused_by classes (slice_index_or events event no_event)

abbrev pub replay_text : Machine → List Event → Outcome → List ℕ
replay_text m events outcome = asks_from m (starts_of m) (taken outcome events) ++ end_line m.classes events outcome

-- The events are of the machine's classes and of its units that are asked for, and the outcome is that of their replay.
pub record IsReplay (machine : tables.Machine) (events : List Event) (outcome : Outcome) : Type 0 where
  pub classes : All (IsOfClass (length machine.classes.items)) (events_in events)
  pub asks : All (IsOfQuery (names_of_machine (machine_of machine)).queries) (events_in events)
  pub replayed : IsOutcome (machine_of machine) (events_in events) outcome
