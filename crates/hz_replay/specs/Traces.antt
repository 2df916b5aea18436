-- A trace as the reader makes it, line after line.
use Rattle.std.specs.Prelude.{◌≡◌, ℕ, List, [], ◌∷◌, ◌++◌, map, ⊤, Option, Some, None, MatchOption}
use Rattle.hz_pipeline_model.specs.Accepting.Events as events
use Rattle.hz_pipeline_model.specs.Traces.TraceNames.{TraceNames}
use Rattle.hz_pipeline_model.specs.Traces.Traces.{TraceFault, bad_line, unknown_class, too_many_advances, unknown_unit, TraceFaultAt}
use Rattle.hz_replay.specs.Lines.{event_of, fault_of}
use Rattle.hz_replay.specs.declared.words.Wrong.{Wrong as WrongLine}
use Rattle.hz_replay.specs.declared.event.Event.{Event}
use Rattle.hz_replay.specs.declared.fault.TraceFault.{TraceFault as Fault}
use Rattle.hz_replay.specs.declared.fault.TraceFault.TheVariants.{BadLine, UnknownClass, AdvanceLimit, UnknownUnit, NoMemory}

-- the events of a trace that is read
abbrev pub events_in : List Event → List events.Event
events_in items = map (λ e. event_of e.what) items

-- their lines
abbrev pub lines_in : List Event → List ℕ
lines_in items = map (λ e. e.line) items

-- the fault of the definitions and its line; want of memory is none
abbrev pub fault_reported : Fault → Option (TraceFault × ℕ)
fault_reported (BadLine line) = Some (bad_line, line)
fault_reported (UnknownClass line) = Some (unknown_class, line)
fault_reported (AdvanceLimit line) = Some (too_many_advances, line)
fault_reported (UnknownUnit line) = Some (unknown_unit, line)
fault_reported NoMemory = None

-- what is reported of a text that is no trace, where these are the names; want of memory says nothing
abbrev pub IsTraceFault : TraceNames → List ℕ → Fault → Type 0
IsTraceFault names text fault = MatchOption (fault_reported fault) ⊤ (λ reported. TraceFaultAt names text reported.0 reported.1)

-- An event with its line, as a pair.
abbrev pub Placed : Type 0
Placed = events.Event × ℕ

abbrev pub placed_in : List Event → List Placed
placed_in items = map (λ e. (event_of e.what, e.line)) items

-- the event of a line joins those that are done
abbrev pub noted : List Placed → ℕ → Option events.Event → List Placed
noted done number None = done
noted done number (Some e) = done ++ (e, number) ∷ []

-- the cycles that the event of a line advances
abbrev pub cycles_in : Option events.Event → ℕ
cycles_in None = 0
cycles_in (Some (events.issue class)) = 0
cycles_in (Some (events.advance cycles)) = cycles
cycles_in (Some (events.ask automaton query)) = 0

-- the fault of a line of this number
abbrev pub IsFaultOfLine : ℕ → WrongLine → Fault → Type 0
IsFaultOfLine number why fault = fault_reported fault ≡ Some (fault_of why, number)
