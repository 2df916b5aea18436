-- What `replay` answers of a trace, by what was issued of it.
use Rattle.std.specs.Prelude.{◌≡◌, ℕ, List, [], ◌++◌, All, length, map, slice_get, slice_index_or, Option, Some, None}
use Rattle.std.specs.List.{flat_map}
use Rattle.std.specs.declared.alloc.Global.{Global}
use Rattle.std.specs.declared.vec.Vec.{Vec}
use Rattle.hz_description_model.specs.Check.CheckedParts.{automata_of}
use Rattle.hz_description_model.specs.Check.CheckedShape.{ask_names, AskNothingUnderNdfa}
use Rattle.hz_description_model.specs.Check.Places.{class_names}
use Rattle.hz_description_model.specs.Reading.Descriptions.{Description}
use Rattle.hz_pipeline_model.specs.Accepting.Asking.{IsOfQuery}
use Rattle.hz_pipeline_model.specs.Accepting.Events.{Event, issue, advance, ask, issues_of, cycles_of, IsOfClass}
use Rattle.hz_front_model.specs.Texts.{accepted_line, ask_line, refused_line}
use Rattle.hz_replay.specs.Lines.{event_of}
use Rattle.hz_replay.specs.Traces.{events_in}
use Rattle.hz_replay.specs.declared.event.Event.{Event as TraceEvent}
use Rattle.hz_reasons.specs.declared.walking.Asked.{Asked}

-- ---- the text

-- the names of the query units, automaton by automaton
abbrev pub names_at : List (Vec (List ℕ) Global) → List (List (List ℕ))
names_at units = map (λ names. names.items) units

-- the name of a query unit
abbrev pub unit_name : (units : List (List (List ℕ))) → (automaton query : ℕ) → List ℕ
unit_name units a q = slice_index_or (slice_index_or units a []) q []

-- the line of an ask
abbrev pub asked_line : (units : List (List (List ℕ))) → Asked → List ℕ
asked_line units x = ask_line x.line (unit_name units x.part x.ask) x.reserved

-- the name of the class that an event issues
abbrev pub issued_name : (classes : List (List ℕ)) → Event → List ℕ
issued_name classes (issue k) = slice_index_or classes k []
issued_name classes (advance n) = []
issued_name classes (ask a u) = []

-- the line of an event that is refused
abbrev pub refused_by : (classes : List (List ℕ)) → Option TraceEvent → List ℕ
refused_by classes None = []
refused_by classes (Some e) = refused_line e.line (issued_name classes (event_of e.what))

-- how a trace ends
abbrev pub end_line : (classes : List (List ℕ)) → List TraceEvent → (refused : Option ℕ) → List ℕ
end_line classes events None = accepted_line (issues_of (events_in events)) (cycles_of (events_in events))
end_line classes events (Some place) = refused_by classes (slice_get events place)

-- the lines of the asks before it ends, and how it ends
abbrev pub replay_text : (classes : List (List ℕ)) → (units : List (List (List ℕ))) → List TraceEvent → (refused : Option ℕ) → List Asked → List ℕ
replay_text classes units events refused asked = flat_map (asked_line units) asked ++ end_line classes events refused

-- the status: 0 if all events are accepted, 1 if one is refused
abbrev pub status_of : (refused : Option ℕ) → ℕ
status_of None = 0
status_of (Some place) = 1

-- ---- what it speaks of

-- the query units of a description, automaton by automaton
abbrev pub queries_of : Description → List (List ℕ)
queries_of d = map (λ a. a.queries) (automata_of d)

-- The names are those of a description, and the events are of its classes and query units.
pub record IsTraceOf (d : Description) (classes : List (List ℕ)) (units : List (List (List ℕ))) (t : List Event) : Type 0 where
  pub names : classes ≡ class_names d
  pub unit_names : units ≡ map ask_names (automata_of d)
  pub of_class : All (IsOfClass (length d.classes)) t
  pub of_query : All (IsOfQuery (queries_of d)) t
  pub nothing : AskNothingUnderNdfa d.options.ndfa (automata_of d)
