-- What is answered of the events of a trace by a pipeline: this profile, docs/FORMATS.md, 'Answers'.
use Rattle.std.specs.Prelude.{◌≡◌, ℕ, List, take, Option, Some, ◌⊎◌, slice_get}
use Rattle.hz_pipeline_model.specs.Accepting.Events.{Event, issue, issues_of, cycles_of}
use Rattle.hz_pipeline_model.specs.Accepting.Replay.{Pipeline, Class, Accepted, FirstRefused}
use Rattle.hz_pipeline_model.specs.Traces.TraceNames.{TraceNames}
use Rattle.hz_front_model.specs.Asks.{Reserved, Tells}
use Rattle.hz_front_model.specs.Phases.{Says}
use Rattle.hz_front_model.specs.Texts.{accepted_line, refused_line}

-- the class that an event issues
abbrev pub IsIssueOf : {U : Type 0} → Pipeline U → Option Event → List ℕ → Type 0
IsIssueOf {U} m e name = (k : ℕ) × (c : Class U) × (e ≡ Some (issue k)) × (slice_get m.classes k ≡ Some c) × (c.name ≡ name)

-- The replay of events that stand on these lines of a trace: the asks before the first event that does not fit, or all, are reported, and
-- then that all are accepted, or which is refused.
abbrev pub Replays : {U : Type 0} → Pipeline U → Reserved → TraceNames → List ℕ → List Event → ℕ → List ℕ → Type 0
Replays m reserved names lines events status text =
    (Accepted m events × Tells reserved names lines events (Says 0 (accepted_line (issues_of events) (cycles_of events))) status text)
    ⊎ ((i line : ℕ) × (class : List ℕ) × FirstRefused m events i × (slice_get lines i ≡ Some line) × IsIssueOf m (slice_get events i) class × Tells reserved names lines (take i events) (Says 1 (refused_line line class)) status text)
