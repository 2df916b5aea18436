-- What `compile` and `walk` answer: this profile, docs/FORMATS.md, 'Answers'.
use Rattle.std.specs.Prelude.{◌≡◌, ℕ, ◌+◌, true, List, map, All, take, slice_get, Option, Some, None, IsSome, Err, ◌⊎◌}
use Rattle.hz_pipeline_model.specs.Accepting.Events.{Event, issue, issues_of, cycles_of}
use Rattle.hz_pipeline_model.specs.Compiling.Compiled.{Report, IsCompiled}
use Rattle.hz_base_model.specs.Lines.{lines_of}
use Rattle.hz_description_model.specs.Check.CheckedParts.{automata_of, class_parts}
use Rattle.hz_description_model.specs.Check.Places.{Known}
use Rattle.hz_description_model.specs.Reading.Descriptions.{Description}
use Rattle.hz_pipeline_model.specs.Single.Reported.{ListsAscending}
use Rattle.hz_pipeline_model.specs.Tables.Machines.{Machine, machine_walk, states_tell}
use Rattle.hz_tabtext_model.specs.Judging.{Kind, tables_word}
use Rattle.hz_tabtext_model.specs.Reading.{tables_in}
use Rattle.hz_tabtext_model.specs.Said.{tables_said}
use Rattle.hz_tabtext_model.specs.Texts.{TableText, spelled}
use Rattle.hz_pipeline_model.specs.Traces.Traces.{event_lines}
use Rattle.hz_pipeline_model.specs.Tables.MachineNames.{names_of_machine}
use Rattle.hz_front_model.specs.Asks.{Reserved, Tells}
use Rattle.hz_front_model.specs.Phases.{Says, Next, TellsFault, Traces}
use Rattle.hz_front_model.specs.Texts.{accepted_line, refused_line}

-- bytes of a tables text, at most
abbrev pub tables_limit : ℕ
tables_limit = 536870912

-- The text says what is compiled of a description: it stands for the machine, and tells beside it what the options ask for, the
-- pairs of each grid in ascending order.
pub record IsTablesOf (d : Description) (known : Known) (text : List ℕ) : Type 0 where
  pub machine : Machine
  pub reports : List Report
  pub compiled : IsCompiled d.options (automata_of d) (map (class_parts d known) d.classes) machine reports
  pub listed : All ListsAscending reports
  pub stands : TableText text machine
  pub spells : text ≡ spelled (tables_said d.options (automata_of d) reports machine)

-- the tables of a description are written
abbrev pub WritesTablesOf : Description → Known → ℕ → List ℕ → Type 0
WritesTablesOf d known status text = (status ≡ 0) × IsTablesOf d known text

-- the first fault of a tables text, and its line
abbrev pub TablesFaultAt : List ℕ → Kind → ℕ → Type 0
TablesFaultAt bytes kind line = tables_in bytes ≡ Err (record { kind = kind; line = line })

-- the machine of a tables text, or its first fault
abbrev pub HasTables : List ℕ → List ℕ → Next Machine → ℕ → List ℕ → Type 0
HasTables name bytes next status text =
    ((m : Machine) × TableText bytes m × next m status text)
    ⊎ TellsFault tables_word (TablesFaultAt bytes) name status text

-- whether a query unit is reserved by what the states of a machine tell
abbrev pub reported_by : Machine → Reserved
reported_by m before automaton query = (states : List ℕ) × (machine_walk m before ≡ Some states) × (states_tell m states automaton query ≡ true)

-- the machine walks all events before the one of this place, and not that one
abbrev pub IsFirstUnwalked : Machine → List Event → ℕ → Type 0
IsFirstUnwalked m events i = IsSome (machine_walk m (take i events)) × (machine_walk m (take (i + 1) events) ≡ None)

-- the class of a machine that an event issues
abbrev pub IsIssueIn : Machine → Option Event → List ℕ → Type 0
IsIssueIn m e name = (class : ℕ) × (e ≡ Some (issue class)) × (slice_get m.classes class ≡ Some name)

-- The walk of events that stand on these lines of a trace: the asks before the first event that is not walked, or all, are reported, and
-- then that all are accepted, or which is refused.
abbrev pub Walks : Machine → List ℕ → List Event → ℕ → List ℕ → Type 0
Walks m lines events status text =
    (IsSome (machine_walk m events) × Tells (reported_by m) (names_of_machine m) lines events (Says 0 (accepted_line (issues_of events) (cycles_of events))) status text)
    ⊎ ((i line : ℕ) × (class : List ℕ) × IsFirstUnwalked m events i × (slice_get lines i ≡ Some line) × IsIssueIn m (slice_get events i) class × Tells (reported_by m) (names_of_machine m) lines (take i events) (Says 1 (refused_line line class)) status text)

-- the trace of a machine's names is judged, and walked
abbrev pub WalksTrace : List ℕ → List ℕ → Machine → ℕ → List ℕ → Type 0
WalksTrace trace traced m = Traces (names_of_machine m) trace traced (Walks m (event_lines (names_of_machine m) 1 (lines_of traced)))
