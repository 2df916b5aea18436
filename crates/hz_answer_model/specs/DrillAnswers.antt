-- What `drill` answers: this profile, docs/FORMATS.md, 'Answers'.
use Rattle.std.specs.Prelude.{◌≡◌, ℕ, List, map, length, Some}
use Rattle.hz_pipeline_model.specs.Accepting.Events.{Event, issues_of, cycles_of}
use Rattle.hz_pipeline_model.specs.Accepting.Replay.{Accepted}
use Rattle.hz_pipeline_model.specs.Compiling.Compiled.{Report, IsCompiled}
use Rattle.hz_description_model.specs.Check.CheckedParts.{automata_of, class_parts}
use Rattle.hz_description_model.specs.Check.Places.{Known}
use Rattle.hz_pipeline_model.specs.Traces.Drills.{Drawn}
use Rattle.hz_description_model.specs.Reading.Descriptions.{Description}
use Rattle.hz_pipeline_model.specs.Pipelines.Pipelines.{pipeline_with}
use Rattle.hz_pipeline_model.specs.Tables.Machines.{Machine, IsMachine, machine_walk}
use Rattle.hz_answer_model.specs.Texts.{drill_text}

-- The machine is what is compiled of a description.
pub record IsMachineOf (d : Description) (known : Known) (m : Machine) : Type 0 where
  pub reports : List Report
  pub is_machine : IsMachine m
  pub compiled : IsCompiled d.options (automata_of d) (map (class_parts d known) d.classes) m reports

-- The text tells of the trace that is drawn by what a description accepts: its turns, how many issues and cycles it has, and the
-- states that it leaves in the machine that is compiled of the description.
pub record IsDrillOf (d : Description) (known : Known) (number turns : ℕ) (text : List ℕ) : Type 0 where
  pub events : List Event
  pub drawn : Drawn (Accepted (pipeline_with d known)) (length d.classes) number turns events
  pub machine : Machine
  pub compiled : IsMachineOf d known machine
  pub states : List ℕ
  pub left : machine_walk machine events ≡ Some states
  pub tells : text ≡ drill_text turns (issues_of events) (cycles_of events) states

-- the drill of a description is reported
abbrev pub Drills : Description → Known → (number turns : ℕ) → ℕ → List ℕ → Type 0
Drills d known number turns status text = (status ≡ 0) × IsDrillOf d known number turns text
