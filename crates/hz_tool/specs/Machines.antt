-- The machine of a description, and what is reported of its replay.
use Rattle.std.specs.Prelude.{◌≡◌, ◌↔◌, ℕ, List, IsSome, All, length}
use Rattle.hz_pipeline_model.specs.Accepting.Asking.{IsOfQuery}
use Rattle.hz_pipeline_model.specs.Accepting.Events.{Event, ask, IsOfClass}
use Rattle.hz_pipeline_model.specs.Accepting.Replay.{Accepted}
use Rattle.hz_pipeline_model.specs.Pipelines.Pipelines.{pipeline_with}
use Rattle.hz_front_model.specs.Asks.{held_in, trace_names}
use Rattle.hz_answer_model.specs.TableAnswers.{reported_by}
use Rattle.hz_pipeline_model.specs.Compiling.DescriptionLimits.{AllKeepLimits}
use Rattle.hz_pipeline_model.specs.Tables.MachineNames.{names_of_machine}
use Rattle.hz_pipeline_model.specs.Tables.Machines.{Machine, machine_walk}
use Rattle.hz_description_model.specs.Check.Places.{Known}
use Rattle.hz_description_model.specs.Reading.Descriptions.{Description}

-- The machine has the names of the description's classes and query units; its automata are within their limits of states; it walks just
-- the events that the description accepts, and after them tells the query units reserved that the description holds.
pub record IsMachineFor (d : Description) (known : Known) (m : Machine) : Type 0 where
  pub keeps : AllKeepLimits d known
  pub names : names_of_machine m ≡ trace_names d
  pub walks : (t : List Event) → All (IsOfClass (length d.classes)) t → IsSome (machine_walk m t) ↔ Accepted (pipeline_with d known) t
  pub tells : (before : List Event) (automaton query : ℕ) → IsSome (machine_walk m before) → All (IsOfClass (length d.classes)) before
      → IsOfQuery (trace_names d).queries (ask automaton query) → reported_by m before automaton query ↔ held_in d known before automaton query
