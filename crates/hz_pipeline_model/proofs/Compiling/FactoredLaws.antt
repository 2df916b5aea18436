-- A description is the automata that a check gives of it.
use Rattle.std.proofs.Common.{ℕ, ◌<◌, List, map}
use Rattle.std.specs.Prelude.{◌↔◌}
use Rattle.hz_pipeline_model.specs.Accepting.Events.{Event}
use Rattle.hz_pipeline_model.specs.Accepting.Replay.{Accepted}
use Rattle.hz_pipeline_model.specs.Accepting.Restricted.{restricted}
use Rattle.hz_description_model.specs.Reading.Descriptions.{Description}
use Rattle.hz_description_model.specs.Check.CheckFaults.{IsSound}
use Rattle.hz_description_model.specs.Check.Places.{Known}
use Rattle.hz_description_model.specs.Check.CheckedParts.{automaton_count, automata_of, class_parts}
use Rattle.hz_pipeline_model.specs.Pipelines.Pipelines.{pipeline_with}
use Rattle.hz_pipeline_model.proofs.Pipelines.JointLaws.{joint}
use Rattle.hz_pipeline_model.proofs.Pipelines.RunLaws.{each_accepts, all_accept}
use Rattle.hz_pipeline_model.specs.Compiling.AutomatonPipelines.{automaton_pipeline}
use Rattle.hz_pipeline_model.proofs.Compiling.CompiledLaws.{accepted_alike}
use Rattle.hz_pipeline_model.proofs.Compiling.PipelineLaws.{restricted_moved}

pub accepted_in_automata : (d : Description) (known : Known) → IsSound d known → (t : List Event)
    → Accepted (pipeline_with d known) t ↔ ((a : ℕ) → a < automaton_count d → Accepted (automaton_pipeline d.options (automata_of d) (map (class_parts d known) d.classes) a) t)
accepted_in_automata d known sound t = (
  λ accepted a low. (alike a low).0 (each_accepts (automaton_count d) (pipeline_with d known) (joint d known sound) t accepted a low),
  λ each. all_accept (automaton_count d) (pipeline_with d known) (joint d known sound) t (λ a low. (alike a low).1 (each a low)),
)
  where
    alike : (a : ℕ) (low : a < automaton_count d) → Accepted (restricted a (pipeline_with d known)) t ↔ Accepted (automaton_pipeline d.options (automata_of d) (map (class_parts d known) d.classes) a) t
    alike a low = accepted_alike (restricted a (pipeline_with d known)) (automaton_pipeline d.options (automata_of d) (map (class_parts d known) d.classes) a) (restricted_moved d known a low) t
