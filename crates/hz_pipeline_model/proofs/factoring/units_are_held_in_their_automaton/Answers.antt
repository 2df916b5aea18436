use Rattle.std.proofs.Common.{ap, if◌then◌else◌}
use Rattle.hz_description_model.specs.Check.CheckedParts.{automaton_count}
use Rattle.hz_pipeline_model.specs.Accepting.Replay.{first_fit, any_fit}
use Rattle.hz_pipeline_model.specs.Pipelines.Pipelines.{pipeline_with}
use Rattle.hz_pipeline_model.proofs.Pipelines.JointLaws.{joint}
use Rattle.hz_pipeline_model.proofs.Pipelines.RunLaws.{held_in_one}
use Rattle.hz_pipeline_model.proofs.factoring.units_are_held_in_their_automaton.Goals as goal

pub returns : goal.returns
returns c = λ d known sound plain t accepted a unit lt.
    held_in_one (automaton_count d) (pipeline_with d known) (joint d known sound) a lt (ap (λ ndfa. if ndfa then any_fit else first_fit) plain) t accepted unit
