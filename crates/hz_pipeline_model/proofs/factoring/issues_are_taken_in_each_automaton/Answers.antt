use Rattle.hz_description_model.specs.Check.CheckedParts.{automaton_count}
use Rattle.hz_pipeline_model.specs.Pipelines.Pipelines.{pipeline_with}
use Rattle.hz_pipeline_model.proofs.Pipelines.JointLaws.{joint}
use Rattle.hz_pipeline_model.proofs.Pipelines.RunLaws.{taken_together}
use Rattle.hz_pipeline_model.proofs.Pipelines.SideBySide.{taken_part}
use Rattle.hz_pipeline_model.proofs.factoring.issues_are_taken_in_each_automaton.Goals as goal

pub returns-clause-parts : goal.returns-clause-parts
returns-clause-parts c = λ d known sound s k i may a lt. taken_part (automaton_count d) (pipeline_with d known) (joint d known sound) s k i may a lt

pub returns-clause-whole : goal.returns-clause-whole
returns-clause-whole c = λ d known sound s k choices may. taken_together (automaton_count d) (pipeline_with d known) (joint d known sound) s k choices may
