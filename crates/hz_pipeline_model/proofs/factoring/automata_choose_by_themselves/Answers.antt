use Rattle.hz_description_model.specs.Check.CheckedParts.{automaton_count}
use Rattle.hz_pipeline_model.specs.Pipelines.Pipelines.{pipeline_with}
use Rattle.hz_pipeline_model.proofs.Pipelines.JointLaws.{joint}
use Rattle.hz_pipeline_model.proofs.Pipelines.RunLaws.{each_accepts, all_accept, one_refuses, all_refuse}
use Rattle.hz_pipeline_model.proofs.factoring.automata_choose_by_themselves.Goals as goal

pub returns-clause-acceptance : goal.returns-clause-acceptance
returns-clause-acceptance c = λ d known sound t.
    (each_accepts (automaton_count d) (pipeline_with d known) (joint d known sound) t, all_accept (automaton_count d) (pipeline_with d known) (joint d known sound) t)

pub returns-clause-refused : goal.returns-clause-refused
returns-clause-refused c = λ d known sound t i.
    (one_refuses (automaton_count d) (pipeline_with d known) (joint d known sound) t i, all_refuse (automaton_count d) (pipeline_with d known) (joint d known sound) t i)
