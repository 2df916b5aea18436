use Rattle.hz_description_model.specs.Reservations.Alternatives.{alternatives_of}
use Rattle.hz_description_model.specs.Check.CheckedParts.{automaton_count}
use Rattle.hz_pipeline_model.proofs.Pipelines.JointLaws.{some_there, class_pairs, class_factors_of}
use Rattle.hz_pipeline_model.proofs.Pipelines.RunLaws.{union_there, union_only}
use Rattle.hz_pipeline_model.proofs.factoring.alternatives_are_unions_of_grids.Goals as goal

pub returns-clause-each : goal.returns-clause-each
returns-clause-each c = λ d known sound c' h grids each.
    union_there (automaton_count d) (some_there d known sound) (alternatives_of known c'.expression) (class_pairs d known sound c') (class_factors_of d known sound c' h) grids each

pub returns-clause-only : goal.returns-clause-only
returns-clause-only c = λ d known sound c' h x there.
    union_only (automaton_count d) (some_there d known sound) (alternatives_of known c'.expression) (class_pairs d known sound c') x there
