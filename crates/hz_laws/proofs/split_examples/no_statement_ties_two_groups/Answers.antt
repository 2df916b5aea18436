use Rattle.std.proofs.Common.{refl}
use Rattle.hz_pipeline_model.proofs.Accepting.Rows.{accepted, first_refused}
use Rattle.hz_laws.proofs.Grouping.WrongGroups.{across_may_not}
use Rattle.hz_laws.proofs.split_examples.no_statement_ties_two_groups.Goals as goal

pub returns-clause-premise : goal.returns-clause-premise
returns-clause-premise c = across_may_not

pub returns-clause-before : goal.returns-clause-before
returns-clause-before c = accepted _ _ refl

pub returns-clause-after : goal.returns-clause-after
returns-clause-after c = first_refused _ _ _ refl refl refl
