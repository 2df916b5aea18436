use Rattle.std.proofs.Common.{refl}
use Rattle.hz_pipeline_model.proofs.Accepting.Rows.{accepted, first_refused}
use Rattle.hz_laws.proofs.Moving.WrongMoves.{early_may_not}
use Rattle.hz_laws.proofs.align_examples.no_pair_leaves_its_issue.Goals as goal

pub returns-clause-premise : goal.returns-clause-premise
returns-clause-premise c = early_may_not

pub returns-clause-before : goal.returns-clause-before
returns-clause-before c = accepted _ _ refl

pub returns-clause-moved : goal.returns-clause-moved
returns-clause-moved c = first_refused _ _ _ refl refl refl
