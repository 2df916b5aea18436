use Rattle.std.proofs.Common.{refl}
use Rattle.hz_pipeline_model.proofs.Accepting.Rows.{accepted, first_refused}
use Rattle.hz_laws.proofs.Moving.WrongMoves.{alone_may_not}
use Rattle.hz_laws.proofs.align_examples.no_unit_leaves_its_group.Goals as goal

pub returns-clause-premise : goal.returns-clause-premise
returns-clause-premise c = alone_may_not

pub returns-clause-before : goal.returns-clause-before
returns-clause-before c = first_refused _ _ _ refl refl refl

pub returns-clause-moved : goal.returns-clause-moved
returns-clause-moved c = accepted _ _ refl
