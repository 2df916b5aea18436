use Rattle.std.proofs.Common.{refl}
use Rattle.hz_pipeline_model.proofs.Accepting.Rows.{first_refused}
use Rattle.hz_laws.proofs.Moving.WrongMoves.{together_may}
use Rattle.hz_laws.proofs.align_examples.a_group_moves_together.Goals as goal

pub returns-clause-may_move : goal.returns-clause-may_move
returns-clause-may_move c = together_may

pub returns-clause-before : goal.returns-clause-before
returns-clause-before c = first_refused _ _ _ refl refl refl

pub returns-clause-moved : goal.returns-clause-moved
returns-clause-moved c = first_refused _ _ _ refl refl refl
