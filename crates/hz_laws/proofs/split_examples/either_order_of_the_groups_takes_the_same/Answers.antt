use Rattle.std.proofs.Common.{refl}
use Rattle.hz_pipeline_model.proofs.Accepting.Rows.{accepted}
use Rattle.hz_laws.proofs.split_examples.either_order_of_the_groups_takes_the_same.Goals as goal

pub returns-clause-before : goal.returns-clause-before
returns-clause-before c = accepted _ _ refl

pub returns-clause-after : goal.returns-clause-after
returns-clause-after c = accepted _ _ refl
