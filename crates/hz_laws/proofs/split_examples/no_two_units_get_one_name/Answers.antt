use Rattle.std.proofs.Common.{refl, arith}
use Rattle.hz_pipeline_model.proofs.Accepting.Rows.{accepted, first_refused}
use Rattle.hz_laws.proofs.split_examples.no_two_units_get_one_name.Goals as goal

pub returns-clause-premise : goal.returns-clause-premise
returns-clause-premise c = λ one. let e = one 0 1 refl in absurd (omega (arith, e))

pub returns-clause-before : goal.returns-clause-before
returns-clause-before c = accepted _ _ refl

pub returns-clause-after : goal.returns-clause-after
returns-clause-after c = first_refused _ _ _ refl refl refl
