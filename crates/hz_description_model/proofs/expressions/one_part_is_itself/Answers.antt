use Rattle.hz_description_model.proofs.Reservations.ExpressionLaws.{one_in_sequence, one_together, one_of_one}
use Rattle.hz_description_model.proofs.expressions.one_part_is_itself.Goals as goal

pub returns-clause-in_sequence : goal.returns-clause-in_sequence
returns-clause-in_sequence g c = one_in_sequence

pub returns-clause-together : goal.returns-clause-together
returns-clause-together g c = one_together

pub returns-clause-any : goal.returns-clause-any
returns-clause-any g c = one_of_one
