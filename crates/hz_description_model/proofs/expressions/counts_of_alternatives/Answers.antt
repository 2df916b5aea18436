use Rattle.hz_description_model.proofs.Reservations.ExpressionLaws.{count_sequence, count_together, count_any, count_repeat}
use Rattle.hz_description_model.proofs.expressions.counts_of_alternatives.Goals as goal

pub returns-clause-in_sequence : goal.returns-clause-in_sequence
returns-clause-in_sequence g c = count_sequence

pub returns-clause-together : goal.returns-clause-together
returns-clause-together g c = count_together

pub returns-clause-any : goal.returns-clause-any
returns-clause-any g c = count_any

pub returns-clause-repeats : goal.returns-clause-repeats
returns-clause-repeats g c = count_repeat
