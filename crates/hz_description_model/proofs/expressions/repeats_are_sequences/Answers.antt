use Rattle.hz_description_model.proofs.Reservations.ExpressionLaws.{repeat_as_sequence}
use Rattle.hz_description_model.proofs.expressions.repeats_are_sequences.Goals as goal

pub returns : goal.returns
returns g c = repeat_as_sequence
