use Rattle.hz_description_model.proofs.Reservations.ExpressionLaws.{ordered_choices}
use Rattle.hz_description_model.proofs.expressions.choices_are_ordered.Goals as goal

pub returns : goal.returns
returns g c = ordered_choices
