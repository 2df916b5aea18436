use Rattle.hz_description_model.proofs.Reservations.MeaningLaws.{units_right}
use Rattle.hz_description_model.proofs.expressions.names_of_units_are_right.Goals as goal

pub returns : goal.returns
returns c = units_right
