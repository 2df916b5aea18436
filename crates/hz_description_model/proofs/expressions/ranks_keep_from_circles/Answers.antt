use Rattle.hz_description_model.proofs.Reservations.MeaningLaws.{none_reaches_itself}
use Rattle.hz_description_model.proofs.expressions.ranks_keep_from_circles.Goals as goal

pub returns : goal.returns
returns g c = none_reaches_itself
