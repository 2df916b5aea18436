use Rattle.hz_description_model.proofs.Check.RankLaws.{unfolds_in_reservations}
use Rattle.hz_description_model.proofs.depth.reservations_are_depth_enough.Goals as goal

pub returns : goal.returns
returns c = unfolds_in_reservations
