use Rattle.hz_description_model.proofs.Reservations.SamePairsLaws.{beside_swapped, beside_itself}
use Rattle.hz_description_model.proofs.expressions.side_by_side_is_in_no_order.Goals as goal

pub returns-clause-swapped : goal.returns-clause-swapped
returns-clause-swapped g c = beside_swapped

pub returns-clause-itself : goal.returns-clause-itself
returns-clause-itself g c = beside_itself
