use Rattle.hz_check_reservations.proofs.Unwinding.{unfolded}
use Rattle.hz_check_reservations.proofs.listing.laws.ordered_names_are_known.Goals as goal

pub returns : goal.returns
returns c = λ d order formed reported ordered. unfolded d reported formed order ordered
