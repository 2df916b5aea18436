use Rattle.hz_description_model.proofs.Reservations.PlacedLaws.{placed_alternatives}
use Rattle.hz_description_model.proofs.automata.expressions_keep_within_cycles.Goals as goal

pub returns : goal.returns
returns c = placed_alternatives
