use Rattle.hz_description_model.proofs.Reservations.AscendingLaws.{listed_same}
use Rattle.hz_description_model.proofs.automata.listed_alternatives_are_the_same.Goals as goal

pub returns : goal.returns
returns c = listed_same
