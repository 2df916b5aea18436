use Rattle.hz_description_model.proofs.Reservations.PlacedLaws.{sound_cut}
use Rattle.hz_description_model.proofs.automata.sound_alternatives_are_cut.Goals as goal

pub returns : goal.returns
returns c = sound_cut
