use Rattle.hz_description_model.proofs.Reservations.PlacedLaws.{all_names_law}
use Rattle.hz_description_model.proofs.automata.all_names_are_each_name.Goals as goal

pub returns : goal.returns
returns c = all_names_law
