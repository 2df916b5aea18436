use Rattle.hz_laws.proofs.Names.NameLaws.{second_name}
use Rattle.hz_laws.proofs.name_laws.second_names_stand_in_their_name_space.Goals as goal

pub returns : goal.returns
returns c = second_name
