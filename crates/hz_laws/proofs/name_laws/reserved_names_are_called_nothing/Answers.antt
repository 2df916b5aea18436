use Rattle.hz_laws.proofs.Names.NameLaws.{reserved_name}
use Rattle.hz_laws.proofs.name_laws.reserved_names_are_called_nothing.Goals as goal

pub returns : goal.returns
returns c = reserved_name
