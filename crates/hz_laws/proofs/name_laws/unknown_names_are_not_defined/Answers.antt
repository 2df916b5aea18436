use Rattle.hz_laws.proofs.Names.UnknownLaws.{unknown_name}
use Rattle.hz_laws.proofs.name_laws.unknown_names_are_not_defined.Goals as goal

pub returns : goal.returns
returns c = unknown_name
