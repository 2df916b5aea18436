use Rattle.hz_laws.proofs.Sizes.NameSizes.{names_few}
use Rattle.hz_laws.proofs.size_laws.names_stand_in_strings.Goals as goal

pub returns : goal.returns
returns c = names_few
