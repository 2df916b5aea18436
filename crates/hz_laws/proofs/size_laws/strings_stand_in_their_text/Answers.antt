use Rattle.hz_laws.proofs.Sizes.StringSizes.{strings_fit}
use Rattle.hz_laws.proofs.size_laws.strings_stand_in_their_text.Goals as goal

pub returns : goal.returns
returns c = strings_fit
