use Rattle.hz_claims_laws.proofs.BlankLists.{options_are}
use Rattle.hz_claims_laws.proofs.blank_laws.options_are_words_between_commas.Goals as goal

pub returns : goal.returns
returns c = options_are
