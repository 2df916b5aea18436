use Rattle.hz_claims_laws.proofs.BlankLists.{names_are}
use Rattle.hz_claims_laws.proofs.blank_laws.lists_are_names_between_commas.Goals as goal

pub returns : goal.returns
returns c = names_are
