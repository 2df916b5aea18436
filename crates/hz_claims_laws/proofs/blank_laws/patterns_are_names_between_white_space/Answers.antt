use Rattle.hz_claims_laws.proofs.BlankLists.{patterns_are}
use Rattle.hz_claims_laws.proofs.blank_laws.patterns_are_names_between_white_space.Goals as goal

pub returns : goal.returns
returns c = patterns_are
