use Rattle.hz_rtl.proofs.ListingLemmas.{is_listed}
use Rattle.hz_rtl.proofs.laws.states_are_listed.Goals as goal

pub returns : goal.returns
returns c = is_listed
