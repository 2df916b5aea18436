use Rattle.hz_claims_laws.proofs.BlankLists.{tests_are}
use Rattle.hz_claims_laws.proofs.blank_laws.tests_are_lists_after_a_mark_or_none.Goals as goal

pub returns : goal.returns
returns c = tests_are
