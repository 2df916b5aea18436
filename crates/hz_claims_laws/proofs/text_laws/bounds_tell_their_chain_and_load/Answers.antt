use Rattle.hz_claims_laws.proofs.WholeTexts.{bound_back, bound_of_block}
use Rattle.hz_claims_laws.proofs.text_laws.bounds_tell_their_chain_and_load.Goals as goal

pub returns-clause-lines : goal.returns-clause-lines
returns-clause-lines c = bound_back

pub returns-clause-of_block : goal.returns-clause-of_block
returns-clause-of_block c = bound_of_block
