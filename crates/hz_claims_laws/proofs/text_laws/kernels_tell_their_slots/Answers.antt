use Rattle.hz_claims_laws.proofs.WholeTexts.{kernel_back, kernel_of_block}
use Rattle.hz_claims_laws.proofs.text_laws.kernels_tell_their_slots.Goals as goal

pub returns-clause-lines : goal.returns-clause-lines
returns-clause-lines c = kernel_back

pub returns-clause-of_block : goal.returns-clause-of_block
returns-clause-of_block c = kernel_of_block
