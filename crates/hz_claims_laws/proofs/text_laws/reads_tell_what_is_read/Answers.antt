use Rattle.hz_claims_laws.proofs.WholeTexts.{reads_back, timed_of_block}
use Rattle.hz_claims_laws.proofs.text_laws.reads_tell_what_is_read.Goals as goal

pub returns-clause-lines : goal.returns-clause-lines
returns-clause-lines c = reads_back

pub returns-clause-of_block : goal.returns-clause-of_block
returns-clause-of_block c = timed_of_block
