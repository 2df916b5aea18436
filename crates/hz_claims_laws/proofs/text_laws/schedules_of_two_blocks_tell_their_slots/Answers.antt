use Rattle.hz_claims_laws.proofs.WholeTexts.{duo_back, duo_of_blocks}
use Rattle.hz_claims_laws.proofs.text_laws.schedules_of_two_blocks_tell_their_slots.Goals as goal

pub returns-clause-lines : goal.returns-clause-lines
returns-clause-lines c = duo_back

pub returns-clause-of_blocks : goal.returns-clause-of_blocks
returns-clause-of_blocks c = duo_of_blocks
