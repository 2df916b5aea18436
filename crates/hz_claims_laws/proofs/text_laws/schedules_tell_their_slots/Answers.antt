use Rattle.hz_claims_laws.proofs.WholeTexts.{schedule_back}
use Rattle.hz_claims_laws.proofs.text_laws.schedules_tell_their_slots.Goals as goal

pub returns : goal.returns
returns c = schedule_back
