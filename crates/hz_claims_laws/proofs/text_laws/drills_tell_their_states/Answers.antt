use Rattle.hz_claims_laws.proofs.WholeTexts.{drill_back}
use Rattle.hz_claims_laws.proofs.text_laws.drills_tell_their_states.Goals as goal

pub returns : goal.returns
returns c = drill_back
