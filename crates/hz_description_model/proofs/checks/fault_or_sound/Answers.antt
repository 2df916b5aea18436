use Rattle.hz_description_model.proofs.Check.CheckLaws.{fault_or_sound}
use Rattle.hz_description_model.proofs.checks.fault_or_sound.Goals as goal

pub returns : goal.returns
returns c = fault_or_sound
