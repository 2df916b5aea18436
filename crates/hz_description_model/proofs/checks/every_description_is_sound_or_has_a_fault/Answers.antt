use Rattle.hz_description_model.proofs.Check.CheckTotal.{sound_or_fault}
use Rattle.hz_description_model.proofs.checks.every_description_is_sound_or_has_a_fault.Goals as goal

pub returns : goal.returns
returns c = sound_or_fault
