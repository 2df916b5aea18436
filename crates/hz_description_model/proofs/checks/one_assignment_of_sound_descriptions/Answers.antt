use Rattle.hz_description_model.proofs.Check.CheckLaws.{sound_one}
use Rattle.hz_description_model.proofs.checks.one_assignment_of_sound_descriptions.Goals as goal

pub returns : goal.returns
returns c = sound_one
