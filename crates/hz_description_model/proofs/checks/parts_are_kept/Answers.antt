use Rattle.hz_description_model.proofs.Check.KeptLaws.{parts_kept}
use Rattle.hz_description_model.proofs.checks.parts_are_kept.Goals as goal

pub returns : goal.returns
returns c = parts_kept
