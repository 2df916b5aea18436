use Rattle.hz_description_model.proofs.Check.SplitLaws.{unmixed, even}
use Rattle.hz_description_model.proofs.checks.sound_classes_keep_the_rules.Goals as goal

pub returns-clause-unmixed : goal.returns-clause-unmixed
returns-clause-unmixed c = unmixed

pub returns-clause-even : goal.returns-clause-even
returns-clause-even c = even
