use Rattle.hz_pipeline_model.proofs.Compiling.LimitLaws.{within_or_past}
use Rattle.hz_pipeline_model.proofs.compiled.counts_are_within_or_past.Goals as goal

pub returns : goal.returns
returns c = λ lists shown queries m kind within past. within_or_past lists shown queries m kind within past
