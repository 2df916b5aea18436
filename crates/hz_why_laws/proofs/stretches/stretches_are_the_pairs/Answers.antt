use Rattle.hz_why_laws.proofs.StretchLaws.{stretched}
use Rattle.hz_why_laws.proofs.stretches.stretches_are_the_pairs.Goals as goal

pub returns : goal.returns
returns g c = stretched
