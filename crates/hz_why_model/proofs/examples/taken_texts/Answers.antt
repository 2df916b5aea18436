use Rattle.std.proofs.Common.{refl}
use Rattle.std.specs.Fmt.{digits}
use Rattle.hz_why_model.proofs.examples.taken_texts.Goals as goal

pub returns-clause-stretches : goal.returns-clause-stretches
unfolding digits
returns-clause-stretches c = refl

pub returns-clause-nothing : goal.returns-clause-nothing
unfolding digits
returns-clause-nothing c = refl
