use Rattle.std.proofs.Common.{refl}
use Rattle.std.specs.Fmt.{digits}
use Rattle.hz_why_model.proofs.examples.choice_text.Goals as goal

pub returns : goal.returns
unfolding digits
returns c = refl
