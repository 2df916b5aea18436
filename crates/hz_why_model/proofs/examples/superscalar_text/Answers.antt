use Rattle.std.proofs.Common.{refl}
use Rattle.std.specs.Fmt.{digits}
use Rattle.hz_why_model.proofs.examples.superscalar_text.Goals as goal

pub returns : goal.returns
unfolding digits
returns c = refl
