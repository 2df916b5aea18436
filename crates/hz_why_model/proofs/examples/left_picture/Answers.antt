use Rattle.std.proofs.Common.{refl}
use Rattle.std.specs.Fmt.{digits}
use Rattle.hz_why_model.proofs.examples.left_picture.Goals as goal

pub returns : goal.returns
unfolding digits
returns c = refl
