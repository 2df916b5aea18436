use Rattle.std.proofs.Common.{refl}
use Rattle.std.specs.Fmt.{digits}
use Rattle.hz_why_model.proofs.examples.cut_texts.Goals as goal

pub returns-clause-numbers : goal.returns-clause-numbers
unfolding digits
returns-clause-numbers c = refl

pub returns-clause-one : goal.returns-clause-one
unfolding digits
returns-clause-one c = refl

pub returns-clause-many : goal.returns-clause-many
unfolding digits
returns-clause-many c = refl

pub returns-clause-all : goal.returns-clause-all
unfolding digits
returns-clause-all c = refl

pub returns-clause-some : goal.returns-clause-some
unfolding digits
returns-clause-some c = refl

pub returns-clause-line : goal.returns-clause-line
unfolding digits
returns-clause-line c = refl
