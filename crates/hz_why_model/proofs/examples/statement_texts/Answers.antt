use Rattle.std.proofs.Common.{refl}
use Rattle.std.specs.Fmt.{digits}
use Rattle.hz_why_model.proofs.examples.statement_texts.Goals as goal

pub returns-clause-absence : goal.returns-clause-absence
unfolding digits
returns-clause-absence c = refl

pub returns-clause-presence : goal.returns-clause-presence
unfolding digits
returns-clause-presence c = refl

pub returns-clause-exclusion : goal.returns-clause-exclusion
unfolding digits
returns-clause-exclusion c = refl
