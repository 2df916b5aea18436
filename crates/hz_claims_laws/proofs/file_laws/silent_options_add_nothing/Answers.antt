use Rattle.std.proofs.Common.{refl}
use Rattle.hz_claims_laws.proofs.file_laws.silent_options_add_nothing.Goals as goal

pub returns-clause-time : goal.returns-clause-time
returns-clause-time c = λ read n line head string. refl

pub returns-clause-progress : goal.returns-clause-progress
returns-clause-progress c = λ read n line head string. refl

pub returns-clause-w : goal.returns-clause-w
returns-clause-w c = λ read n line head string. refl
