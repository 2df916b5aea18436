use Rattle.std.proofs.Common.{refl}
use Rattle.hz_pipeline_model.proofs.Accepting.Rows.{accepted, first_refused}
use Rattle.hz_pipeline_model.proofs.examples.choice_rows.Goals as goal

pub returns-clause-first : goal.returns-clause-first
returns-clause-first c = first_refused _ _ _ refl refl refl

pub returns-clause-any : goal.returns-clause-any
returns-clause-any c = accepted _ _ refl

pub returns-clause-any_refused : goal.returns-clause-any_refused
returns-clause-any_refused c = first_refused _ _ _ refl refl refl
