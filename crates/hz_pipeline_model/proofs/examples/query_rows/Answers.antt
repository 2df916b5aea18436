use Rattle.std.proofs.Common.{refl}
use Rattle.hz_pipeline_model.proofs.Accepting.Rows.{first_refused, held, free}
use Rattle.hz_pipeline_model.proofs.examples.query_rows.Goals as goal

pub returns-clause-at_issue : goal.returns-clause-at_issue
returns-clause-at_issue c = free _ _ _ _ refl refl refl

pub returns-clause-first : goal.returns-clause-first
returns-clause-first c = held _ _ _ _ refl refl refl

pub returns-clause-last : goal.returns-clause-last
returns-clause-last c = held _ _ _ _ refl refl refl

pub returns-clause-past : goal.returns-clause-past
returns-clause-past c = free _ _ _ _ refl refl refl

pub returns-clause-asked : goal.returns-clause-asked
returns-clause-asked c = first_refused _ _ _ refl refl refl
