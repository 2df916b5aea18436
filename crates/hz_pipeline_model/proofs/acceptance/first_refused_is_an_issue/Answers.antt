use Rattle.hz_pipeline_model.proofs.Accepting.AcceptanceLaws.{refused_issue, one_refused, accepted_or_refused}
use Rattle.hz_pipeline_model.proofs.acceptance.first_refused_is_an_issue.Goals as goal

pub returns-clause-issue : goal.returns-clause-issue
returns-clause-issue g c = refused_issue

pub returns-clause-before : goal.returns-clause-before
returns-clause-before g c = λ m t i h. h.before

pub returns-clause-one : goal.returns-clause-one
returns-clause-one g c = one_refused

pub returns-clause-none : goal.returns-clause-none
returns-clause-none g c = accepted_or_refused
