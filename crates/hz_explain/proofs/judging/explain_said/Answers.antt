use Rattle.hz_front_model.specs.Descriptions.{Checks}
use Rattle.hz_description_model.proofs.Reading.CheckableLaws.{can_be_checked}
use Rattle.hz_mdread.specs.Shape.{description}
use Rattle.hz_sexp.specs.Shape.{trees}
use Rattle.hz_front.proofs.JudgeLemmas.{description_refused}
use Rattle.hz_why_model.specs.Answers.{ExplainsTrace}
use Rattle.hz_front.proofs.JudgeLemmas.{description_on}
use Rattle.hz_explain.specs.Deciding.{decided_in}
use Rattle.hz_explain.proofs.judging.explain_said.Goals as goal

pub explain_checked-requires-clause-formed : goal.explain_checked-requires-clause-formed
explain_checked-requires-clause-formed c = can_be_checked (description c.in-Ok.desc) c.in-Ok.ensures.formed

pub explain_checked-requires-clause-shared : goal.explain_checked-requires-clause-shared
explain_checked-requires-clause-shared c = c.in-Ok.ensures.formed.units_share

pub returns-in-Ok-clause-answer : goal.returns-in-Ok-clause-answer
returns-in-Ok-clause-answer c =
    description_on c.args.file.now (trees c.args.read.now) (description c.in-Ok.desc) (λ d. Checks c.args.file.now d (ExplainsTrace c.args.trace.now c.args.traced.now d)) (decided_in c.explain_checked.result) c.in-Ok.ensures.ok c.explain_checked.ensures.answer

pub returns-in-Err-clause-answer : goal.returns-in-Err-clause-answer
returns-in-Err-clause-answer c =
    description_refused c.args.file.now (trees c.args.read.now) (λ d. Checks c.args.file.now d (ExplainsTrace c.args.trace.now c.args.traced.now d)) c.in-Err.refusal c.in-Err.ensures.err
