use Rattle.std.proofs.Common.{inl, inr}
use Rattle.hz_mdread.specs.Shape.{description}
use Rattle.hz_description_model.proofs.Reading.CheckableLaws.{can_be_checked}
use Rattle.hz_front.proofs.AnswerLemmas.{if_ok, if_err}
use Rattle.hz_front.proofs.describing.judge_said.Goals as goal

pub judge_check-requires-clause-formed : goal.judge_check-requires-clause-formed
judge_check-requires-clause-formed c = can_be_checked (description c.in-Ok.described) c.in-Ok.ensures.formed

pub judge_check-requires-clause-shared : goal.judge_check-requires-clause-shared
judge_check-requires-clause-shared c = c.in-Ok.ensures.formed.units_share

pub returns-in-Ok-clause-ok : goal.returns-in-Ok-clause-ok
returns-in-Ok-clause-ok c = if_ok (λ checked is. (description c.in-Ok.described, c.in-Ok.ensures.ok, is)) c.judge_check.result c.judge_check.ensures.ok

pub returns-in-Ok-clause-err : goal.returns-in-Ok-clause-err
returns-in-Ok-clause-err c = if_err (λ reported h. inr (description c.in-Ok.described, c.in-Ok.ensures.ok, h)) c.judge_check.result c.judge_check.ensures.err

pub returns-in-Err-clause-err : goal.returns-in-Err-clause-err
returns-in-Err-clause-err c = inl c.in-Err.ensures.err
