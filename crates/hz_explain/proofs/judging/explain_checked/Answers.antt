use Rattle.hz_mdread.specs.Shape.{description}
use Rattle.hz_why_model.specs.Answers.{ExplainsTrace}
use Rattle.hz_front.proofs.JudgeLemmas.{check_on}
use Rattle.hz_explain.specs.Deciding.{decided_in}
use Rattle.hz_explain.proofs.judging.explain_checked.Goals as goal

pub returns-in-Ok-clause-answer : goal.returns-in-Ok-clause-answer
returns-in-Ok-clause-answer c =
    let d = description c.args.desc.now in
    let is = c.in-Ok.ensures.ok in
    check_on c.args.file.now d is.known (ExplainsTrace c.args.trace.now c.args.traced.now d) (decided_in c.explain_text.result) is.sound (c.explain_text.ensures.answer is)
