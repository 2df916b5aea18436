use Rattle.std.proofs.Common.{ℕ, List, subst}
use Rattle.hz_front.proofs.ReadLemmas.{two_texts}
use Rattle.hz_why_model.specs.Answers.{JudgesTexts}
use Rattle.hz_explain.specs.Deciding.{Answers}
use Rattle.hz_explain.proofs.top.explain_read.Goals as goal

pub returns-clause-answer : goal.returns-clause-answer
returns-clause-answer c =
    subst (λ (texts : List (List ℕ)). Answers (JudgesTexts c.args.file.now c.args.trace.now texts) c.explain_texts.result)
    (two_texts c.args.texts.now _ _ _ _ c.requires.count c.index-texts-0.is c.index-texts-1.is c.as_slice.ensures.value c.as_slice-2.ensures.value)
    c.explain_texts.ensures.answer
