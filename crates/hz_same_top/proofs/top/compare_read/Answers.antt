use Rattle.std.proofs.Common.{ℕ, List, subst}
use Rattle.hz_front.proofs.ReadLemmas.{two_texts}
use Rattle.hz_same_top.specs.Deciding.{Answers, MayJudgeAll}
use Rattle.hz_same_top.proofs.top.compare_read.Goals as goal

pub returns-clause-answer : goal.returns-clause-answer
returns-clause-answer c =
    subst (λ (texts : List (List ℕ)). Answers (MayJudgeAll c.args.file.now c.args.other_file.now texts) c.compare_texts.result)
    (two_texts c.args.texts.now _ _ _ _ c.requires.count c.index-texts-0.is c.index-texts-1.is c.as_slice.ensures.value c.as_slice-2.ensures.value)
    c.compare_texts.ensures.answer
