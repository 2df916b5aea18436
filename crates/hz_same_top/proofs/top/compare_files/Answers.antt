use Rattle.std.proofs.Common.{◌≡◌, List, [], ◌∷◌, ap₂, subst}
use Rattle.hz_front_model.specs.Phases.{FileWord}
use Rattle.hz_answer_model.specs.TableAnswers.{tables_limit}
use Rattle.hz_front.specs.Reading.{AreRead, IsUnread, texts_in, wanted_in}
use Rattle.hz_front.specs.Refusals.{Agrees}
use Rattle.hz_front.specs.declared.reading.FileWord.{FileWord as Wanted}
use Rattle.hz_same_top.specs.Deciding.{Answers, MayJudgeAll, decided_in}
use Rattle.hz_same_top.proofs.JudgeLaws.{files_found, files_refused}
use Rattle.hz_same_top.proofs.top.compare_files.Goals as goal

pub returns-in-Ok-clause-answer : goal.returns-in-Ok-clause-answer
returns-in-Ok-clause-answer g c = λ held reported known.
    let files : List FileWord = record { name = c.args.file.now; most = tables_limit } ∷ record { name = c.args.other_file.now; most = tables_limit } ∷ [] in
    let wanted : wanted_in (c.tables_file.result ∷ c.tables_file-2.result ∷ []) ≡ files = ap₂ (λ (a b : Wanted). wanted_in (a ∷ b ∷ [])) c.tables_file.ensures c.tables_file-2.ensures in
    let read = subst (λ (fs : List FileWord). AreRead held fs (texts_in c.in-Ok.texts.items)) wanted (c.in-Ok.ensures.read held reported) in
    files_found held (c.args.file.now, c.args.other_file.now) (texts_in c.in-Ok.texts.items) (decided_in c.compare_read.result) read
    (subst (λ ts. Answers (MayJudgeAll c.args.file.now c.args.other_file.now (texts_in ts)) c.compare_read.result) c.as_slice.ensures.value c.compare_read.ensures.answer)

pub returns-in-Err-clause-answer : goal.returns-in-Err-clause-answer
returns-in-Err-clause-answer g c = λ held reported known.
    let files : List FileWord = record { name = c.args.file.now; most = tables_limit } ∷ record { name = c.args.other_file.now; most = tables_limit } ∷ [] in
    let wanted : wanted_in (c.tables_file.result ∷ c.tables_file-2.result ∷ []) ≡ files = ap₂ (λ (a b : Wanted). wanted_in (a ∷ b ∷ [])) c.tables_file.ensures c.tables_file-2.ensures in
    files_refused held (c.args.file.now, c.args.other_file.now) c.in-Err.refusal
    (subst (λ (fs : List FileWord). Agrees (IsUnread held fs) c.in-Err.refusal) wanted (c.in-Err.ensures.refused held reported known))
