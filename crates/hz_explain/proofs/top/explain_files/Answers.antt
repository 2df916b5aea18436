use Rattle.std.proofs.Common.{◌≡◌, List, [], ◌∷◌, ap₂, subst}
use Rattle.hz_front_model.specs.Phases.{FileWord}
use Rattle.hz_description_model.specs.Reading.Limits.{description_limit}
use Rattle.hz_pipeline_model.specs.Traces.TraceLimits.{trace_limit}
use Rattle.hz_front.proofs.ReadLemmas.{reads_all, refuses_all}
use Rattle.hz_front.specs.Reading.{AreRead, IsUnread, texts_in, wanted_in}
use Rattle.hz_front.specs.Refusals.{Agrees}
use Rattle.hz_front.specs.declared.reading.FileWord.{FileWord as Wanted}
use Rattle.hz_why_model.specs.Answers.{JudgesTexts}
use Rattle.hz_explain.specs.Deciding.{Answers, decided_in}
use Rattle.hz_explain.proofs.top.explain_files.Goals as goal

pub returns-in-Ok-clause-answer : goal.returns-in-Ok-clause-answer
returns-in-Ok-clause-answer g c = λ held reported known.
    let files : List FileWord = record { name = c.args.file.now; most = description_limit } ∷ record { name = c.args.trace.now; most = trace_limit } ∷ [] in
    let wanted : wanted_in (c.description_file.result ∷ c.trace_file.result ∷ []) ≡ files = ap₂ (λ (a b : Wanted). wanted_in (a ∷ b ∷ [])) c.description_file.ensures c.trace_file.ensures in
    let read = subst (λ (fs : List FileWord). AreRead held fs (texts_in c.in-Ok.texts.items)) wanted (c.in-Ok.ensures.read held reported) in
    reads_all held files (texts_in c.in-Ok.texts.items) (JudgesTexts c.args.file.now c.args.trace.now) (decided_in c.explain_read.result) read
    (subst (λ ts. Answers (JudgesTexts c.args.file.now c.args.trace.now (texts_in ts)) c.explain_read.result) c.as_slice.ensures.value c.explain_read.ensures.answer)

pub returns-in-Err-clause-answer : goal.returns-in-Err-clause-answer
returns-in-Err-clause-answer g c = λ held reported known.
    let files : List FileWord = record { name = c.args.file.now; most = description_limit } ∷ record { name = c.args.trace.now; most = trace_limit } ∷ [] in
    let wanted : wanted_in (c.description_file.result ∷ c.trace_file.result ∷ []) ≡ files = ap₂ (λ (a b : Wanted). wanted_in (a ∷ b ∷ [])) c.description_file.ensures c.trace_file.ensures in
    refuses_all held files (JudgesTexts c.args.file.now c.args.trace.now) c.in-Err.refusal
    (subst (λ (fs : List FileWord). Agrees (IsUnread held fs) c.in-Err.refusal) wanted (c.in-Err.ensures.refused held reported known))
