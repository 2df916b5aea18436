use Rattle.std.proofs.Common.{◌≡◌, ⊎_elim, inl, inr}
use Rattle.std.specs.Prelude.{⊤}
use Rattle.hz_answer_model.proofs.AnswerLaws.{answer_single}
use Rattle.hz_answer_model.proofs.PromiseLaws.{promised}
use Rattle.hz_answer_model.specs.Answers.{Answer}
use Rattle.hz_tool_words.specs.Shape.{words_in}
use Rattle.hz_front.proofs.RunLemmas as run
use Rattle.hz_tool.proofs.RunLemmas.{ordered}
use Rattle.hz_tool.specs.Deciding.{IsFileWord, decided_in}
use Rattle.hz_tool.proofs.top.run.Goals as goal

pub returns-clause-range : goal.returns-clause-range
returns-clause-range g c = run.range _ _ _ _ _ _ (decided_in c.decide-decided.result) c.finish-status.ensures.low c.finish-status.ensures.ends

pub returns-clause-sink : goal.returns-clause-sink
returns-clause-sink g c = run.sink _ _ _ _ _ _ (decided_in c.decide-decided.result) c.finish-status.ensures.low c.finish-status.ensures.ends

pub returns-clause-file : goal.returns-clause-file
returns-clause-file g c = run.file _ _ _ _ _ _ (decided_in c.decide-decided.result) c.finish-status.ensures.low c.finish-status.ensures.ends _ _ c.decide-decided.ensures.counts

pub returns-clause-lacks : goal.returns-clause-lacks
returns-clause-lacks g c = λ held reported steady more. run.lacks _ _ _ _ _ _ (decided_in c.decide-decided.result) c.finish-status.ensures.low c.finish-status.ensures.ends _ _ c.decide-decided.ensures.counts (Answer (words_in c.args.words.now) held) more (c.decide-decided.ensures.answer held reported (inr steady))

pub returns-clause-rises : goal.returns-clause-rises
returns-clause-rises g c = run.rises _ _ _ _ _ _ (decided_in c.decide-decided.result) c.finish-status.ensures.low c.finish-status.ensures.ends _ _ c.decide-decided.ensures.counts

pub returns-clause-fails : goal.returns-clause-fails
returns-clause-fails g c = run.fails _ _ _ _ _ _ (decided_in c.decide-decided.result) c.finish-status.ensures.low c.finish-status.ensures.ends

pub returns-clause-words : goal.returns-clause-words
returns-clause-words g c = run.words _ _ _ _ _ _ (decided_in c.decide-decided.result) c.finish-status.ensures.low c.finish-status.ensures.ends _ _ _ c.decide-decided.ensures.words

pub returns-clause-usage_or_memory : goal.returns-clause-usage_or_memory
returns-clause-usage_or_memory g c = λ none same.
    ⊎_elim (λ (four : c.finish-status.result ≡ 4). inl four) (λ (five : ⊤ × (c.finish-status.result ≡ 5)). inr five.1)
    (run.no_order _ _ _ _ _ _ (decided_in c.decide-decided.result) c.finish-status.ensures.low c.finish-status.ensures.ends _ _ _ c.decide-decided.ensures.words none same)

pub returns-clause-usage : goal.returns-clause-usage
returns-clause-usage g c = run.usage_written _ _ _ _ _ _ (decided_in c.decide-decided.result) c.finish-status.ensures.low c.finish-status.ensures.ends _ _ _ c.decide-decided.ensures.words

pub returns-clause-memory : goal.returns-clause-memory
returns-clause-memory g c = run.memory _ _ _ _ _ _ (decided_in c.decide-decided.result) c.finish-status.ensures.low c.finish-status.ensures.ends

pub returns-clause-file_line : goal.returns-clause-file_line
returns-clause-file_line g c = run.file_written _ _ _ _ _ _ (decided_in c.decide-decided.result) c.finish-status.ensures.low c.finish-status.ensures.ends _ _ c.decide-decided.ensures.counts (IsFileWord (words_in c.args.words.now)) c.decide-decided.ensures.file

pub returns-clause-complete : goal.returns-clause-complete
returns-clause-complete g c = λ held reported same which. run.complete _ _ _ _ _ _ (decided_in c.decide-decided.result) c.finish-status.ensures.low c.finish-status.ensures.ends (Answer (words_in c.args.words.now) held) (c.decide-decided.ensures.answer held reported which) same

pub returns-clause-exact : goal.returns-clause-exact
returns-clause-exact g c = λ held reported same which. run.exact _ _ _ _ _ _ (decided_in c.decide-decided.result) c.finish-status.ensures.low c.finish-status.ensures.ends (Answer (words_in c.args.words.now) held) (answer_single (words_in c.args.words.now) held) (c.decide-decided.ensures.answer held reported which) same

pub returns-clause-cut : goal.returns-clause-cut
returns-clause-cut g c = λ held reported. run.cut _ _ _ _ _ _ (decided_in c.decide-decided.result) c.finish-status.ensures.low c.finish-status.ensures.ends _ _ c.decide-decided.ensures.counts (IsFileWord (words_in c.args.words.now)) c.decide-decided.ensures.file (Answer (words_in c.args.words.now) held) (g.F.Files.steady c.args.files.now) (c.decide-decided.ensures.answer held reported)

pub returns-clause-neither : goal.returns-clause-neither
returns-clause-neither g c = λ held reported steady all. run.neither _ _ _ _ _ _ (decided_in c.decide-decided.result) c.finish-status.ensures.low c.finish-status.ensures.ends _ _ c.decide-decided.ensures.counts (IsFileWord (words_in c.args.words.now)) c.decide-decided.ensures.file (Answer (words_in c.args.words.now) held) held all (c.decide-decided.ensures.lacks held reported steady) (c.decide-decided.ensures.answer held reported (inr steady))

pub returns-clause-promised : goal.returns-clause-promised
returns-clause-promised g c = λ held reported none order is.
    let words = words_in c.args.words.now in
    let z = run.zero _ _ _ _ _ _ (decided_in c.decide-decided.result) c.finish-status.ensures.low c.finish-status.ensures.ends _ _ c.decide-decided.ensures.counts (Answer words held) (g.F.Files.steady c.args.files.now) none (c.decide-decided.ensures.answer held reported) in
    record { text = z.0; promised = promised held order z.0 (ordered words held z.0 order z.1 is); appended = z.2 }
