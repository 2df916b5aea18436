use Rattle.std.proofs.Common.{◌≡◌, ⊎_elim, inr}
use Rattle.hz_same_model.specs.Answers.{MayAnswer}
use Rattle.hz_tool_words.specs.Shape.{words_in}
use Rattle.hz_front.proofs.RunLemmas as run
use Rattle.hz_same_top.proofs.JudgeLaws.{exact_of, decides_of}
use Rattle.hz_same_top.specs.Deciding.{IsFileWord, decided_in}
use Rattle.hz_same_top.proofs.top.run.Goals as goal

pub returns-clause-range : goal.returns-clause-range
returns-clause-range g c = run.range _ _ _ _ _ _ (decided_in c.decide-decided.result) c.finish-status.ensures.low c.finish-status.ensures.ends

pub returns-clause-sink : goal.returns-clause-sink
returns-clause-sink g c = run.sink _ _ _ _ _ _ (decided_in c.decide-decided.result) c.finish-status.ensures.low c.finish-status.ensures.ends

pub returns-clause-file : goal.returns-clause-file
returns-clause-file g c = run.file _ _ _ _ _ _ (decided_in c.decide-decided.result) c.finish-status.ensures.low c.finish-status.ensures.ends _ _ c.decide-decided.ensures.counts

pub returns-clause-lacks : goal.returns-clause-lacks
returns-clause-lacks g c = λ held reported steady more. run.lacks _ _ _ _ _ _ (decided_in c.decide-decided.result) c.finish-status.ensures.low c.finish-status.ensures.ends _ _ c.decide-decided.ensures.counts (MayAnswer (words_in c.args.words.now) held) more (c.decide-decided.ensures.answer held reported (inr steady))

pub returns-clause-rises : goal.returns-clause-rises
returns-clause-rises g c = run.rises _ _ _ _ _ _ (decided_in c.decide-decided.result) c.finish-status.ensures.low c.finish-status.ensures.ends _ _ c.decide-decided.ensures.counts

pub returns-clause-fails : goal.returns-clause-fails
returns-clause-fails g c = run.fails _ _ _ _ _ _ (decided_in c.decide-decided.result) c.finish-status.ensures.low c.finish-status.ensures.ends

pub returns-clause-words : goal.returns-clause-words
returns-clause-words g c = run.words _ _ _ _ _ _ (decided_in c.decide-decided.result) c.finish-status.ensures.low c.finish-status.ensures.ends _ _ _ c.decide-decided.ensures.words

pub returns-clause-no_files : goal.returns-clause-no_files
returns-clause-no_files g c = λ none same.
    ⊎_elim (λ (four : c.finish-status.result ≡ 4). four) (λ (five : ⊥ × (c.finish-status.result ≡ 5)). absurd five.0)
    (run.no_order _ _ _ _ _ _ (decided_in c.decide-decided.result) c.finish-status.ensures.low c.finish-status.ensures.ends _ _ _ c.decide-decided.ensures.words none same)

pub returns-clause-usage : goal.returns-clause-usage
returns-clause-usage g c = run.usage_written _ _ _ _ _ _ (decided_in c.decide-decided.result) c.finish-status.ensures.low c.finish-status.ensures.ends _ _ _ c.decide-decided.ensures.words

pub returns-clause-memory : goal.returns-clause-memory
returns-clause-memory g c = run.memory _ _ _ _ _ _ (decided_in c.decide-decided.result) c.finish-status.ensures.low c.finish-status.ensures.ends

pub returns-clause-file_line : goal.returns-clause-file_line
returns-clause-file_line g c = run.file_written _ _ _ _ _ _ (decided_in c.decide-decided.result) c.finish-status.ensures.low c.finish-status.ensures.ends _ _ c.decide-decided.ensures.counts (IsFileWord (words_in c.args.words.now)) c.decide-decided.ensures.file

pub returns-clause-complete : goal.returns-clause-complete
returns-clause-complete g c = λ held reported same which. run.complete _ _ _ _ _ _ (decided_in c.decide-decided.result) c.finish-status.ensures.low c.finish-status.ensures.ends (MayAnswer (words_in c.args.words.now) held) (c.decide-decided.ensures.answer held reported which) same

pub returns-clause-exact : goal.returns-clause-exact
returns-clause-exact g c = λ held reported same which status text answer.
    exact_of (words_in c.args.words.now) held c.finish-status.result status text answer (g.S.Sink.written c.args.out.now) (g.S.Sink.written c.finish-status.new.out)
    (run.complete _ _ _ _ _ _ (decided_in c.decide-decided.result) c.finish-status.ensures.low c.finish-status.ensures.ends (MayAnswer (words_in c.args.words.now) held) (c.decide-decided.ensures.answer held reported which) same)

pub returns-clause-decides : goal.returns-clause-decides
returns-clause-decides g c = λ held reported same which first second are.
    decides_of (words_in c.args.words.now) held first second are c.finish-status.result (g.S.Sink.written c.args.out.now) (g.S.Sink.written c.finish-status.new.out)
    (run.complete _ _ _ _ _ _ (decided_in c.decide-decided.result) c.finish-status.ensures.low c.finish-status.ensures.ends (MayAnswer (words_in c.args.words.now) held) (c.decide-decided.ensures.answer held reported which) same)

pub returns-clause-cut : goal.returns-clause-cut
returns-clause-cut g c = λ held reported. run.cut _ _ _ _ _ _ (decided_in c.decide-decided.result) c.finish-status.ensures.low c.finish-status.ensures.ends _ _ c.decide-decided.ensures.counts (IsFileWord (words_in c.args.words.now)) c.decide-decided.ensures.file (MayAnswer (words_in c.args.words.now) held) (g.F.Files.steady c.args.files.now) (c.decide-decided.ensures.answer held reported)

pub returns-clause-neither : goal.returns-clause-neither
returns-clause-neither g c = λ held reported steady all. run.neither _ _ _ _ _ _ (decided_in c.decide-decided.result) c.finish-status.ensures.low c.finish-status.ensures.ends _ _ c.decide-decided.ensures.counts (IsFileWord (words_in c.args.words.now)) c.decide-decided.ensures.file (MayAnswer (words_in c.args.words.now) held) held all (c.decide-decided.ensures.lacks held reported steady) (c.decide-decided.ensures.answer held reported (inr steady))
