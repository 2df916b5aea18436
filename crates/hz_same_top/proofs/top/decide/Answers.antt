use Rattle.hz_tool_words.specs.Shape.{words_in}
use Rattle.hz_same_top.specs.Deciding.{decided_in}
use Rattle.hz_same_top.proofs.JudgeLaws.{words_found, words_refused}
use Rattle.std.proofs.Common.{sym}
use Rattle.hz_same_top.proofs.top.decide.Goals as goal

pub returns-in-Some-clause-answer : goal.returns-in-Some-clause-answer
returns-in-Some-clause-answer g c = λ held reported known.
    words_found (words_in c.args.words.now) held (c.in-Some.file.now, c.in-Some.other_file.now) (decided_in c.compare_files.result) (sym c.in-Some.ensures) (c.compare_files.ensures.answer held reported known)

pub returns-in-None-clause-answer : goal.returns-in-None-clause-answer
returns-in-None-clause-answer g c = λ held reported known. words_refused (words_in c.args.words.now) held (sym c.in-None.ensures)
