use Rattle.hz_tables.specs.Machines.{machine_of}
use Rattle.hz_same_top.specs.Deciding.{decided_in}
use Rattle.hz_same_top.proofs.JudgeLaws.{texts_found, texts_refused}
use Rattle.hz_same_top.proofs.judging.compare_texts.Goals as goal

pub returns-in-Ok-clause-answer : goal.returns-in-Ok-clause-answer
returns-in-Ok-clause-answer c =
    texts_found c.args.file.now c.args.other_file.now (machine_of c.in-Ok.first) c.args.text.now c.args.other.now (decided_in c.compare_with.result) c.in-Ok.ensures.ok c.compare_with.ensures.answer

pub returns-in-Err-clause-answer : goal.returns-in-Err-clause-answer
returns-in-Err-clause-answer c = texts_refused c.args.file.now c.args.other_file.now c.args.text.now c.args.other.now c.in-Err.refusal c.in-Err.ensures.err
