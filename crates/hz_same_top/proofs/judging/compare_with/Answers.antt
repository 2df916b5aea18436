use Rattle.hz_tables.specs.Machines.{machine_of}
use Rattle.hz_same_top.specs.Deciding.{decided_in}
use Rattle.hz_same_top.proofs.JudgeLaws.{with_found, with_refused}
use Rattle.hz_same_top.proofs.judging.compare_with.Goals as goal

pub returns-in-Ok-clause-answer : goal.returns-in-Ok-clause-answer
returns-in-Ok-clause-answer c =
    with_found c.args.file.now c.args.other_file.now (machine_of c.args.first.now) (machine_of c.in-Ok.second) c.args.other.now (decided_in c.compare_judged.result) c.in-Ok.ensures.ok c.compare_judged.ensures.answer

pub returns-in-Err-clause-answer : goal.returns-in-Err-clause-answer
returns-in-Err-clause-answer c = with_refused c.args.file.now c.args.other_file.now (machine_of c.args.first.now) c.args.other.now c.in-Err.refusal c.in-Err.ensures.err
