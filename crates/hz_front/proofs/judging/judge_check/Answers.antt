use Rattle.hz_mdread.specs.Shape.{description}
use Rattle.hz_front.proofs.judging.judge_check.Goals as goal

pub returns-in-Err-clause-err : goal.returns-in-Err-clause-err
returns-in-Err-clause-err c = c.refuse_check.ensures.answer (description c.args.described) c.in-Err.ensures.faults
