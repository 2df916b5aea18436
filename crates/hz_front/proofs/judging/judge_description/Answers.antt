use Rattle.hz_mdread.specs.Faults.{fault_of}
use Rattle.hz_sexp.specs.Shape.{trees}
use Rattle.hz_front.proofs.RefusingLemmas.{tells_description}
use Rattle.hz_front.proofs.judging.judge_description.Goals as goal

pub returns-in-Err-clause-err : goal.returns-in-Err-clause-err
returns-in-Err-clause-err c =
    tells_description c.args.file (trees c.args.read.now) c.reported.result c.at.result (fault_of c.in-Err.fault) _ c.refuse_fault.result c.reported.ensures c.at.ensures c.in-Err.ensures.faults c.refuse_fault.ensures.value
