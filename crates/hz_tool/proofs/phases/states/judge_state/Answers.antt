use Rattle.hz_block_model.specs.Texts.Operands.{rtl_word}
use Rattle.hz_block_model.specs.Texts.StateForms as states
use Rattle.hz_front.proofs.RefusingLemmas.{tells_fault}
use Rattle.hz_sexp.specs.Shape.{trees}
use Rattle.hz_rtl.specs.Faults as faults
use Rattle.hz_tool.proofs.phases.states.judge_state.Goals as goal

pub returns-in-Err-clause-err : goal.returns-in-Err-clause-err
returns-in-Err-clause-err c = tells_fault rtl_word (states.FaultAt (trees c.args.read.now)) c.args.file c.reported.result (faults.fault_of c.in-Err.fault) c.refuse_fault.result c.reported.ensures c.in-Err.ensures.faults c.refuse_fault.ensures.value
