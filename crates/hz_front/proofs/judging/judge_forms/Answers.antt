use Rattle.hz_base_model.specs.Forms.Forms.{form_word}
use Rattle.hz_base_model.specs.Forms.Forms as forms
use Rattle.hz_sexp.specs.Faults as faults
use Rattle.hz_front.proofs.RefusingLemmas.{tells_fault}
use Rattle.hz_front.proofs.judging.judge_forms.Goals as goal

pub returns-in-Err-clause-err : goal.returns-in-Err-clause-err
returns-in-Err-clause-err c = tells_fault form_word (forms.FaultAt c.args.text.now) c.args.file c.reported.result (faults.fault_of c.in-Err.fault) c.refuse_fault.result c.reported.ensures c.in-Err.ensures.faults c.refuse_fault.ensures.value
