use Rattle.hz_check.specs.Faults.{fault_of}
use Rattle.hz_front.proofs.RefusingLemmas.{tells_check}
use Rattle.hz_front.proofs.refusing.refuse_check.Goals as goal

pub returns-clause-answer : goal.returns-clause-answer
returns-clause-answer c = λ d h.
    tells_check c.args.file d c.reported-reported.result c.limit-limit.result c.into_name.result (fault_of c.args.fault) c.refuse_named.result c.reported-reported.ensures c.limit-limit.ensures c.into_name.ensures h c.refuse_named.ensures.value
