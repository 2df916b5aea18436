use Rattle.hz_tabtext_model.proofs.FaultLaws.{after_is_trailing, trailing_is_after}
use Rattle.hz_tabtext_model.proofs.faults.trailing_texts_begin_with_machines.Goals as goal

pub returns-clause-reported : goal.returns-clause-reported
returns-clause-reported c = λ front more machine some t. after_is_trailing front more machine t some

pub returns-clause-found : goal.returns-clause-found
returns-clause-found c = λ text line e. let t = trailing_is_after text line e in (t.front, t.more, t.machine, t.parts, t.some, t.read, t.at)
