use Rattle.hz_tabtext_model.proofs.HeaderLaws.{header_reported, header_found}
use Rattle.hz_tabtext_model.proofs.faults.headers_stand_first.Goals as goal

pub returns-clause-reported : goal.returns-clause-reported
returns-clause-reported c = header_reported

pub returns-clause-found : goal.returns-clause-found
returns-clause-found c = λ text line e. let h = header_found text line e in (h.first, h.ended, h.other)
