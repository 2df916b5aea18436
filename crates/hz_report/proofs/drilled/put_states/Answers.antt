use Rattle.std.proofs.Common.{codes}
use Rattle.hz_io.proofs.Writing.{cut_before, writes_then}
use Rattle.hz_report.proofs.drilled.put_states.Goals as goal

pub returns-in-Ok : goal.returns-in-Ok
returns-in-Ok g c = writes_then c.put.new.self (codes "\n") c.put.result c.in-Ok.ensures c.put.ensures

pub returns-in-Err : goal.returns-in-Err
returns-in-Err g c = cut_before (codes "\n") c.in-Err.ensures
