use Rattle.std.proofs.Common.{codes}
use Rattle.hz_io.proofs.Writing.{writes_then}
use Rattle.hz_front.proofs.faults.put_ending.Goals as goal

pub returns-in-Ok : goal.returns-in-Ok
returns-in-Ok g c = writes_then c.put.new.self (codes "\n") c.put.result c.in-Ok.ensures c.put.ensures
