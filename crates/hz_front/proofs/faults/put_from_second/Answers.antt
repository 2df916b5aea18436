use Rattle.hz_base_model.specs.Reported.{reported_in}
use Rattle.hz_io.proofs.Writing.{writes_then}
use Rattle.hz_front.specs.Faults.{ending}
use Rattle.hz_front.proofs.faults.put_from_second.Goals as goal

pub returns-in-Ok : goal.returns-in-Ok
returns-in-Ok g c = writes_then c.put_ending.new.out (ending (reported_in c.args.at)) c.put_ending.result c.in-Ok.ensures c.put_ending.ensures
