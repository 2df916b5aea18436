use Rattle.std.specs.Option.{option_map}
use Rattle.hz_base_model.specs.Reported.{reported_in}
use Rattle.hz_io.proofs.Writing.{cut_before, writes_then}
use Rattle.hz_front.specs.Faults.{from_second}
use Rattle.hz_front.proofs.faults.put_from_first.Goals as goal

pub returns-in-Ok : goal.returns-in-Ok
returns-in-Ok g c = writes_then c.put_from_second.new.out (from_second (option_map (λ n. n.now) c.args.second) (reported_in c.args.at)) c.put_from_second.result c.in-Ok.ensures c.put_from_second.ensures

pub returns-in-Err : goal.returns-in-Err
returns-in-Err g c = cut_before (from_second (option_map (λ n. n.now) c.args.second) (reported_in c.args.at)) c.in-Err.ensures
