use Rattle.std.specs.Option.{option_map}
use Rattle.hz_base_model.specs.Reported.{reported_in}
use Rattle.hz_io.proofs.Writing.{cut_before, writes_then}
use Rattle.hz_front.specs.Faults.{from_first}
use Rattle.hz_front.proofs.faults.put_from_insn.Goals as goal

pub returns-in-Ok : goal.returns-in-Ok
returns-in-Ok g c = writes_then c.put_from_first.new.out (from_first (option_map (λ n. n.now) c.args.first) (option_map (λ n. n.now) c.args.second) (reported_in c.args.at)) c.put_from_first.result c.in-Ok.ensures c.put_from_first.ensures

pub returns-in-Err : goal.returns-in-Err
returns-in-Err g c = cut_before (from_first (option_map (λ n. n.now) c.args.first) (option_map (λ n. n.now) c.args.second) (reported_in c.args.at)) c.in-Err.ensures
