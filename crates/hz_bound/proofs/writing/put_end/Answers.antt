use Rattle.hz_measure_model.specs.Bounds.Texts.{cycles_line}
use Rattle.hz_io.proofs.Writing.{cut_before, writes_then}
use Rattle.hz_bound.proofs.writing.put_end.Goals as goal

pub returns-in-Ok : goal.returns-in-Ok
returns-in-Ok g c = writes_then c.put_cycles.new.out (cycles_line c.args.cycles) c.put_cycles.result c.in-Ok.ensures c.put_cycles.ensures

pub returns-in-Err : goal.returns-in-Err
returns-in-Err g c = cut_before (cycles_line c.args.cycles) c.in-Err.ensures
