use Rattle.std.proofs.Common.{◌++◌}
use Rattle.hz_measure_model.specs.Bounds.Texts.{bound_line, cycles_line}
use Rattle.hz_io.proofs.Writing.{cut_before, writes_then}
use Rattle.hz_bound.proofs.writing.put_rest.Goals as goal

pub returns-in-Ok : goal.returns-in-Ok
returns-in-Ok g c = writes_then c.put_end.new.out (bound_line c.args.value ++ cycles_line c.args.cycles) c.put_end.result c.in-Ok.ensures c.put_end.ensures

pub returns-in-Err : goal.returns-in-Err
returns-in-Err g c = cut_before (bound_line c.args.value ++ cycles_line c.args.cycles) c.in-Err.ensures
