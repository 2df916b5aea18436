use Rattle.hz_measure_model.specs.TwoContexts.Texts.{alone_line}
use Rattle.hz_io.proofs.Writing.{cut_before, writes_then}
use Rattle.hz_duo.proofs.writing.put_end.Goals as goal

pub returns-in-Ok : goal.returns-in-Ok
returns-in-Ok g c = writes_then c.put_alone.new.out (alone_line c.args.alone.0 c.args.alone.1) c.put_alone.result c.in-Ok.ensures c.put_alone.ensures

pub returns-in-Err : goal.returns-in-Err
returns-in-Err g c = cut_before (alone_line c.args.alone.0 c.args.alone.1) c.in-Err.ensures
