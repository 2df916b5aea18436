use Rattle.std.proofs.Common.{◌++◌}
use Rattle.hz_front_model.specs.Texts.{accepted_line}
use Rattle.hz_answer_model.specs.Texts.{left_line}
use Rattle.hz_io.proofs.Writing.{cut_before, writes_then}
use Rattle.hz_report.proofs.drilled.write_drill.Goals as goal

pub returns-in-Ok : goal.returns-in-Ok
returns-in-Ok g c = writes_then c.put_trace.new.out (accepted_line c.args.issues c.args.cycles ++ left_line c.args.states.now) c.put_trace.result c.in-Ok.ensures c.put_trace.ensures

pub returns-in-Err : goal.returns-in-Err
returns-in-Err g c = cut_before (accepted_line c.args.issues c.args.cycles ++ left_line c.args.states.now) c.in-Err.ensures
