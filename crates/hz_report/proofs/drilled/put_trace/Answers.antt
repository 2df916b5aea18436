use Rattle.hz_answer_model.specs.Texts.{left_line}
use Rattle.hz_io.proofs.Writing.{cut_before, writes_then}
use Rattle.hz_report.proofs.drilled.put_trace.Goals as goal

pub returns-in-Ok : goal.returns-in-Ok
returns-in-Ok g c = writes_then c.put_left.new.out (left_line c.args.states.now) c.put_left.result c.in-Ok.ensures c.put_left.ensures

pub returns-in-Err : goal.returns-in-Err
returns-in-Err g c = cut_before (left_line c.args.states.now) c.in-Err.ensures
