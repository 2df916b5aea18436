use Rattle.std.proofs.Common.{◌++◌, codes}
use Rattle.std.specs.List.{flat_map}
use Rattle.hz_answer_model.specs.Texts.{state_field}
use Rattle.hz_io.proofs.Writing.{cut_before, writes_then}
use Rattle.hz_report.proofs.drilled.put_left.Goals as goal

pub returns-in-Ok : goal.returns-in-Ok
returns-in-Ok g c = writes_then c.put_states.new.out (flat_map state_field c.args.states.now ++ codes "\n") c.put_states.result c.in-Ok.ensures c.put_states.ensures

pub returns-in-Err : goal.returns-in-Err
returns-in-Err g c = cut_before (flat_map state_field c.args.states.now ++ codes "\n") c.in-Err.ensures
