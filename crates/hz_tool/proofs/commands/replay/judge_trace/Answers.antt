use Rattle.hz_front.proofs.RefusingLemmas.{tells_fault}
use Rattle.hz_pipeline_model.specs.Tables.MachineNames.{names_of_machine}
use Rattle.hz_pipeline_model.specs.Traces.Traces.{TraceFaultAt, trace_word}
use Rattle.hz_replay.specs.Traces as faults
use Rattle.hz_tables.specs.Machines.{machine_of}
use Rattle.hz_tool.proofs.commands.replay.judge_trace.Goals as goal

pub returns-in-Err-clause-err : goal.returns-in-Err-clause-err
returns-in-Err-clause-err c = tells_fault trace_word (TraceFaultAt (names_of_machine (machine_of c.args.machine.now)) c.args.text.now) c.args.file c.reported.result (faults.fault_reported c.in-Err.fault) c.refuse_fault.result c.reported.ensures c.in-Err.ensures.err c.refuse_fault.ensures.value
