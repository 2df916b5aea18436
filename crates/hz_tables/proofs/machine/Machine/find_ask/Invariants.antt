use Rattle.std.proofs.Common.{◌≡◌, drop}
use Rattle.hz_pipeline_model.specs.Traces.TraceNames.{query_from, query_place}
use Rattle.hz_pipeline_model.specs.Tables.MachineNames.{names_of_machine}
use Rattle.hz_tables.specs.Machines.{machine_of}
use Rattle.hz_tables.proofs.machine.Machine.find_ask.Given as goal

-- no part so far has the name
abbrev pub invariant-loop-part : goal.invariant-loop-part
invariant-loop-part l = query_from l.part (drop l.part (names_of_machine (machine_of l.self)).queries) l.name ≡ query_place (names_of_machine (machine_of l.self)) l.name
