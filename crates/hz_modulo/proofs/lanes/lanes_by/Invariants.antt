use Rattle.std.proofs.Common.{All}
use Rattle.hz_tables.specs.Machines.{machine_of}
use Rattle.hz_modulo.specs.Lanes.{IsLaneOf}
use Rattle.hz_modulo.proofs.lanes.lanes_by.Given as goal

abbrev pub invariant-loop-part : goal.invariant-loop-part
invariant-loop-part g l = All (IsLaneOf (machine_of l.machine)) l.lanes.items
