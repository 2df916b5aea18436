use Rattle.hz_tables.specs.Machines.{machine_of}
use Rattle.hz_modulo.specs.Heights.{IsLow}
use Rattle.hz_modulo.proofs.loads.least_room_by.Given as goal

-- no interval below the greatest so far leaves room
abbrev pub invariant-loop-part : goal.invariant-loop-part
invariant-loop-part g l = IsLow (machine_of l.machine) l.classes l.most
