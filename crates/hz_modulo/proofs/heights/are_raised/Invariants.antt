use Rattle.std.proofs.Common.{All, take}
use Rattle.hz_pipeline_model.specs.Tables.Machines.{part_at}
use Rattle.hz_tables.specs.Machines.{machine_of}
use Rattle.hz_modulo.specs.Heights.{IsRaised}
use Rattle.hz_modulo.proofs.heights.are_raised.Given as goal

-- the classes so far raise it
abbrev pub invariant-loop-class : goal.invariant-loop-class
invariant-loop-class g l = All (IsRaised (part_at (machine_of l.machine) l.part) l.weights l.heights l.state) (take l.class-index l.classes)
