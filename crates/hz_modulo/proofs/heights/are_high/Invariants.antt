use Rattle.hz_pipeline_model.specs.Tables.Machines.{part_at}
use Rattle.hz_tables.specs.Machines.{machine_of}
use Rattle.hz_modulo.specs.Heights.{AreHighTo}
use Rattle.hz_modulo.proofs.heights.are_high.Given as goal

-- the states below this one are
abbrev pub invariant-loop-state : goal.invariant-loop-state
invariant-loop-state g l = AreHighTo (part_at (machine_of l.machine) l.part) l.classes l.weights l.share l.heights l.state
