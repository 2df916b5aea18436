use Rattle.std.proofs.Common.{◌≡◌, ◌<◌, ◌∷◌, [], Some, length}
use Rattle.hz_pipeline_model.specs.Accepting.Events.{advance}
use Rattle.hz_pipeline_model.specs.Tables.Machines.{part_at, part_walk}
use Rattle.hz_tables.specs.Machines.{machine_of}
use Rattle.hz_report.proofs.parts_after.advance_by.Given as goal

abbrev pub invariant-loop-cycle : goal.invariant-loop-cycle
invariant-loop-cycle g l = record {
  walked : part_walk (part_at (machine_of l.machine) l.part) l.from (advance l._cycle ∷ []) ≡ Some l.state;
  within : l.state < length (part_at (machine_of l.machine) l.part).rows;
}
