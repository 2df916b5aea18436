use Rattle.std.proofs.Common.{◌≡◌, ◌<◌, ℕ, length, Some, None}
use Rattle.std.specs.Prelude.{slice_index}
use Rattle.hz_pipeline_model.specs.Tables.Machines.{part_at, next_of}
use Rattle.hz_tables.specs.Machines.{machine_of}
use Rattle.hz_modulo.proofs.jumps.single_jumps.Given as goal

abbrev pub invariant-loop-state : goal.invariant-loop-state
invariant-loop-state g l = record {
  long : length l.level.items ≡ l.state;
  each : (s : ℕ) → s < l.state → next_of (part_at (machine_of l.machine) l.part) s None ≡ Some (slice_index l.level.items s);
}
