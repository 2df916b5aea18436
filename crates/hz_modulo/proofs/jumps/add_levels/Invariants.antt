use Rattle.std.proofs.Common.{length}
use Rattle.hz_pipeline_model.specs.Tables.Machines.{Part}
use Rattle.hz_modulo.specs.Lanes.{IsWithin, AreJumps, AreJumpsFrom}
use Rattle.hz_modulo.proofs.jumps.add_levels.Given as goal

abbrev pub invariant-loop-level : goal.invariant-loop-level
invariant-loop-level l = record {
  within : IsWithin (length l.top.items) l.top.items;
  jumps : (part : Part) → AreJumps part 1 l.fn.single.items → AreJumpsFrom part 1 l.levels.items l.top.items;
}
