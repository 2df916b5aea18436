use Rattle.std.proofs.Common.{◌≡◌, ◌++◌, drop, map}
use Rattle.std.specs.List.{flat_map}
use Rattle.hz_rtl.specs.Shape.{effect}
use Rattle.hz_block_model.specs.Dependences.Accesses as model
use Rattle.hz_depend.specs.Cells.{cells}
use Rattle.hz_depend.proofs.finding.access.access_of.Given as goal

-- what is read and written so far, with that of the effects that are left, is all of it
abbrev pub invariant-loop-effect : goal.invariant-loop-effect
invariant-loop-effect l = record {
  registers_read : l.read.registers.items ++ flat_map model.registers_in (flat_map model.values_of_effect (map effect (drop l.effect-index l.insn.effects.items))) ≡ flat_map model.registers_in (flat_map model.values_of_effect (map effect l.insn.effects.items));
  registers_written : l.written.registers.items ++ flat_map model.register_of_target (flat_map model.targets_of_effect (map effect (drop l.effect-index l.insn.effects.items))) ≡ flat_map model.register_of_target (flat_map model.targets_of_effect (map effect l.insn.effects.items));
  cells_read : cells l.read.cells.items ++ map model.based_of (flat_map model.addresses_in (flat_map model.values_of_effect (map effect (drop l.effect-index l.insn.effects.items)))) ≡ map model.based_of (flat_map model.addresses_in (flat_map model.values_of_effect (map effect l.insn.effects.items)));
  cells_written : cells l.written.cells.items ++ map model.based_of (flat_map model.values_of_target (flat_map model.targets_of_effect (map effect (drop l.effect-index l.insn.effects.items)))) ≡ map model.based_of (flat_map model.values_of_target (flat_map model.targets_of_effect (map effect l.insn.effects.items)));
}
