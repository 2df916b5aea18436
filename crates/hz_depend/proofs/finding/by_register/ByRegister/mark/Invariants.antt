use Rattle.std.proofs.Common.{◌≡◌, drop}
use Rattle.std.specs.List.{flat_map}
use Rattle.hz_depend.specs.Lists.{list_at}
use Rattle.hz_depend.specs.Marks.{marked}
use Rattle.hz_depend.specs.Tables.{lists_in}
use Rattle.hz_depend.proofs.finding.by_register.ByRegister.mark.Given as goal

-- with the registers that are left, the places of all are marked
abbrev pub invariant-loop-register : goal.invariant-loop-register
invariant-loop-register l = marked l.stamps l.stamp (flat_map (list_at (lists_in l.self)) (drop l.register-index l.registers)) ≡ marked l.initial.stamps l.stamp (flat_map (list_at (lists_in l.self)) l.registers)
