use Rattle.std.proofs.Common.{◌≡◌, drop}
use Rattle.std.specs.Prelude.{slice_index}
use Rattle.std.specs.List.{flat_map}
use Rattle.hz_depend.specs.Marks.{marked, place_before}
use Rattle.hz_depend.proofs.finding.tables.mark_last.Given as goal

-- with the registers that are left, the last writers of all are marked
abbrev pub invariant-loop-register : goal.invariant-loop-register
invariant-loop-register l = marked l.stamps l.stamp (flat_map (λ r. place_before (slice_index l.last r)) (drop l.register-index l.registers)) ≡ marked l.initial.stamps l.stamp (flat_map (λ r. place_before (slice_index l.last r)) l.registers)
