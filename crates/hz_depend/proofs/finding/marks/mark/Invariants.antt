use Rattle.std.proofs.Common.{◌≡◌, drop}
use Rattle.hz_depend.specs.Marks.{marked}
use Rattle.hz_depend.proofs.finding.marks.mark.Given as goal

-- with the places that are left, all are marked
abbrev pub invariant-loop-place : goal.invariant-loop-place
invariant-loop-place l = marked l.stamps l.stamp (drop l.place-index l.places) ≡ marked l.initial.stamps l.stamp l.places
