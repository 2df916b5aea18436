use Rattle.std.proofs.Common.{◌≡◌, drop}
use Rattle.hz_depend.specs.Marks.{marked, below}
use Rattle.hz_depend.proofs.finding.marks.mark_below.Given as goal

-- with those of the places that are left, all are marked
abbrev pub invariant-loop-place : goal.invariant-loop-place
invariant-loop-place l = marked l.stamps l.stamp (below l.end (drop l.place-index l.places)) ≡ marked l.initial.stamps l.stamp (below l.end l.places)
