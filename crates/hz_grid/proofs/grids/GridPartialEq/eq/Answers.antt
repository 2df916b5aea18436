use Rattle.std.proofs.lemmas.Bool.Decides.{same_from_decides}
use Rattle.hz_grid.specs.Hashes.{grid_eq-Decides}
use Rattle.hz_grid.specs.Widths.{pairs_of}
use Rattle.hz_grid.proofs.Pairs.{same_grids}
use Rattle.hz_grid.proofs.grids.GridPartialEq.eq.Goals as goal

pub returns-clause-same : goal.returns-clause-same
returns-clause-same c =
    rw (← c.self.view_is, ← c.other.view_is) (same_from_decides c.same.result _ c.same.ensures (grid_eq-Decides (pairs_of c.self.inside.width) (pairs_of c.other.inside.width)))

pub returns-clause-equal : goal.returns-clause-equal
returns-clause-equal c = rw (← c.self.view_is, ← c.other.view_is) c.same.ensures

pub returns-clause-pairs : goal.returns-clause-pairs
returns-clause-pairs c =
    rw (← c.self.view_is, ← c.other.view_is) (
      λ t p. let same = c.same.ensures.0 t in (λ h. rw same at h, λ h. rw same h),
      λ same. c.same.ensures.1 (same_grids _ _ c.self.invariant c.other.invariant same),
    )
