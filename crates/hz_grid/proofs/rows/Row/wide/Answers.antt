use Rattle.std.proofs.Common.{⊎_elim, inr}
use Rattle.hz_grid.specs.Rows.{HasUnit}
use Rattle.hz_grid.specs.Words.{row_of}
use Rattle.hz_grid.proofs.Units.{HasUnit-zero, same_from_units}
use Rattle.hz_grid.proofs.WordLemmas.{row_of-zeros}
use Rattle.hz_grid.proofs.rows.Row.wide.Goals as goal

pub returns : goal.returns
returns g c = same_from_units _ _ (λ unit.
    let both = c.join.ensures.units unit in (
      λ h. ⊎_elim
          (λ (none : _). absurd (HasUnit-zero unit (rw (row_of-zeros 4) at none)))
          (λ (k : HasUnit (row_of c.self.inside.words) unit). rw (← c.self.view_is) k)
          (both.0 h),
      λ h. both.1 (inr (rw (← c.self.view_is) at h)),
    ))
