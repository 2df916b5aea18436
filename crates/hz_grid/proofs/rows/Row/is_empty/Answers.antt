use Rattle.hz_grid.proofs.WordLemmas.{below_words}
use Rattle.hz_grid.proofs.rows.Row.is_empty.Goals as goal

pub returns : goal.returns
returns g c =
    let words = c.self.inside.words in
    rw (← c.self.view_is) (
      λ t unit h. c.is_empty.ensures.0 t unit (below_words words unit c.self.invariant.small h) h,
      λ without. c.is_empty.ensures.1 (λ unit lt h. without unit h),
    )
