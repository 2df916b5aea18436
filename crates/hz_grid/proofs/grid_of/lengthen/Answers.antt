use Rattle.std.proofs.Common.{◌∷◌, [], ◌∙◌, arith}
use Rattle.std.proofs.lemmas.List.{take-append-le}
use Rattle.hz_grid.proofs.Steps.{HasSameUnits-push}
use Rattle.hz_grid.proofs.grid_of.lengthen.Goals as goal

pub loop-rows-preserved : goal.loop-rows-preserved
loop-rows-preserved g c =
    let pushed = HasSameUnits-push c.loop-rows.rows.items c.empty.result c.empty.ensures in
    let before = c.loop-rows.invariant.units in
    record {
      longer = omega (arith, c.in_ok-push.ensures.len);
      within = omega (arith, c.in_ok-push.ensures.len);
      start = rw c.in_ok-push.ensures.items (take-append-le _ c.loop-rows.rows.items (c.empty.result ∷ []) (omega (arith, c.loop-rows.invariant.longer)) ∙ c.loop-rows.invariant.start);
      units = rw c.in_ok-push.ensures.items (λ unit cycle. (
        λ h. (before unit cycle).0 ((pushed unit cycle).0 h),
        λ h. (pushed unit cycle).1 ((before unit cycle).1 h),
      ));
    }
