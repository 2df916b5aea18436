use Rattle.std.proofs.Common.{◌≡◌, ℕ, List, [], ◌∷◌, ◌++◌, length, map, sym, ap, ◌∙◌, subst}
use Rattle.std.specs.Prelude.{slice_index}
use Rattle.std.specs.Global.{Vec}
use Rattle.hz_modulo.specs.Lanes.{IsWithin, AreJumpsFrom}
use Rattle.hz_modulo.proofs.JumpLemmas.{twice_within, jumps_more, long_again}
use Rattle.hz_modulo.proofs.jumps.add_levels.Goals as goal

pub loop-level-preserved : goal.loop-level-preserved
loop-level-preserved c =
    let top = c.loop-level.top in
    let more = c.in_ok-more.more in
    let is : more.items ≡ map (slice_index top.items) top.items = c.in_ok-more.ensures ∙ ap (λ (xs : List ℕ). map (slice_index xs) xs) c.deref.ensures.value in
    record {
      within = subst (λ (xs : List ℕ). IsWithin (length xs) xs) (sym is) (long_again (length top.items) _ (twice_within (length top.items) top.items c.loop-level.invariant.within));
      jumps = λ part x.
          subst (λ (xs : List (Vec ℕ)). AreJumpsFrom part 1 xs more.items) (sym c.in_ok-push.ensures.items)
          (subst (λ (ys : List ℕ). AreJumpsFrom part 1 (c.loop-level.levels.items ++ top ∷ []) ys) (sym is) (jumps_more part 1 c.loop-level.levels.items top (c.loop-level.invariant.jumps part x)));
    }
