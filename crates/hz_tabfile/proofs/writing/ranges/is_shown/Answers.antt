use Rattle.std.proofs.Common.{ℕ, List, sym, ◌∙◌, subst}
use Rattle.std.proofs.lemmas.Option.{same_Some}
use Rattle.std.specs.Prelude.{All}
use Rattle.std.specs.declared.alloc.Global.{Global}
use Rattle.std.specs.declared.vec.Vec.{Vec}
use Rattle.hz_auto.specs.declared.report.Shown.{Shown}
use Rattle.hz_base_model.specs.Pairs.{Pair}
use Rattle.hz_grid.specs.Grids.{IsGrid}
use Rattle.hz_tabfile.proofs.writing.ranges.is_shown.Goals as goal

pub returns-in-Some : goal.returns-in-Some
returns-in-Some c = λ x e.
    let all = subst (λ (states : List (Vec (List (Pair ℕ)) Global)). All (λ grids. All IsGrid grids.items) states) c.deref.ensures.value c.are_states.ensures in
    subst (λ (shown : Shown). All (λ grids. All IsGrid grids.items) shown.grids.items) (same_Some c.in-Some.shown x (sym c.in-Some.is ∙ e)) all
