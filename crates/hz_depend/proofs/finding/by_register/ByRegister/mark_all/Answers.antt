use Rattle.std.proofs.Common.{ℕ, List, length, get_or, ap, ◌∙◌, arith}
use Rattle.std.specs.declared.alloc.Global.{Global}
use Rattle.std.specs.declared.vec.Vec.{Vec}
use Rattle.hz_depend.specs.Marks.{marked}
use Rattle.hz_depend.proofs.MarkLemmas.{marked_more}
use Rattle.hz_depend.proofs.finding.by_register.ByRegister.mark_all.Goals as goal

pub loop-places-preserved : goal.loop-places-preserved
loop-places-preserved c =
    let same = c.deref-places-items.ensures.value in
    let long = ap length same in
    let at = c.places-item.is ∙ ap (λ (vs : List (Vec ℕ Global)). get_or vs c.loop-places.places-index c.places-item.result) same in
    marked_more (λ (list : List ℕ). list) (λ (v : Vec ℕ Global). v.items) c.args.self.now.lists.items c.loop-places.places-index c.places-item.result c.args.stamp c.loop-places.stamps c.mark.new.stamps _ (omega arith)
    (c.mark.ensures ∙ (ap (λ (xs : List ℕ). marked c.loop-places.stamps c.args.stamp xs) c.deref.ensures.value ∙ ap (λ (v : Vec ℕ Global). marked c.loop-places.stamps c.args.stamp v.items) at)) c.loop-places.invariant
