use Rattle.std.proofs.Common.{ℕ, List, length, get_or, ap, ◌∙◌, arith}
use Rattle.std.specs.declared.alloc.Global.{Global}
use Rattle.std.specs.declared.vec.Vec.{Vec}
use Rattle.hz_depend.specs.Marks.{marked}
use Rattle.hz_depend.proofs.MarkLemmas.{others_kept, others_marked}
use Rattle.hz_depend.proofs.finding.by_register.ByRegister.mark_others.Goals as goal
use Rattle.hz_depend.proofs.finding.by_register.ByRegister.mark_others.Goals.{then-number-from, else-number-from}

pub loop-number-preserved : goal.loop-number-preserved
loop-number-preserved c =
    let same = c.deref-places-items.ensures.value in
    let long = ap length same in
    let from = c.from.ensures in
    let at = c.places-item.is ∙ ap (λ (vs : List (Vec ℕ Global)). get_or vs c.loop-number.number c.places-item.result) same in
    elim c.if-number-from.branch [
      | then-number-from w ↦
          let test = w.if-number-from.true in
          others_marked c.args.self.now.lists.items c.args.register c.loop-number.number c.places-item.result c.args.stamp c.loop-number.stamps c.if-number-from.stamps _ (omega arith) at c.loop-number.invariant (omega arith)
          (w.stamps-is ∙ (w.mark.ensures ∙ ap (λ (xs : List ℕ). marked c.loop-number.stamps c.args.stamp xs) w.deref.ensures.value))
      | else-number-from w ↦
          let test = w.if-number-from.false in
          others_kept c.args.self.now.lists.items c.args.register c.loop-number.number c.places-item.result c.args.stamp c.loop-number.stamps c.if-number-from.stamps _ (omega arith) at c.loop-number.invariant (omega arith) w.stamps-is
    ]
