use Rattle.std.proofs.Common.{arith}
use Rattle.std.specs.List.{list_any}
use Rattle.hz_reasons.specs.Holding.{age_of}
use Rattle.hz_reasons.specs.Plans.{choices_at, pairs_at}
use Rattle.hz_explain.specs.Showing.{is_marked, is_of}
use Rattle.hz_reasons.specs.declared.holders.Holder.{Holder}
use Rattle.hz_explain.proofs.ShowLaws.{any_next, any_end}
use Rattle.hz_explain.proofs.picture.mark_kept.Goals as goal

pub loop-place-preserved : goal.loop-place-preserved
loop-place-preserved c = record {
  each = c.mark_holder.ensures.each;
  marked = λ u. any_next (λ (h : Holder). list_any (is_of (age_of h) u) (pairs_at (choices_at c.args.plan.now h.class) h.number)) c.args.issues.now c.loop-place.place (record { line = 0; class = 0; number = 0; last = 0; left = 0 })
      (is_marked c.loop-place.marks.items u) (is_marked c.mark_holder.new.marks.items u) _ (omega arith) (c.loop-place.invariant.marked u) (c.mark_holder.ensures.marked u);
}

pub returns-clause-marked : goal.returns-clause-marked
returns-clause-marked c = λ u. any_end (λ (h : Holder). list_any (is_of (age_of h) u) (pairs_at (choices_at c.args.plan.now h.class) h.number)) c.args.issues.now c.loop-place.place (is_marked c.loop-place.marks.items u) _ (omega arith) (c.loop-place.invariant.marked u)
