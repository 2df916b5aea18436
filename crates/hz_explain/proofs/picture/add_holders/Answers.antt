use Rattle.std.proofs.Common.{arith}
use Rattle.hz_explain.specs.Showing.{listed_for, times_held}
use Rattle.hz_explain.proofs.GatherLaws.{listed_next, listed_end}
use Rattle.hz_explain.proofs.picture.add_holders.Goals as goal

pub loop-place-preserved : goal.loop-place-preserved
loop-place-preserved c = record {
  size = c.add_holder.ensures.size;
  added = λ u. listed_next (times_held c.args.plan.now u) c.args.issues.now c.loop-place.place (record { line = 0; class = 0; number = 0; last = 0; left = 0 })
      (listed_for c.loop-place.held.items u) (listed_for c.add_holder.new.held.items u) _ (omega arith) (c.loop-place.invariant.added u) (c.in_ok-add_holder.ensures.added u);
}

pub returns : goal.returns
returns c = λ u. listed_end (times_held c.args.plan.now u) c.args.issues.now c.loop-place.place (listed_for c.loop-place.held.items u) _ (omega arith) (c.loop-place.invariant.added u)
