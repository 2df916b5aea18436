use Rattle.std.proofs.Common.{List, ℕ, length, sym, ◌∙◌, subst}
use Rattle.hz_minim.specs.Kept.{AreBelow, IsKept, StaysApart}
use Rattle.hz_minim.proofs.ListLaws.{list_at_read}
use Rattle.hz_minim.proofs.splitting.split_all.Goals as goal

pub split-requires-clause-states : goal.split-requires-clause-states
split-requires-clause-states c =
    let read = list_at_read c.args.lists.now c.loop-list.list-index c.list-item.result c.loop-list-test.true c.list-item.is in
    subst (λ n. AreBelow n c.deref.result.now) (sym c.loop-list.invariant.kept.each)
    (subst (AreBelow (length c.args.partition.now.blocks.items)) (read ∙ sym c.deref.ensures.value) (c.requires.states c.loop-list.list-index))

pub split-requires-clause-kept : goal.split-requires-clause-kept
split-requires-clause-kept c = subst (λ n. IsKept n c.loop-list.partition c.loop-list.marks) (sym c.loop-list.invariant.kept.each) c.loop-list.invariant.kept

pub loop-list-preserved : goal.loop-list-preserved
loop-list-preserved c =
    let read = list_at_read c.args.lists.now c.loop-list.list-index c.list-item.result c.loop-list-test.true c.list-item.is in
    let stays = subst (λ (states : List ℕ). StaysApart states c.loop-list.partition.blocks.items c.split.new.partition.blocks.items) (c.deref.ensures.value ∙ sym read) c.in_ok-split.ensures.apart in
    record {
      kept = subst (λ n. IsKept n c.split.new.partition c.split.new.marks) c.loop-list.invariant.kept.each c.in_ok-split.ensures.kept;
      apart = λ table separate keeps. stays table (separate c.loop-list.list-index) (c.loop-list.invariant.apart table separate keeps);
    }
