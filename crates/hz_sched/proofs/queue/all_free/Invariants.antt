use Rattle.std.proofs.Common.{◌≡◌}
use Rattle.std.specs.List.Sorted.{IsStrictlySortedBy}
use Rattle.hz_sched.specs.Pending.{wait_cmp, free_below}
use Rattle.hz_sched.proofs.queue.all_free.Given as goal

abbrev pub invariant-loop-place : goal.invariant-loop-place
invariant-loop-place l = record {
  waiting : l.waiting.keys ≡ free_below l.counts l.ripes l.place;
  ordered : IsStrictlySortedBy wait_cmp l.waiting.keys;
}
