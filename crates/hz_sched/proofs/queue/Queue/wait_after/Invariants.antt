use Rattle.std.proofs.Common.{◌≡◌, drop}
use Rattle.std.specs.List.Sorted.{IsStrictlySortedBy}
use Rattle.hz_sched.specs.Rows.{edges_to}
use Rattle.hz_sched.specs.Pending.{wait_cmp, all_wait}
use Rattle.hz_sched.proofs.queue.Queue.wait_after.Given as goal

-- with those of the successors that are left, those wait that are to wait
abbrev pub invariant-loop-successor : goal.invariant-loop-successor
invariant-loop-successor l = record {
  waiting : all_wait l.counts l.ripes (edges_to (drop l.successor-index l.row)) l.self.waiting.keys ≡ all_wait l.counts l.ripes (edges_to l.row) l.initial.self.waiting.keys;
  ordered : IsStrictlySortedBy wait_cmp l.self.waiting.keys;
  ready : l.self.ready.items ≡ l.initial.self.ready.items;
  heads : l.self.heads.keys ≡ l.initial.self.heads.keys;
}
