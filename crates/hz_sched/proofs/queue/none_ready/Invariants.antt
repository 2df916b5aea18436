use Rattle.std.proofs.Common.{◌≡◌, ℕ, [], length}
use Rattle.hz_sched.specs.Pending.{keys_at}
use Rattle.hz_sched.proofs.queue.none_ready.Given as goal

abbrev pub invariant-loop-class : goal.invariant-loop-class
invariant-loop-class l = record {
  size : length l.ready.items ≡ l._class;
  none : (class : ℕ) → keys_at l.ready.items class ≡ [];
}
