use Rattle.std.proofs.Common.{ℕ, Option, length}
use Rattle.hz_sched.specs.Shape.{graph_of}
use Rattle.hz_sched.specs.Pending.{IsInRange, IsQueue}
use Rattle.hz_sched.proofs.queue.Queue.ripen.Given as goal

-- what was queued is so still
abbrev pub invariant-loop-place : goal.invariant-loop-place
invariant-loop-place l = record {
  range : IsInRange (graph_of l.graph) l.self;
  queued : (at : ℕ → Option ℕ) → IsQueue (graph_of l.graph) at l.cycle l.initial.self → IsQueue (graph_of l.graph) at l.cycle l.self;
}

abbrev pub decreases-loop-place : goal.decreases-loop-place
decreases-loop-place l = length l.self.waiting.keys
