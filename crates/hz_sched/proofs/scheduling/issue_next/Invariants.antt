use Rattle.std.proofs.Common.{◌≡◌, ◌+◌}
use Rattle.hz_tables.specs.Machines.{machine_of}
use Rattle.hz_sched.specs.Shape.{graph_of}
use Rattle.hz_sched.specs.Pending.{IsBoard}
use Rattle.hz_sched.proofs.scheduling.issue_next.Given as goal

-- no instruction may be issued before the present cycle
abbrev pub invariant-loop-wait : goal.invariant-loop-wait
invariant-loop-wait g l = record {
  machine : l.replayer.machine ≡ machine_of l.machine;
  board : IsBoard (machine_of l.machine) (graph_of l.graph) l.board l.replayer.states;
  slots : l.board.slots.items ≡ l.initial.board.slots.items;
  cycle : l.board.cycle ≡ l.initial.board.cycle + l._wait;
}
