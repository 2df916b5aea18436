use Rattle.std.proofs.Common.{◌≤◌, ◌<◌, ℕ}
use Rattle.hz_sched.specs.Shape.{slots_of}
use Rattle.hz_tables.specs.Machines.{machine_of}
use Rattle.hz_modulo.specs.Walking.{graph_of}
use Rattle.hz_modulo.specs.Kernels.{RepeatsIn}
use Rattle.hz_modulo.proofs.searching.first_kernel.Given as goal

-- no interval before this one repeats
abbrev pub invariant-loop-interval : goal.invariant-loop-interval
invariant-loop-interval l = (shorter : ℕ) → l.first ≤ shorter → shorter < l.interval → (a b : ℕ) → RepeatsIn (machine_of l.machine) (graph_of l.classes) (slots_of l.slots) shorter a b → ⊥
