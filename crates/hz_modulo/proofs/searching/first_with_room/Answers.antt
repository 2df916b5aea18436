use Rattle.std.proofs.Common.{arith}
use Rattle.hz_sched.specs.Shape.{slots_of}
use Rattle.hz_tables.specs.Machines.{machine_of}
use Rattle.hz_modulo.proofs.KernelLemmas.{ok_weaker}
use Rattle.hz_modulo.proofs.SearchLemmas.{near_both, is_roomy}
use Rattle.hz_modulo.proofs.searching.first_with_room.Goals as goal

pub first_kernel-requires-clause-settles : goal.first_kernel-requires-clause-settles
first_kernel-requires-clause-settles c = c.requires.settles

pub first_kernel-requires-clause-near : goal.first_kernel-requires-clause-near
first_kernel-requires-clause-near c = near_both (machine_of c.args.machine.now) c.args.classes.now c.args.first c.in_ok-least.least c.max.result c.max.ensures c.in_ok-least.ensures c.args.last c.requires.room c.requires.near

pub first_kernel-requires-clause-few : goal.first_kernel-requires-clause-few
first_kernel-requires-clause-few c = λ interval le. c.requires.few interval (omega (arith, le, c.max.ensures))

pub first_kernel-requires-clause-long : goal.first_kernel-requires-clause-long
first_kernel-requires-clause-long c = c.requires.long

pub returns-clause-first : goal.returns-clause-first
returns-clause-first c = ok_weaker _ _ c.first_kernel.result (λ k x. is_roomy (machine_of c.args.machine.now) c.args.classes.now c.args.first c.in_ok-least.least c.max.result c.max.ensures c.in_ok-least.ensures (slots_of c.args.slots.now) k x) c.first_kernel.ensures.first
