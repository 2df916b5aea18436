use Rattle.std.proofs.Common.{◌+◌, ◌<◌, List, length, All, sym, subst, arith}
use Rattle.hz_pipeline_model.specs.Tables.Machines.{Machine}
use Rattle.hz_sched.specs.Shape.{slots_of}
use Rattle.hz_tables.specs.Machines.{machine_of}
use Rattle.hz_modulo.specs.Walking.{graph_of}
use Rattle.hz_modulo.specs.Kernels.{RepeatsIn, IsKernelAt}
use Rattle.hz_modulo.specs.Lanes.{IsLaneOf}
use Rattle.hz_modulo.proofs.SearchLemmas.{if_none, if_some, none_yet, is_first}
use Rattle.hz_modulo.proofs.searching.first_kernel.Goals as goal

pub loop-interval-preserved : goal.loop-interval-preserved
loop-interval-preserved c =
    none_yet (λ k. RepeatsIn (machine_of c.args.machine.now) (graph_of c.args.classes.now) (slots_of c.args.slots.now) k) c.args.first c.loop-interval.interval c.loop-interval.invariant
    (if_none c.in_ok-kernel.field-0 _ c.in_default.is c.in_ok-kernel.ensures.none)

pub unreachable-requires : goal.unreachable-requires
unreachable-requires c = c.loop-interval.invariant (c.args.last + 1000) c.requires.near (omega (arith, c.loop-interval-test.false, c.requires.near)) 0 1 c.requires.long

pub loop-interval-init : goal.loop-interval-init
loop-interval-init c = λ shorter low lt. absurd (omega (arith, low, lt))

pub kernel_at-requires-clause-settles : goal.kernel_at-requires-clause-settles
kernel_at-requires-clause-settles c = c.requires.settles

pub kernel_at-requires-clause-classes : goal.kernel_at-requires-clause-classes
kernel_at-requires-clause-classes c = c.requires.classes

pub kernel_at-requires-clause-places : goal.kernel_at-requires-clause-places
kernel_at-requires-clause-places c = c.requires.places

pub kernel_at-requires-clause-last : goal.kernel_at-requires-clause-last
kernel_at-requires-clause-last c = c.requires.last

pub kernel_at-requires-clause-rising : goal.kernel_at-requires-clause-rising
kernel_at-requires-clause-rising c = c.requires.rising

pub kernel_at-requires-clause-some : goal.kernel_at-requires-clause-some
kernel_at-requires-clause-some c = omega (arith, c.requires.some, c.loop-interval.auto.interval)

pub kernel_at-requires-clause-few : goal.kernel_at-requires-clause-few
kernel_at-requires-clause-few c = c.requires.few c.loop-interval.interval c.loop-interval.auto.interval

pub returns-in-Some-clause-first : goal.returns-in-Some-clause-first
returns-in-Some-clause-first c =
    is_first (machine_of c.args.machine.now) (graph_of c.args.classes.now) (slots_of c.args.slots.now) c.args.first c.loop-interval.interval c.in-Some.kernel c.loop-interval.auto.interval c.loop-interval.invariant
    (if_some c.in_ok-kernel.field-0 (IsKernelAt (machine_of c.args.machine.now) (graph_of c.args.classes.now) (slots_of c.args.slots.now) c.loop-interval.interval) c.in-Some.kernel c.in-Some.is c.in_ok-kernel.ensures.found)

pub returns-in-Some-clause-range : goal.returns-in-Some-clause-range
returns-in-Some-clause-range c = if_some c.in_ok-kernel.field-0 (λ k. All (λ x. x.place < length c.args.classes.now) k.slots.items) c.in-Some.kernel c.in-Some.is c.in_ok-kernel.ensures.range

pub kernel_at-requires-clause-lanes : goal.kernel_at-requires-clause-lanes
kernel_at-requires-clause-lanes c = subst (λ (lanes : List Machine). All (IsLaneOf (machine_of c.args.machine.now)) lanes) (sym c.deref.ensures.value) c.in_ok-lanes.ensures
