use Rattle.std.proofs.Common.{◌≡◌, ◌+◌, Some, None, map, ◌∙◌, subst, arith}
use Rattle.std.proofs.lemmas.Bool.{OnTrue_at, OnFalse_at}
use Rattle.hz_pipeline_model.specs.Tables.Machines.{Machine, parts_walk}
use Rattle.hz_measure_model.specs.Kernels.Kernels.{interval_trace}
use Rattle.hz_modulo.specs.Walking.{kernel_slot_of, graph_of}
use Rattle.hz_modulo.proofs.WalkingLemmas.{stands_after, drained_more, none_at_end}
use Rattle.hz_modulo.proofs.walking.drains.Goals as goal

pub returns-then-not-walk_interval-clause-stuck : goal.returns-then-not-walk_interval-clause-stuck
returns-then-not-walk_interval-clause-stuck g c =
    let m = c.args.walker.now.machine in
    let gr = graph_of c.args.classes.now in
    let kernel = map kernel_slot_of c.args.kernel.now in
    let i = c.loop-back.back in
    let from = Some c.args.walker.now.states in
    let stops = subst (λ (n : Machine). parts_walk n.parts c.loop-back.drain.states (interval_trace gr c.args.interval (i + 1) (c.args.turn + i) kernel) ≡ None) c.loop-back.invariant.machine (OnFalse_at c.if-not-walk_interval.true c.walk_interval.ensures.refused) in
    none_at_end m gr c.args.interval kernel c.args.turn from (i + 1) (c.args.stages + 1) (omega (arith, c.loop-back-test.true))
    (drained_more m gr c.args.interval kernel c.args.turn from i c.loop-back.drain.states None c.loop-back.invariant.walked stops)

pub loop-back-preserved : goal.loop-back-preserved
loop-back-preserved g c =
    let m = c.args.walker.now.machine in
    let gr = graph_of c.args.classes.now in
    let kernel = map kernel_slot_of c.args.kernel.now in
    let i = c.loop-back.back in
    let from = Some c.args.walker.now.states in
    let next = c.walk_interval.new.walker.states in
    let taken = subst (λ (n : Machine). parts_walk n.parts c.loop-back.drain.states (interval_trace gr c.args.interval (i + 1) (c.args.turn + i) kernel) ≡ Some c.walk_interval.new.walker.states) c.loop-back.invariant.machine (OnTrue_at c.if-not-walk_interval.false c.walk_interval.ensures.taken) in
    record {
      machine = c.walk_interval.ensures.machine ∙ c.loop-back.invariant.machine;
      stands = stands_after m.parts c.loop-back.drain.states next (interval_trace gr c.args.interval (i + 1) (c.args.turn + i) kernel) taken;
      walked = drained_more m gr c.args.interval kernel c.args.turn from i c.loop-back.drain.states (Some next) c.loop-back.invariant.walked taken;
    }
