use Rattle.std.proofs.Common.{map, sym, subst, arith}
use Rattle.std.proofs.lemmas.Bool.{OnTrue_at}
use Rattle.hz_modulo.specs.Walking.{kernel_slot_of, graph_of}
use Rattle.hz_modulo.specs.Lanes.{IsLaneOf}
use Rattle.hz_modulo.proofs.LaneLemmas.{stuck_never}
use Rattle.hz_modulo.proofs.lanes.stuck_by.Goals as goal

pub returns-then-is_stuck : goal.returns-then-is_stuck
returns-then-is_stuck g c = λ m first second all r.
    let lane = c.index-lanes-first.result in
    stuck_never m lane (graph_of c.args.classes.now) c.args.interval (map kernel_slot_of c.args.kernel.now) c.args.stages first second
    (subst (IsLaneOf m) (sym c.index-lanes-first.is) (all c.args.first lane (omega (arith, c.if-first-lanes.true)))) (OnTrue_at c.if-is_stuck.true c.is_stuck.ensures) r

pub returns-then-is_stuck-2 : goal.returns-then-is_stuck-2
returns-then-is_stuck-2 g c = λ m first second all r.
    let lane = c.index-lanes-place.result in
    stuck_never m lane (graph_of c.args.classes.now) c.args.interval (map kernel_slot_of c.args.kernel.now) c.args.stages first second
    (subst (IsLaneOf m) (sym c.index-lanes-place.is) (all c.loop-place.place lane (omega (arith, c.loop-place-test.true)))) (OnTrue_at c.if-is_stuck-2.true c.is_stuck-in-loop-place.ensures) r
