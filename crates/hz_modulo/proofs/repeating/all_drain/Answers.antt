use Rattle.std.proofs.Common.{◌≡◌, ℕ, suc, ◌+◌, true, List, Option, Some, None, [], map, refl, sym, ap, ◌∙◌, subst, arith}
use Rattle.std.specs.Prelude.{is_some, option_and_then}
use Rattle.std.proofs.lemmas.Bool.{OnTrue_at, OnFalse_at}
use Rattle.hz_pipeline_model.specs.Tables.Machines.{Machine, parts_walk}
use Rattle.hz_measure_model.specs.Kernels.Kernels.{interval_trace}
use Rattle.hz_modulo.specs.Walking.{kernel_slot_of, graph_of, drained_from}
use Rattle.hz_modulo.specs.Repeating.{edge_by, drain_by}
use Rattle.hz_modulo.proofs.AdvanceLemmas.{starts_are}
use Rattle.hz_modulo.proofs.WalkingLemmas.{stands_after}
use Rattle.hz_modulo.proofs.DrainLemmas.{drained_here, undrained_here, undrained_next, not_some, up_to, on_true, on_false}
use Rattle.hz_modulo.proofs.repeating.all_drain.Goals as goal

pub loop-turn-init : goal.loop-turn-init
loop-turn-init g c =
    let m = c.args.walker.now.machine in
    let at = sym c.requires.starts in
    record {
      machine = refl;
      stands = subst (λ (xs : List ℕ). parts_walk m.parts xs [] ≡ Some xs) at (starts_are m.parts);
      here = ap (λ (xs : List ℕ). let o : Option (List ℕ) = Some xs in o) at;
      fewer = λ count lt. absurd (omega (arith, lt));
    }

pub loop-turn-preserved : goal.loop-turn-preserved
loop-turn-preserved g c =
    let m = c.args.walker.now.machine in
    let gr = graph_of c.args.classes.now in
    let kernel = map kernel_slot_of c.args.kernel.now in
    let edge = edge_by m gr c.args.interval kernel in
    let turn = c.loop-turn.turn in
    let states = c.loop-turn.walker.states in
    let next = c.walk_interval.new.walker.states in
    let taken = subst (λ (n : Machine). parts_walk n.parts c.loop-turn.walker.states (interval_trace gr c.args.interval 0 turn kernel) ≡ Some c.walk_interval.new.walker.states) c.loop-turn.invariant.machine (OnTrue_at c.if-not-walk_interval.false c.walk_interval.ensures.taken) in
    let drained = subst (λ (n : Machine). is_some (drained_from n gr c.args.interval kernel turn (c.args.stages + 1) (Some c.loop-turn.walker.states)) ≡ true) c.loop-turn.invariant.machine (OnTrue_at c.if-not-drains.false c.drains.ensures.drained) in
    let more : turn + 1 ≡ suc turn = omega arith in
    let edge_next : edge (suc turn) ≡ Some next = ap (option_and_then (λ states. parts_walk m.parts states (interval_trace gr c.args.interval 0 turn kernel))) c.loop-turn.invariant.here ∙ taken in
    record {
      machine = c.walk_interval.ensures.machine ∙ c.loop-turn.invariant.machine;
      stands = stands_after m.parts states next (interval_trace gr c.args.interval 0 turn kernel) taken;
      here = ap edge more ∙ edge_next;
      fewer = up_to (drain_by m gr c.args.interval kernel c.args.stages) turn c.loop-turn.invariant.fewer (drained_here m gr c.args.interval kernel c.args.stages turn states c.loop-turn.invariant.here drained);
    }

pub returns-then-not-drains-clause-stuck : goal.returns-then-not-drains-clause-stuck
returns-then-not-drains-clause-stuck g c = λ each.
    let m = c.args.walker.now.machine in
    let gr = graph_of c.args.classes.now in
    let kernel = map kernel_slot_of c.args.kernel.now in
    let turn = c.loop-turn.turn in
    let stuck = subst (λ (n : Machine). drained_from n gr c.args.interval kernel turn (c.args.stages + 1) (Some c.loop-turn.walker.states) ≡ None) c.loop-turn.invariant.machine (OnFalse_at c.if-not-drains.true c.drains.ensures.stuck) in
    not_some (drain_by m gr c.args.interval kernel c.args.stages turn) (undrained_here m gr c.args.interval kernel c.args.stages turn c.loop-turn.walker.states c.loop-turn.invariant.here stuck) (each turn c.loop-turn.auto.turn-end)

pub returns-then-not-walk_interval-clause-stuck : goal.returns-then-not-walk_interval-clause-stuck
returns-then-not-walk_interval-clause-stuck g c = λ each.
    let m = c.args.walker.now.machine in
    let gr = graph_of c.args.classes.now in
    let kernel = map kernel_slot_of c.args.kernel.now in
    let turn = c.loop-turn.turn in
    let refused = subst (λ (n : Machine). parts_walk n.parts c.loop-turn.walker.states (interval_trace gr c.args.interval 0 turn kernel) ≡ None) c.loop-turn.invariant.machine (OnFalse_at c.if-not-walk_interval.true c.walk_interval.ensures.refused) in
    not_some (drain_by m gr c.args.interval kernel c.args.stages (suc turn)) (undrained_next m gr c.args.interval kernel c.args.stages turn c.loop-turn.walker.states c.loop-turn.invariant.here refused) (each (suc turn) (omega (arith, c.loop-turn-test.true)))

pub returns-clause-each : goal.returns-clause-each
returns-clause-each g c =
    let m = c.args.walker.now.machine in
    let gr = graph_of c.args.classes.now in
    let kernel = map kernel_slot_of c.args.kernel.now in
    let last : c.loop-turn.turn ≡ c.args.turns = omega (arith, c.loop-turn-test.false, c.loop-turn.auto.turn-end) in
    let here : edge_by m gr c.args.interval kernel c.args.turns ≡ Some c.loop-turn.walker.states = ap (edge_by m gr c.args.interval kernel) (sym last) ∙ c.loop-turn.invariant.here in
    on_true c.drains-2.result _ _ (λ drained count le.
    up_to (drain_by m gr c.args.interval kernel c.args.stages) c.args.turns (λ n lt. c.loop-turn.invariant.fewer n (omega (arith, lt, last)))
    (drained_here m gr c.args.interval kernel c.args.stages c.args.turns c.loop-turn.walker.states here (subst (λ (n : Machine). is_some (drained_from n gr c.args.interval kernel c.args.turns (c.args.stages + 1) (Some c.loop-turn.walker.states)) ≡ true) c.loop-turn.invariant.machine drained))
    count (omega (arith, le)))
    c.drains-2.ensures.drained

pub returns-clause-stuck : goal.returns-clause-stuck
returns-clause-stuck g c =
    let m = c.args.walker.now.machine in
    let gr = graph_of c.args.classes.now in
    let kernel = map kernel_slot_of c.args.kernel.now in
    let last : c.loop-turn.turn ≡ c.args.turns = omega (arith, c.loop-turn-test.false, c.loop-turn.auto.turn-end) in
    let here : edge_by m gr c.args.interval kernel c.args.turns ≡ Some c.loop-turn.walker.states = ap (edge_by m gr c.args.interval kernel) (sym last) ∙ c.loop-turn.invariant.here in
    on_false c.drains-2.result _ _ (λ stuck each.
    not_some (drain_by m gr c.args.interval kernel c.args.stages c.args.turns)
    (undrained_here m gr c.args.interval kernel c.args.stages c.args.turns c.loop-turn.walker.states here (subst (λ (n : Machine). drained_from n gr c.args.interval kernel c.args.turns (c.args.stages + 1) (Some c.loop-turn.walker.states) ≡ None) c.loop-turn.invariant.machine stuck))
    (each c.args.turns (omega arith)))
    c.drains-2.ensures.stuck
