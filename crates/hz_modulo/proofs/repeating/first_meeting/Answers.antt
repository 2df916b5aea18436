use Rattle.std.proofs.Common.{◌≡◌, ℕ, suc, ◌+◌, ◌-◌, List, Option, Some, None, [], map, length, refl, sym, ap, ◌∙◌, subst, arith}
use Rattle.std.specs.Prelude.{is_some, option_and_then, nat_lt, if◌then◌else◌, ◌++◌, ◌∷◌}
use Rattle.std.proofs.lemmas.Bool.{OnTrue_at, OnFalse_at}
use Rattle.hz_pipeline_model.specs.Tables.Machines.{Machine, parts_walk}
use Rattle.hz_measure_model.specs.Kernels.Kernels.{interval_trace}
use Rattle.hz_modulo.specs.Walking.{kernel_slot_of, graph_of}
use Rattle.hz_modulo.specs.Repeating.{edge_by, lists_in}
use Rattle.hz_modulo.proofs.AdvanceLemmas.{starts_are}
use Rattle.hz_modulo.proofs.WalkingLemmas.{stands_after}
use Rattle.hz_modulo.proofs.ScanLemmas.{IsScanned, scan_start, scan_next, scan_stops}
use Rattle.hz_modulo.proofs.HeldLemmas.{if_none, is_new, kept_more}
use Rattle.hz_modulo.proofs.repeating.first_meeting.Goals as goal

pub loop-turn-init : goal.loop-turn-init
loop-turn-init g c =
    let m = c.args.walker.now.machine in
    let gr = graph_of c.args.classes.now in
    let kernel = map kernel_slot_of c.args.kernel.now in
    let at = sym c.requires.starts in
    record {
      machine = refl;
      stands = subst (λ (xs : List ℕ). parts_walk m.parts xs [] ≡ Some xs) at (starts_are m.parts);
      here = ap (λ (xs : List ℕ). let o : Option (List ℕ) = Some xs in o) at;
      scanned = scan_start (edge_by m gr c.args.interval kernel) (λ count. Some []) c.args.stages refl;
      kept = record {
        many = ap (λ xs. length (lists_in xs)) c.requires.nothing ∙ (let none : 0 ≡ 0 - c.args.stages = omega arith in none);
        each = λ i lt. absurd (let none = ap (λ xs. length (lists_in xs)) c.requires.nothing in omega (arith, lt, none));
      };
    }

pub returns-then-not-walk_interval-clause-none : goal.returns-then-not-walk_interval-clause-none
returns-then-not-walk_interval-clause-none g c = λ first second r.
    let m = c.args.walker.now.machine in
    let gr = graph_of c.args.classes.now in
    let kernel = map kernel_slot_of c.args.kernel.now in
    let edge = edge_by m gr c.args.interval kernel in
    let drain : ℕ → Option (List ℕ) = λ count. Some [] in
    let turn = c.loop-turn.turn in
    let refused = subst (λ (n : Machine). parts_walk n.parts c.loop-turn.walker.states (interval_trace gr c.args.interval 0 turn kernel) ≡ None) c.loop-turn.invariant.machine (OnFalse_at c.if-not-walk_interval.true c.walk_interval.ensures.refused) in
    let none = if_none c.in_ok-place.field-0 _ c.in_default.is c.in_ok-place.ensures.new in
    scan_stops edge drain c.args.stages (λ t e. ap (option_and_then (λ states. parts_walk m.parts states (interval_trace gr c.args.interval 0 t kernel))) e)
    turn c.loop-turn.invariant.scanned
    (is_new edge c.args.stages turn c.loop-turn.walker.states c.loop-turn.invariant.here (lists_in c.loop-turn.held.items) c.loop-turn.invariant.kept (λ i lt e. none i lt (e ∙ sym c.states.ensures)))
    (ap (option_and_then (λ states. parts_walk m.parts states (interval_trace gr c.args.interval 0 turn kernel))) c.loop-turn.invariant.here ∙ refused)
    first second r

pub loop-turn-preserved : goal.loop-turn-preserved
loop-turn-preserved g c =
    let m = c.args.walker.now.machine in
    let gr = graph_of c.args.classes.now in
    let kernel = map kernel_slot_of c.args.kernel.now in
    let edge = edge_by m gr c.args.interval kernel in
    let drain : ℕ → Option (List ℕ) = λ count. Some [] in
    let turn = c.loop-turn.turn in
    let states = c.loop-turn.walker.states in
    let next = c.walk_interval.new.walker.states in
    let taken = subst (λ (n : Machine). parts_walk n.parts c.loop-turn.walker.states (interval_trace gr c.args.interval 0 turn kernel) ≡ Some c.walk_interval.new.walker.states) c.loop-turn.invariant.machine (OnTrue_at c.if-not-walk_interval.false c.walk_interval.ensures.taken) in
    let none = if_none c.in_ok-place.field-0 _ c.in_default.is c.in_ok-place.ensures.new in
    let kept = if_none c.in_ok-place.field-0 _ c.in_default.is c.in_ok-place.ensures.kept in
    let more : turn + 1 ≡ suc turn = omega arith in
    let edge_next : edge (suc turn) ≡ Some next = ap (option_and_then (λ states. parts_walk m.parts states (interval_trace gr c.args.interval 0 turn kernel))) c.loop-turn.invariant.here ∙ taken in
    record {
      machine = c.walk_interval.ensures.machine ∙ c.loop-turn.invariant.machine;
      stands = stands_after m.parts states next (interval_trace gr c.args.interval 0 turn kernel) taken;
      here = ap edge more ∙ edge_next;
      scanned = subst (λ (n : ℕ). IsScanned edge drain c.args.stages n) (sym more) (scan_next edge drain c.args.stages turn c.loop-turn.invariant.scanned refl
          (is_new edge c.args.stages turn states c.loop-turn.invariant.here (lists_in c.loop-turn.held.items) c.loop-turn.invariant.kept (λ i lt e. none i lt (e ∙ sym c.states.ensures)))
          (ap is_some edge_next));
      kept = kept_more edge c.args.stages turn states c.loop-turn.invariant.here (lists_in c.loop-turn.held.items) _ c.loop-turn.invariant.kept
          (kept ∙ ap (λ (xs : List ℕ). if nat_lt turn c.args.stages then lists_in c.loop-turn.held.items else lists_in c.loop-turn.held.items ++ xs ∷ []) c.states.ensures);
    }
