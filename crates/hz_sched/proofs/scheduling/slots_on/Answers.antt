use Rattle.std.proofs.Common.{◌≡◌, ◌*◌, ◌<◌, ◌≤◌, ℕ, List, length, All, sym, ap, ◌∙◌, subst, arith}
use Rattle.std.proofs.lemmas.List.{length-map}
use Rattle.hz_tables.specs.Machines.{machine_of}
use Rattle.hz_replay.specs.Replaying.{Standing}
use Rattle.hz_block_model.specs.Scheduling.Machines.{most_wait}
use Rattle.hz_block_model.specs.Scheduling.Schedules.{present, Legal}
use Rattle.hz_sched.specs.declared.parts.Slot.{Slot}
use Rattle.hz_sched.specs.Shape.{graph_of, slots_of, node_of}
use Rattle.hz_sched.specs.Waits.{issued_at}
use Rattle.hz_sched.specs.Standing.{left_below}
use Rattle.hz_sched.proofs.SlotLemmas.{none_yet}
use Rattle.hz_sched.proofs.StandLemmas.{is_legal}
use Rattle.hz_sched.proofs.SchedLemmas.{board_start, all_within, all_soon}
use Rattle.hz_sched.proofs.scheduling.slots_on.Goals as goal
use Rattle.hz_pipeline_model.specs.Tables.Machines.{IsWalked}
use Rattle.hz_block_model.specs.Scheduling.Machines.{most_wait}

pub loop-turn-init : goal.loop-turn-init
loop-turn-init g c =
    let m = machine_of c.args.machine.now in
    let graph = graph_of c.args.graph.now in
    let count = length c.args.graph.now.insns.items in
    let none = c.in_ok-board.ensures.slots in
    record {
      machine = ap (λ (r : Standing). r.machine) c.start-replayer.ensures;
      board = board_start m graph c.in_ok-board.board c.start-replayer.result.states none c.in_ok-board.ensures.cycle (ap (λ (r : Standing). r.states) c.start-replayer.ensures) c.in_ok-board.ensures.waits c.in_ok-board.ensures.queued;
      present = c.in_ok-board.ensures.cycle ∙ sym (ap (λ (xs : List Slot). present 0 (slots_of xs)) none);
      left = omega (arith, ap (λ (xs : List Slot). left_below (issued_at (slots_of xs)) count) none, none_yet count);
      count = ap length none;
      soon = omega (arith, c.in_ok-board.ensures.cycle);
    }

pub returns-clause-legal : goal.returns-clause-legal
returns-clause-legal g c =
    let m = machine_of c.args.machine.now in
    let graph = graph_of c.args.graph.now in
    let count = length c.args.graph.now.insns.items in
    let board = c.loop-turn.board in
    let none : left_below (issued_at (slots_of board.slots.items)) count ≡ 0 = omega (arith, c.loop-turn.invariant.left, c.loop-turn-test.false, c.len-turn-end.ensures, c.args.graph.now.insns.ok.0) in
    let all = subst (λ (n : ℕ). left_below (issued_at (slots_of board.slots.items)) n ≡ 0) (sym (length-map c.args.graph.now.insns.items node_of)) none in
    subst (λ (xs : List Slot). Legal (IsWalked m) graph (slots_of xs)) (sym c.into_slots.ensures) (is_legal m graph (slots_of board.slots.items) board.cycle c.loop-turn.replayer.states c.loop-turn.invariant.board.at all)

pub returns-clause-counted : goal.returns-clause-counted
returns-clause-counted g c = ap length c.into_slots.ensures ∙ omega (arith, c.loop-turn.invariant.count, c.loop-turn.invariant.left, c.loop-turn-test.false, c.len-turn-end.ensures, c.args.graph.now.insns.ok.0)

pub returns-clause-places : goal.returns-clause-places
returns-clause-places g c =
    let graph = graph_of c.args.graph.now in
    let at = c.loop-turn.invariant.board.at in
    subst (λ (xs : List Slot). All (λ x. x.place < length c.args.graph.now.insns.items) xs) (sym c.into_slots.ensures) (all_within (machine_of c.args.machine.now) graph c.loop-turn.board.slots.items (length c.args.graph.now.insns.items) (sym (length-map c.args.graph.now.insns.items node_of)) at.greedy)

pub returns-clause-soon : goal.returns-clause-soon
returns-clause-soon g c =
    let count = length c.args.graph.now.insns.items in
    let at = c.loop-turn.invariant.board.at in
    let last : present 0 (slots_of c.loop-turn.board.slots.items) ≤ most_wait * count = omega (arith, c.loop-turn.invariant.present, c.loop-turn.invariant.soon, c.loop-turn.invariant.left) in
    subst (λ (xs : List Slot). All (λ x. x.cycle ≤ most_wait * count) xs) (sym c.into_slots.ensures) (all_soon c.loop-turn.board.slots.items (most_wait * count) at.rising last)
