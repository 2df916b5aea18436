use Rattle.std.proofs.Common.{◌≡◌, ◌+◌, ◌<◌, ℕ, List, [], ◌∷◌, Some, length, sym, ap, ◌∙◌, subst, arith}
use Rattle.std.proofs.lemmas.List.{length-map}
use Rattle.hz_pipeline_model.specs.Accepting.Events.{advance}
use Rattle.hz_pipeline_model.specs.Tables.Machines.{Machine, parts_walk}
use Rattle.hz_tables.specs.Machines.{machine_of}
use Rattle.hz_replay.specs.Replaying.{AreStates}
use Rattle.hz_block_model.specs.Scheduling.Schedules.{Slot, class_at, present}
use Rattle.hz_block_model.proofs.Scheduling.SameSchedules.{class_below}
use Rattle.hz_sched.specs.Shape.{graph_of, slots_of, node_of}
use Rattle.hz_sched.specs.Waits.{issued_at}
use Rattle.hz_sched.specs.Standing.{left_below}
use Rattle.hz_sched.specs.declared.board.Board.{Board}
use Rattle.hz_sched.proofs.ResultLemmas.{on_ok}
use Rattle.hz_sched.proofs.SchedLemmas.{walked_states, is_next, none_next, next_ready, queue_next, queue_later, queue_in_range, next_fits, board_next, present_next, fewer_next, cycle_next, never, is_taken, one_more_slot, upward_of, ranges_of}
use Rattle.hz_sched.proofs.scheduling.issue_next.Goals as goal

pub first-requires-clause-states : goal.first-requires-clause-states
first-requires-clause-states g c =
    let m = machine_of c.args.machine.now in
    subst (AreStates m) (sym c.states.ensures) (walked_states m c.args.machine.now.kept _ c.loop-wait.replayer.states c.loop-wait.invariant.board.at.walked)

pub class_at-requires : goal.class_at-requires
class_at-requires g c =
    let m = machine_of c.args.machine.now in
    let graph = graph_of c.args.graph.now in
    let board : Board = record c.loop-wait.board { queue = c.ripen.new.self } in
    let b = queue_next m graph c.loop-wait.board c.loop-wait.replayer.states c.ripen.new.self c.loop-wait.invariant.board c.in_ok-ripen.ensures.queued in
    let next = is_next m graph board c.loop-wait.replayer.states b c.in_ok-ripen.ensures.later c.states.result.now c.states.ensures c.in-Some.place c.in-Some.ensures in
    omega (arith, next.may.within, length-map c.args.graph.now.insns.items node_of)

pub issue-is_taken-requires : goal.issue-is_taken-requires
issue-is_taken-requires g c =
    let m = machine_of c.args.machine.now in
    let graph = graph_of c.args.graph.now in
    let board : Board = record c.loop-wait.board { queue = c.ripen.new.self } in
    let b = queue_next m graph c.loop-wait.board c.loop-wait.replayer.states c.ripen.new.self c.loop-wait.invariant.board c.in_ok-ripen.ensures.queued in
    let next = is_next m graph board c.loop-wait.replayer.states b c.in_ok-ripen.ensures.later c.states.result.now c.states.ensures c.in-Some.place c.in-Some.ensures in
    record {
      class = subst (λ (x : Machine). c.class_at.result < length x.classes) (sym c.loop-wait.invariant.machine)
          (subst (λ (n : ℕ). n < length m.classes) (sym c.class_at.ensures) (class_below (length m.classes) graph (ranges_of (length m.classes) c.args.graph.now c.requires.schedulable) c.in-Some.place next.may.within));
    }

pub row_of-requires : goal.row_of-requires
row_of-requires g c =
    let m = machine_of c.args.machine.now in
    let graph = graph_of c.args.graph.now in
    let board : Board = record c.loop-wait.board { queue = c.ripen.new.self } in
    let b = queue_next m graph c.loop-wait.board c.loop-wait.replayer.states c.ripen.new.self c.loop-wait.invariant.board c.in_ok-ripen.ensures.queued in
    let next = is_next m graph board c.loop-wait.replayer.states b c.in_ok-ripen.ensures.later c.states.result.now c.states.ensures c.in-Some.place c.in-Some.ensures in
    omega (arith, next.may.within, length-map c.args.graph.now.insns.items node_of, c.requires.size)

pub issue-requires-clause-place : goal.issue-requires-clause-place
issue-requires-clause-place g c =
    let m = machine_of c.args.machine.now in
    let graph = graph_of c.args.graph.now in
    let board : Board = record c.loop-wait.board { queue = c.ripen.new.self } in
    let b = queue_next m graph c.loop-wait.board c.loop-wait.replayer.states c.ripen.new.self c.loop-wait.invariant.board c.in_ok-ripen.ensures.queued in
    let next = is_next m graph board c.loop-wait.replayer.states b c.in_ok-ripen.ensures.later c.states.result.now c.states.ensures c.in-Some.place c.in-Some.ensures in
    omega (arith, next.may.within, length-map c.args.graph.now.insns.items node_of)

pub issue-requires-clause-ready : goal.issue-requires-clause-ready
issue-requires-clause-ready g c =
    let m = machine_of c.args.machine.now in
    let graph = graph_of c.args.graph.now in
    let board : Board = record c.loop-wait.board { queue = c.ripen.new.self } in
    let b = queue_next m graph c.loop-wait.board c.loop-wait.replayer.states c.ripen.new.self c.loop-wait.invariant.board c.in_ok-ripen.ensures.queued in
    let next = is_next m graph board c.loop-wait.replayer.states b c.in_ok-ripen.ensures.later c.states.result.now c.states.ensures c.in-Some.place c.in-Some.ensures in
    next_ready m graph board c.loop-wait.replayer.states b c.in_ok-ripen.ensures.later c.in-Some.place next

pub issue-requires-clause-queued : goal.issue-requires-clause-queued
issue-requires-clause-queued g c = c.in_ok-ripen.ensures.queued _ c.loop-wait.invariant.board.queued

pub ripen-requires : goal.ripen-requires
ripen-requires g c = queue_in_range (graph_of c.args.graph.now) _ c.loop-wait.board.cycle c.loop-wait.board.queue c.loop-wait.invariant.board.queued

pub returns-in-Some-clause-board : goal.returns-in-Some-clause-board
returns-in-Some-clause-board g c =
    let m = machine_of c.args.machine.now in
    let graph = graph_of c.args.graph.now in
    let board : Board = record c.loop-wait.board { queue = c.ripen.new.self } in
    let b = queue_next m graph c.loop-wait.board c.loop-wait.replayer.states c.ripen.new.self c.loop-wait.invariant.board c.in_ok-ripen.ensures.queued in
    let next = is_next m graph board c.loop-wait.replayer.states b c.in_ok-ripen.ensures.later c.states.result.now c.states.ensures c.in-Some.place c.in-Some.ensures in
    let step = is_taken m c.loop-wait.replayer c.issue-is_taken.new.self.states (class_at graph c.in-Some.place) c.class_at.result c.issue-is_taken.result c.loop-wait.invariant.machine c.class_at.ensures c.issue-is_taken.ensures.taken c.issue-is_taken.ensures.refused
    (next_fits m graph board c.loop-wait.replayer.states b c.in-Some.place next) in
    on_ok c.issue.result (λ slots waits queued done. board_next m graph board c.loop-wait.replayer.states b c.in-Some.place next c.issue-is_taken.new.self.states step c.issue.new.self slots c.issue.ensures.cycle waits queued)
    c.issue.ensures.slots c.issue.ensures.waits c.issue.ensures.queued c.issue.ensures.slots

pub returns-in-Some-clause-present : goal.returns-in-Some-clause-present
returns-in-Some-clause-present g c =
    let m = machine_of c.args.machine.now in
    let graph = graph_of c.args.graph.now in
    let board : Board = record c.loop-wait.board { queue = c.ripen.new.self } in
    let b = queue_next m graph c.loop-wait.board c.loop-wait.replayer.states c.ripen.new.self c.loop-wait.invariant.board c.in_ok-ripen.ensures.queued in
    let next = is_next m graph board c.loop-wait.replayer.states b c.in_ok-ripen.ensures.later c.states.result.now c.states.ensures c.in-Some.place c.in-Some.ensures in
    let step = is_taken m c.loop-wait.replayer c.issue-is_taken.new.self.states (class_at graph c.in-Some.place) c.class_at.result c.issue-is_taken.result c.loop-wait.invariant.machine c.class_at.ensures c.issue-is_taken.ensures.taken c.issue-is_taken.ensures.refused
    (next_fits m graph board c.loop-wait.replayer.states b c.in-Some.place next) in
    on_ok c.issue.result (λ slots waits queued done. present_next m graph board c.loop-wait.replayer.states b c.in-Some.place next c.issue-is_taken.new.self.states step c.issue.new.self slots c.issue.ensures.cycle)
    c.issue.ensures.slots c.issue.ensures.waits c.issue.ensures.queued c.issue.ensures.slots

pub returns-in-Some-clause-fewer : goal.returns-in-Some-clause-fewer
returns-in-Some-clause-fewer g c =
    let m = machine_of c.args.machine.now in
    let graph = graph_of c.args.graph.now in
    let count = length c.args.graph.now.insns.items in
    let board : Board = record c.loop-wait.board { queue = c.ripen.new.self } in
    let b = queue_next m graph c.loop-wait.board c.loop-wait.replayer.states c.ripen.new.self c.loop-wait.invariant.board c.in_ok-ripen.ensures.queued in
    let next = is_next m graph board c.loop-wait.replayer.states b c.in_ok-ripen.ensures.later c.states.result.now c.states.ensures c.in-Some.place c.in-Some.ensures in
    let step = is_taken m c.loop-wait.replayer c.issue-is_taken.new.self.states (class_at graph c.in-Some.place) c.class_at.result c.issue-is_taken.result c.loop-wait.invariant.machine c.class_at.ensures c.issue-is_taken.ensures.taken c.issue-is_taken.ensures.refused
    (next_fits m graph board c.loop-wait.replayer.states b c.in-Some.place next) in
    let same = ap (λ xs. left_below (issued_at (slots_of xs)) count) c.loop-wait.invariant.slots in
    on_ok c.issue.result (λ slots waits queued done. fewer_next m graph board c.loop-wait.replayer.states b c.in-Some.place next c.issue-is_taken.new.self.states step c.issue.new.self slots c.issue.ensures.cycle count (sym (length-map c.args.graph.now.insns.items node_of)) ∙ same)
    c.issue.ensures.slots c.issue.ensures.waits c.issue.ensures.queued c.issue.ensures.slots

pub returns-in-Some-clause-more : goal.returns-in-Some-clause-more
returns-in-Some-clause-more g c =
    let same = ap length c.loop-wait.invariant.slots in
    on_ok c.issue.result (λ slots waits queued done. one_more_slot c.issue.new.self.slots.items c.loop-wait.board.slots.items _ slots ∙ ap (λ (n : ℕ). n + 1) same)
    c.issue.ensures.slots c.issue.ensures.waits c.issue.ensures.queued c.issue.ensures.slots

pub loop-wait-preserved : goal.loop-wait-preserved
loop-wait-preserved g c =
    let m = machine_of c.args.machine.now in
    let graph = graph_of c.args.graph.now in
    let board : Board = record c.loop-wait.board { queue = c.ripen.new.self } in
    let b = queue_next m graph c.loop-wait.board c.loop-wait.replayer.states c.ripen.new.self c.loop-wait.invariant.board c.in_ok-ripen.ensures.queued in
    let none = none_next m graph board c.loop-wait.replayer.states b c.in_ok-ripen.ensures.later c.states.result.now c.states.ensures (sym c.in_default.is ∙ c.first.ensures) in
    let step = subst (λ (x : Machine). parts_walk x.parts c.loop-wait.replayer.states (advance 1 ∷ []) ≡ Some c.advance.new.self.states) c.loop-wait.invariant.machine c.advance.ensures.taken in
    record {
      machine = c.advance.ensures.machine ∙ c.loop-wait.invariant.machine;
      board = record {
        at = cycle_next m graph board c.loop-wait.replayer.states b none c.advance.new.self.states step;
        waits = c.loop-wait.invariant.board.waits;
        queued = queue_later graph (issued_at (slots_of c.loop-wait.board.slots.items)) c.loop-wait.board.cycle c.ripen.new.self b.queued;
      };
      slots = c.loop-wait.invariant.slots;
      cycle = omega (arith, c.loop-wait.invariant.cycle);
    }

pub unreachable-requires : goal.unreachable-requires
unreachable-requires g c =
    let m = machine_of c.args.machine.now in
    let graph = graph_of c.args.graph.now in
    let count = length c.args.graph.now.insns.items in
    let same = ap slots_of c.loop-wait.invariant.slots in
    let left = subst (λ (xs : List Slot). 0 < left_below (issued_at xs) count) (sym same) c.requires.some in
    let now = ap (present 0) same in
    never m graph c.loop-wait.board c.loop-wait.replayer.states c.loop-wait.invariant.board c.requires.settles (upward_of (length m.classes) c.args.graph.now c.requires.schedulable) (ranges_of (length m.classes) c.args.graph.now c.requires.schedulable) c.requires.start
    count (sym (length-map c.args.graph.now.insns.items node_of)) left (omega (arith, now, c.requires.present, c.loop-wait.invariant.cycle, c.loop-wait-test.false, c.loop-wait.auto))
