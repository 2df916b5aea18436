use Rattle.std.proofs.Common.{length, sym, ◌∙◌, arith}
use Rattle.std.proofs.lemmas.List.{length-map}
use Rattle.hz_answer_model.specs.ScheduleAnswers.{HasClasses, Starts}
use Rattle.hz_block_model.proofs.Scheduled.GraphLaws.{all_have_classes}
use Rattle.hz_block_model.proofs.Scheduling.StuckLaws.{first_stuck as stuck_first}
use Rattle.hz_block_model.specs.Scheduled.BlockGraphs.{classes_of}
use Rattle.hz_front.proofs.AnswerLemmas.{agrees_weaker}
use Rattle.hz_rtl.specs.Shape.{instructions}
use Rattle.hz_sched.specs.Shape.{graph_of, node_of}
use Rattle.hz_tables.specs.Machines.{machine_of}
use Rattle.hz_tool.proofs.BlockLemmas.{graph_size, is_graph}
use Rattle.hz_tool.proofs.BlockRefusals.{stuck_within, stuck_reported}
use Rattle.hz_tool.proofs.DecideLemmas.{err_exit}
use Rattle.hz_tool.proofs.JudgeLemmas.{classes_else, classes_then}
use Rattle.hz_tool.proofs.MachineLemmas.{classes_count, classes_named}
use Rattle.hz_tool.proofs.SlotLemmas.{nodes_below}
use Rattle.hz_tool.proofs.StartLemmas.{first_stuck}
use Rattle.hz_tool.specs.Deciding.{Nothing}
use Rattle.hz_tool.proofs.phases.blocks.schedule_block.Goals as goal

pub returns-in_err-graph-clause-err : goal.returns-in_err-graph-clause-err
returns-in_err-graph-clause-err c =
    let file = c.args.file.now in
    let block = instructions c.args.block.now in
    let refusal = c.in_err-graph.field-0.0 in
    err_exit _ c.from_residual.result refusal c.from_residual.ensures.1
    (λ d is machine.
    let starts = Starts file d is.known block Nothing in
    (c.in_err-graph.ensures.kind, agrees_weaker (HasClasses file d block Nothing) (HasClasses file d block starts) (classes_else file d block starts) refusal (c.in_err-graph.ensures.err d is (classes_named machine))))

pub returns-in-Ok-clause-ok : goal.returns-in-Ok-clause-ok
returns-in-Ok-clause-ok c = record {
  made = c.in_ok-graph.ensures.ok;
  schedulable = c.in_ok-graph.ensures.schedulable;
  starts = sym c.in-Ok.ensures.fault;
  legal = c.in-Ok.ensures.legal;
  greedy = c.in-Ok.ensures.greedy;
  counted = c.in-Ok.ensures.counted;
  places = c.in-Ok.ensures.places;
  soon = c.in-Ok.ensures.soon;
}

pub refuse_stuck-requires : goal.refuse_stuck-requires
refuse_stuck-requires c =
    let m = machine_of c.args.machine.now in
    let graph = c.in_ok-graph.graph in
    let size = graph_size c.args.checked.now c.args.block.now graph c.in_ok-graph.ensures.ok in
    stuck_within (length c.args.block.now.insns.items) c.in-Err.fault
    (λ place reported. let low = (stuck_first m (graph_of graph) place (sym c.in-Err.ensures.fault ∙ reported)).0 in omega (arith, low, size, length-map graph.insns.items node_of))

pub returns-clause-err : goal.returns-clause-err
returns-clause-err c = λ d is machine.
    let m = machine_of c.args.machine.now in
    let made = c.in_ok-graph.graph in
    let g = graph_of made in
    let file = c.args.file.now in
    let block = instructions c.args.block.now in
    let starts = Starts file d is.known block Nothing in
    let graph = is_graph d c.args.checked.now is c.args.block.now made c.in_ok-graph.ensures.ok in
    let ranges = nodes_below (length m.classes) (length d.classes) made c.in_ok-graph.ensures.schedulable.classes (classes_count d is.known m machine) in (
      c.refuse_stuck.ensures.kind,
      agrees_weaker starts (HasClasses file d block starts) (classes_then file d block starts (all_have_classes d (classes_of g) block graph.classes)) c.refuse_stuck.result
          (stuck_reported c.args.file d is.known c.args.block.now.insns.items Nothing c.in-Err.fault c.refuse_stuck.result
          (λ place i reported there. first_stuck d is.known m machine g block graph ranges place i (sym c.in-Err.ensures.fault ∙ reported) there)
          c.refuse_stuck.ensures.answer),
    )
