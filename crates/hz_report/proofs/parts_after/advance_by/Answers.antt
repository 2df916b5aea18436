use Rattle.std.proofs.Common.{◌≡◌, ◌+◌, ◌∷◌, [], Some, sym, ◌∙◌}
use Rattle.hz_pipeline_model.specs.Accepting.Events.{advance}
use Rattle.hz_pipeline_model.specs.Tables.Machines.{part_at, part_walk}
use Rattle.hz_report.proofs.AfterLemmas.{cycle_more, part_below, stays_within}
use Rattle.hz_tables.specs.Machines.{machine_of}
use Rattle.hz_report.proofs.parts_after.advance_by.Goals as goal

pub loop-cycle-preserved : goal.loop-cycle-preserved
loop-cycle-preserved g c =
    let m = machine_of c.args.machine.now in
    let cycle = c.loop-cycle._cycle in
    let next : part_walk (part_at m c.args.part) c.args.from (advance (cycle + 1) ∷ []) ≡ Some c.in-Some.next = cycle_more (part_at m c.args.part) c.args.from cycle c.loop-cycle.state c.loop-cycle.invariant.walked ∙ (sym c.step.ensures.next ∙ c.in-Some.is) in
    record { walked = next; within = stays_within m c.args.machine.now.kept c.args.part (part_below c.args.machine.now c.args.part c.requires.part) c.args.from c.in-Some.next (advance (cycle + 1) ∷ []) c.requires.from next }
