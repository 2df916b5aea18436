use Rattle.std.proofs.Common.{Ok, refl}
use Rattle.hz_answer_model.specs.BlockAnswers.{HasBlock}
use Rattle.hz_answer_model.specs.ScheduleAnswers.{HasClasses, Schedules, SchedulesBlock, Starts, TellsSchedule}
use Rattle.hz_rtl.specs.Shape.{instructions}
use Rattle.hz_sched.specs.Shape.{graph_of, slots_of}
use Rattle.hz_tool.proofs.CommandLemmas.{block_schedule, decided_then, front_machine, refused_then, scheduled_then, uncompiled}
use Rattle.hz_tool.proofs.JudgeLemmas.{block_else, block_then, scheduled_else}
use Rattle.hz_tool.proofs.MachineLemmas.{classes_named}
use Rattle.hz_tool.proofs.SlotLemmas.{text_reported}
use Rattle.hz_tool.specs.Deciding.{Nothing}
use Rattle.hz_tool.specs.declared.done.Done.TheVariants.{Scheduled}
use Rattle.hz_tool.proofs.commands.schedule.judge_schedule.Goals as goal

pub returns-in_err-front : goal.returns-in_err-front
returns-in_err-front c =
    let order = c.args.order.now in
    uncompiled order.description.now c.args.described.now (SchedulesBlock order.block.now c.args.blocked.now) c.from_residual.result c.in_err-front.field-0.0 c.from_residual.ensures.1 c.in_err-front.ensures

pub returns-in_err-block : goal.returns-in_err-block
returns-in_err-block c =
    let order = c.args.order.now in
    let name = order.block.now in
    let is = c.in_ok-front.ensures in
    let d = is.checked.d in
    refused_then order.description.now c.args.described.now (SchedulesBlock name c.args.blocked.now) c.in_ok-front.front is (HasBlock name c.args.blocked.now (λ insns. Nothing))
    (block_else name c.args.blocked.now (λ insns. HasClasses name d insns (Schedules name d is.checked.is.known insns)))
    c.from_residual-in_err-block.result c.in_err-block.field-0.0 c.from_residual-in_err-block.ensures.1 (c.in_err-block.ensures.kind, c.in_err-block.ensures.err)

pub schedule_block-requires-clause-classes : goal.schedule_block-requires-clause-classes
schedule_block-requires-clause-classes c = c.in_ok-front.ensures.classes

pub schedule_block-requires-clause-settles : goal.schedule_block-requires-clause-settles
schedule_block-requires-clause-settles c = c.in_ok-front.ensures.settles

pub returns-in_err-made : goal.returns-in_err-made
returns-in_err-made c =
    let order = c.args.order.now in
    let name = order.block.now in
    let front = c.in_ok-front.front in
    let is = c.in_ok-front.ensures in
    let d = is.checked.d in
    let known = is.checked.is.known in
    let insns = instructions c.in_ok-block.block in
    refused_then order.description.now c.args.described.now (SchedulesBlock name c.args.blocked.now) front is (HasClasses name d insns (Starts name d known insns Nothing))
    (λ s t h. block_then name c.args.blocked.now (λ insns. HasClasses name d insns (Schedules name d known insns)) insns c.in_ok-block.ensures.ok s t (scheduled_else name d insns (TellsSchedule d known insns) known s t h))
    c.from_residual-in_err-made.result c.in_err-made.field-0.0 c.from_residual-in_err-made.ensures.1 (c.in_err-made.ensures.err d is.checked.is (front_machine c.args.described.now front is))

pub returns : goal.returns
returns c =
    let order = c.args.order.now in
    let name = order.block.now in
    let front = c.in_ok-front.front in
    let is = c.in_ok-front.ensures in
    let machine = front_machine c.args.described.now front is in
    let d = is.checked.d in
    let known = is.checked.is.known in
    let block = c.in_ok-block.block in
    let insns = instructions block in
    let made = c.in_ok-made.made in
    let by = c.in_ok-made.ensures.ok in
    let slots = slots_of made.schedule.slots.items in
    decided_then order.description.now c.args.described.now (SchedulesBlock name c.args.blocked.now) front is (TellsSchedule d known insns)
    (λ s t h. block_then name c.args.blocked.now (λ insns. HasClasses name d insns (Schedules name d known insns)) insns c.in_ok-block.ensures.ok s t
    (scheduled_then d front.checked is.checked.is front.compiled.machine machine block made.graph made.schedule by name (TellsSchedule d known insns) s t h))
    (Ok (Scheduled front.compiled.machine made.graph made.schedule)) (
      record { places = by.places; classes = by.schedulable.classes },
      (graph_of made.graph, slots, block_schedule d front.checked is.checked.is front.compiled.machine machine block made.graph made.schedule by, (refl, text_reported d front.compiled.machine.classes.items block made.graph slots (classes_named machine) by.made.numbers)),
    )
