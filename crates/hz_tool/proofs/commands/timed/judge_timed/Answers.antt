use Rattle.std.proofs.Common.{◌<◌, ℕ, All, Ok, refl, subst, arith}
use Rattle.hz_answer_model.specs.BlockAnswers.{HasBlock, HasState}
use Rattle.hz_answer_model.specs.ScheduleAnswers.{HasClasses, Starts}
use Rattle.hz_answer_model.specs.TimedAnswers.{TellsTimed, Times, TimesBlock, TimesFrom}
use Rattle.hz_rtl.specs.Shape.{instructions}
use Rattle.hz_rtl.specs.States.{words}
use Rattle.hz_sched.specs.Shape.{graph_of, slots_of}
use Rattle.hz_tool.proofs.BlockLemmas.{graph_size}
use Rattle.hz_tool.proofs.CommandLemmas.{block_schedule, decided_then, front_machine, refused_then, scheduled_then, uncompiled}
use Rattle.hz_tool.proofs.JudgeLemmas.{block_else, block_then, scheduled_else, state_else, state_then}
use Rattle.hz_tool.proofs.TimedLemmas.{text_is_timed}
use Rattle.hz_tool.specs.Deciding.{Nothing}
use Rattle.hz_tool.specs.declared.done.Done.TheVariants.{Timed}
use Rattle.hz_tool.proofs.commands.timed.judge_timed.Goals as goal

pub returns-in_err-front : goal.returns-in_err-front
returns-in_err-front c =
    let order = c.args.order.now in
    uncompiled order.description.now c.args.described.now (TimesBlock order.block.now c.args.blocked.now order.state.now c.args.stated.now) c.from_residual.result c.in_err-front.field-0.0 c.from_residual.ensures.1 c.in_err-front.ensures

pub returns-in_err-block : goal.returns-in_err-block
returns-in_err-block c =
    let order = c.args.order.now in
    let name = order.block.now in
    let is = c.in_ok-front.ensures in
    refused_then order.description.now c.args.described.now (TimesBlock name c.args.blocked.now order.state.now c.args.stated.now) c.in_ok-front.front is (HasBlock name c.args.blocked.now (λ insns. Nothing))
    (block_else name c.args.blocked.now (TimesFrom name order.state.now c.args.stated.now is.checked.d is.checked.is.known))
    c.from_residual-in_err-block.result c.in_err-block.field-0.0 c.from_residual-in_err-block.ensures.1 (c.in_err-block.ensures.kind, c.in_err-block.ensures.err)

pub returns-in_err-state : goal.returns-in_err-state
returns-in_err-state c =
    let order = c.args.order.now in
    let name = order.block.now in
    let is = c.in_ok-front.ensures in
    let d = is.checked.d in
    let known = is.checked.is.known in
    let insns = instructions c.in_ok-block.block in
    refused_then order.description.now c.args.described.now (TimesBlock name c.args.blocked.now order.state.now c.args.stated.now) c.in_ok-front.front is (HasState order.state.now c.args.stated.now (λ state. Nothing))
    (λ s t h. block_then name c.args.blocked.now (TimesFrom name order.state.now c.args.stated.now d known) insns c.in_ok-block.ensures.ok s t
    (state_else order.state.now c.args.stated.now (λ start. HasClasses name d insns (Times name d known insns start)) s t h))
    c.from_residual-in_err-state.result c.in_err-state.field-0.0 c.from_residual-in_err-state.ensures.1 (c.in_err-state.ensures.kind, c.in_err-state.ensures.err)

pub schedule_block-requires-clause-classes : goal.schedule_block-requires-clause-classes
schedule_block-requires-clause-classes c = c.in_ok-front.ensures.classes

pub schedule_block-requires-clause-settles : goal.schedule_block-requires-clause-settles
schedule_block-requires-clause-settles c = c.in_ok-front.ensures.settles

pub returns-in_err-made : goal.returns-in_err-made
returns-in_err-made c =
    let order = c.args.order.now in
    let name = order.block.now in
    let front = c.in_ok-front.front in
    let is = c.in_ok-front.ensures in
    let d = is.checked.d in
    let known = is.checked.is.known in
    let insns = instructions c.in_ok-block.block in
    let start = words c.in_ok-state.state in
    refused_then order.description.now c.args.described.now (TimesBlock name c.args.blocked.now order.state.now c.args.stated.now) front is (HasClasses name d insns (Starts name d known insns Nothing))
    (λ s t h. block_then name c.args.blocked.now (TimesFrom name order.state.now c.args.stated.now d known) insns c.in_ok-block.ensures.ok s t
    (state_then order.state.now c.args.stated.now (λ start. HasClasses name d insns (Times name d known insns start)) start c.in_ok-state.ensures.ok s t
    (scheduled_else name d insns (TellsTimed d known insns start) known s t h)))
    c.from_residual-in_err-made.result c.in_err-made.field-0.0 c.from_residual-in_err-made.ensures.1 (c.in_err-made.ensures.err d is.checked.is (front_machine c.args.described.now front is))

pub exposed-requires-clause-classes : goal.exposed-requires-clause-classes
exposed-requires-clause-classes c =
    let by = c.in_ok-made.ensures.ok in
    record {
      many = graph_size c.in_ok-front.front.checked c.in_ok-block.block c.in_ok-made.made.graph by.made;
      within = subst (λ (n : ℕ). All (λ i. i.class < n) c.in_ok-made.made.graph.insns.items) c.in_ok-front.ensures.classes by.schedulable.classes;
    }

pub exposed-requires-clause-places : goal.exposed-requires-clause-places
exposed-requires-clause-places c =
    let by = c.in_ok-made.ensures.ok in
    subst (λ (n : ℕ). All (λ x. x.place < n) c.in_ok-made.made.schedule.slots.items) (graph_size c.in_ok-front.front.checked c.in_ok-block.block c.in_ok-made.made.graph by.made) by.places

pub exposed-requires-clause-few : goal.exposed-requires-clause-few
exposed-requires-clause-few c =
    let by = c.in_ok-made.ensures.ok in
    let many = graph_size c.in_ok-front.front.checked c.in_ok-block.block c.in_ok-made.made.graph by.made in
    let counted = by.counted in
    let few = c.in_ok-block.ensures.few in
    omega (arith, many, counted, few)

pub returns : goal.returns
returns c =
    let order = c.args.order.now in
    let name = order.block.now in
    let front = c.in_ok-front.front in
    let is = c.in_ok-front.ensures in
    let machine = front_machine c.args.described.now front is in
    let d = is.checked.d in
    let known = is.checked.is.known in
    let block = c.in_ok-block.block in
    let insns = instructions block in
    let start = words c.in_ok-state.state in
    let made = c.in_ok-made.made in
    let by = c.in_ok-made.ensures.ok in
    decided_then order.description.now c.args.described.now (TimesBlock name c.args.blocked.now order.state.now c.args.stated.now) front is (TellsTimed d known insns start)
    (λ s t h. block_then name c.args.blocked.now (TimesFrom name order.state.now c.args.stated.now d known) insns c.in_ok-block.ensures.ok s t
    (state_then order.state.now c.args.stated.now (λ start. HasClasses name d insns (Times name d known insns start)) start c.in_ok-state.ensures.ok s t
    (scheduled_then d front.checked is.checked.is front.compiled.machine machine block made.graph made.schedule by name (TellsTimed d known insns start) s t h)))
    (Ok (Timed block made.schedule c.in-Ok.timed)) (
      c.in-Ok.ensures.range,
      (graph_of made.graph, slots_of made.schedule.slots.items, block_schedule d front.checked is.checked.is front.compiled.machine machine block made.graph made.schedule by, refl, text_is_timed d front.checked is.checked.is block made.graph made.schedule c.in-Ok.timed start c.in-Ok.ensures.timed),
    )
