use Rattle.std.proofs.Common.{◌≡◌, Bool, true, false, Ok, length, nat_lt, map, refl, sym, ap, ◌∙◌}
use Rattle.std.proofs.lemmas.Bool.{ltb-false}
use Rattle.std.proofs.lemmas.List.{length-map}
use Rattle.hz_answer_model.specs.BlockAnswers.{HasAtMost, HasBlock}
use Rattle.hz_answer_model.specs.ModuloAnswers.{Overlaps, OverlapsBlock, OverlapsBody, TellsKernel}
use Rattle.hz_answer_model.specs.ScheduleAnswers.{HasClasses, Starts}
use Rattle.hz_auto.specs.Machines.{reports_of}
use Rattle.hz_front.specs.declared.refusal.Refusal.TheVariants.{Insns}
use Rattle.hz_measure_model.specs.Kernels.Repeats.{body_limit}
use Rattle.hz_modulo.specs.Walking.{kernel_slot_of}
use Rattle.hz_rtl.specs.Shape.{instruction, instructions}
use Rattle.hz_rtl.specs.declared.block.Block.{Block}
use Rattle.hz_sched.specs.Shape.{graph_of, slots_of}
use Rattle.hz_tables.specs.Machines.{machine_of}
use Rattle.hz_tool.proofs.CommandLemmas.{block_schedule, compiled_then, decided_then, front_machine, refused_then, scheduled_then, uncompiled, whole}
use Rattle.hz_tool.proofs.DecideLemmas.{refuses_weaker}
use Rattle.hz_tool.proofs.JudgeLemmas.{block_else, block_then, few_then, many_reported, scheduled_else}
use Rattle.hz_tool.proofs.KernelLemmas.{kernel_is, kernel_reported}
use Rattle.hz_tool.proofs.MachineLemmas.{classes_named, compiled_of}
use Rattle.hz_tool.specs.Deciding.{Nothing}
use Rattle.hz_tool.specs.declared.done.Done.TheVariants.{Overlapped}
use Rattle.hz_tool.proofs.commands.modulo.judge_modulo.Goals as goal

-- how many instructions there are, of the block as it is held and of the definitions
counted : (block : Block) (b : Bool) → b ≡ nat_lt body_limit (length block.insns.items) → nat_lt body_limit (length (instructions block)) ≡ b
counted block b is = ap (nat_lt body_limit) (length-map block.insns.items instruction) ∙ sym is

pub returns-in_err-front : goal.returns-in_err-front
returns-in_err-front c =
    let order = c.args.order.now in
    uncompiled order.description.now c.args.described.now (OverlapsBlock order.block.now c.args.blocked.now) c.from_residual.result c.in_err-front.field-0.0 c.from_residual.ensures.1 c.in_err-front.ensures

pub returns-in_err-block : goal.returns-in_err-block
returns-in_err-block c =
    let order = c.args.order.now in
    let name = order.block.now in
    let is = c.in_ok-front.ensures in
    refused_then order.description.now c.args.described.now (OverlapsBlock name c.args.blocked.now) c.in_ok-front.front is (HasBlock name c.args.blocked.now (λ insns. Nothing))
    (block_else name c.args.blocked.now (OverlapsBody name is.checked.d is.checked.is.known))
    c.from_residual-in_err-block.result c.in_err-block.field-0.0 c.from_residual-in_err-block.ensures.1 (c.in_err-block.ensures.kind, c.in_err-block.ensures.err)

pub returns-then-is_long : goal.returns-then-is_long
returns-then-is_long c =
    let order = c.args.order.now in
    let name = order.block.now in
    let is = c.in_ok-front.ensures in
    let d = is.checked.d in
    let known = is.checked.is.known in
    let insns = instructions c.in_ok-block.block in
    let more = HasClasses name d insns (Overlaps name d known insns) in
    refuses_weaker (HasAtMost body_limit (length insns) name more) (whole order.description.now c.args.described.now (OverlapsBlock name c.args.blocked.now))
    (λ s t h. compiled_then order.description.now c.args.described.now (OverlapsBlock name c.args.blocked.now) c.in_ok-front.front is s t (block_then name c.args.blocked.now (OverlapsBody name d known) insns c.in_ok-block.ensures.ok s t h))
    (Insns order.block) (tt, many_reported body_limit (length insns) name more (counted c.in_ok-block.block true c.if-is_long.ensures))

pub schedule_block-requires-clause-classes : goal.schedule_block-requires-clause-classes
schedule_block-requires-clause-classes c = c.in_ok-front.ensures.classes

pub schedule_block-requires-clause-settles : goal.schedule_block-requires-clause-settles
schedule_block-requires-clause-settles c = c.in_ok-front.ensures.settles

pub returns-in_err-made : goal.returns-in_err-made
returns-in_err-made c =
    let order = c.args.order.now in
    let name = order.block.now in
    let front = c.in_ok-front.front in
    let is = c.in_ok-front.ensures in
    let d = is.checked.d in
    let known = is.checked.is.known in
    let insns = instructions c.in_ok-block.block in
    refused_then order.description.now c.args.described.now (OverlapsBlock name c.args.blocked.now) front is (HasClasses name d insns (Starts name d known insns Nothing))
    (λ s t h. block_then name c.args.blocked.now (OverlapsBody name d known) insns c.in_ok-block.ensures.ok s t
    (few_then body_limit (length insns) name (HasClasses name d insns (Overlaps name d known insns)) (counted c.in_ok-block.block false c.if-is_long.ensures) s t
    (scheduled_else name d insns (TellsKernel d known insns) known s t h)))
    c.from_residual-in_err-made.result c.in_err-made.field-0.0 c.from_residual-in_err-made.ensures.1 (c.in_err-made.ensures.err d is.checked.is (front_machine c.args.described.now front is))

pub kernel-requires-clause-few : goal.kernel-requires-clause-few
kernel-requires-clause-few c = ltb-false body_limit (length c.in_ok-block.block.insns.items) (sym c.if-is_long.ensures)

pub kernel-requires-clause-settles : goal.kernel-requires-clause-settles
kernel-requires-clause-settles c = c.in_ok-front.ensures.settles

pub kernel-requires-clause-graph : goal.kernel-requires-clause-graph
kernel-requires-clause-graph c = c.in_ok-made.ensures.ok.made

pub kernel-requires-clause-schedulable : goal.kernel-requires-clause-schedulable
kernel-requires-clause-schedulable c = c.in_ok-made.ensures.ok.schedulable

pub kernel-requires-clause-legal : goal.kernel-requires-clause-legal
kernel-requires-clause-legal c = c.in_ok-made.ensures.ok.legal

pub kernel-requires-clause-soon : goal.kernel-requires-clause-soon
kernel-requires-clause-soon c = c.in_ok-made.ensures.ok.soon

pub returns : goal.returns
returns c =
    let order = c.args.order.now in
    let name = order.block.now in
    let front = c.in_ok-front.front in
    let is = c.in_ok-front.ensures in
    let all = front.compiled in
    let machine = front_machine c.args.described.now front is in
    let m = machine_of all.machine in
    let d = is.checked.d in
    let known = is.checked.is.known in
    let block = c.in_ok-block.block in
    let insns = instructions block in
    let made = c.in_ok-made.made in
    let by = c.in_ok-made.ensures.ok in
    let slots = slots_of made.schedule.slots.items in
    let k = c.in-Ok.kernel in
    let found = c.in-Ok.ensures.kernel in
    decided_then order.description.now c.args.described.now (OverlapsBlock name c.args.blocked.now) front is (TellsKernel d known insns)
    (λ s t h. block_then name c.args.blocked.now (OverlapsBody name d known) insns c.in_ok-block.ensures.ok s t
    (few_then body_limit (length insns) name (HasClasses name d insns (Overlaps name d known insns)) (counted block false c.if-is_long.ensures) s t
    (scheduled_then d front.checked is.checked.is all.machine machine block made.graph made.schedule by name (TellsKernel d known insns) s t h)))
    (Ok (Overlapped all.machine made.graph made.schedule k)) (
      record { places = c.in-Ok.ensures.range; classes = by.schedulable.classes },
      (
        refl,
        record {
          g = graph_of made.graph;
          slots = slots;
          scheduled = block_schedule d front.checked is.checked.is all.machine machine block made.graph made.schedule by;
          machine = m;
          reports = reports_of all.reports.items;
          is_machine = all.machine.kept;
          compiled = compiled_of d front.checked is.checked.is m (reports_of all.reports.items) is.compiled.compiled;
          interval = k.interval;
          first = k.first_edge;
          second = k.second_edge;
          kernel = kernel_is d front.checked is.checked.is block made.graph m slots k.interval k.first_edge k.second_edge found.least;
          tells = kernel_reported d front.checked is.checked.is block made.graph m.classes slots (map kernel_slot_of k.slots.items) k.interval k.stages k.first_edge k.second_edge (classes_named machine) by.made.numbers found.slots_are found.stages_are;
        },
      ),
    )
