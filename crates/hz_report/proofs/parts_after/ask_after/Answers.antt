use Rattle.std.proofs.Common.{ℕ, ◌<◌, length, slice_index_or, slice_range, take, sym, ap, ◌∙◌, arith}
use Rattle.hz_pipeline_model.specs.Accepting.Events.{IsOfClass}
use Rattle.hz_pipeline_model.specs.Tables.Machines.{part_at, tells_reserved}
use Rattle.hz_replay.specs.Traces.{events_in}
use Rattle.hz_report.proofs.AfterLemmas.{all_between, one_on, part_below, parts_few, present_is, stands_there, start_within, stays_within, walked_on}
use Rattle.hz_report.specs.PartsAfter.{start}
use Rattle.hz_tables.specs.Machines.{machine_of}
use Rattle.hz_report.proofs.parts_after.ask_after.Goals as goal

pub walk_on-requires-clause-from : goal.walk_on-requires-clause-from
walk_on-requires-clause-from g c =
    let m = machine_of c.args.machine.now in
    let kept = c.args.machine.now.kept in
    let low = part_below c.args.machine.now c.args.part c.requires.part in
    let b = slice_index_or c.args.parts.now c.args.part start in
    let is = c.requires.beyond c.args.part low in
    stays_within m kept c.args.part low 0 b.state (events_in (take b.events c.args.events.now)) (start_within m kept c.args.part low) is.stands

pub walk_on-requires-clause-classes : goal.walk_on-requires-clause-classes
walk_on-requires-clause-classes g c =
    all_between (IsOfClass (length c.args.machine.now.classes.items)) c.args.events.now (slice_index_or c.args.parts.now c.args.part start).events c.args.count c.requires.classes

pub unreachable-requires : goal.unreachable-requires
unreachable-requires g c =
    let low = part_below c.args.machine.now c.args.part c.requires.part in
    c.in_default.not-Some _ (c.walk_on.ensures ∙ walked_on (machine_of c.args.machine.now) c.args.events.now c.requires.walked c.args.count c.args.part c.requires.count low (slice_index_or c.args.parts.now c.args.part start) (c.requires.beyond c.args.part low))

pub ask-requires-clause-state : goal.ask-requires-clause-state
ask-requires-clause-state g c =
    let m = machine_of c.args.machine.now in
    let kept = c.args.machine.now.kept in
    let low = part_below c.args.machine.now c.args.part c.requires.part in
    let b = slice_index_or c.args.parts.now c.args.part start in
    let is = c.requires.beyond c.args.part low in
    let from = stays_within m kept c.args.part low 0 b.state (events_in (take b.events c.args.events.now)) (start_within m kept c.args.part low) is.stands in
    stays_within m kept c.args.part low b.state c.in-Some.present (events_in (slice_range c.args.events.now b.events c.args.count)) from (sym c.walk_on.ensures ∙ c.in-Some.is)

pub returns-clause-beyond : goal.returns-clause-beyond
returns-clause-beyond g c =
    let m = machine_of c.args.machine.now in
    let trace = c.args.events.now in
    let low = part_below c.args.machine.now c.args.part c.requires.part in
    let few = parts_few c.args.machine.now in
    let room : c.args.part < length c.args.parts.now = omega (arith, low, few, c.told-parts) in
    let b = slice_index_or c.args.parts.now c.args.part start in
    let same = present_is m trace c.requires.walked c.args.count c.args.part c.requires.count low b (c.requires.beyond c.args.part low) c.in-Some.present (sym c.walk_on.ensures ∙ c.in-Some.is) in
    one_on m trace c.args.count c.args.parts.now c.args.part (record { state = c.in-Some.present; events = c.args.count }) room c.requires.beyond (stands_there m trace c.requires.walked c.args.count c.args.part c.requires.count low c.in-Some.present same)

pub returns-clause-reserved : goal.returns-clause-reserved
returns-clause-reserved g c =
    let m = machine_of c.args.machine.now in
    let low = part_below c.args.machine.now c.args.part c.requires.part in
    let b = slice_index_or c.args.parts.now c.args.part start in
    c.ask.ensures.reserved
    ∙ ap (λ (state : ℕ). tells_reserved (part_at m c.args.part) state c.args.ask) (present_is m c.args.events.now c.requires.walked c.args.count c.args.part c.requires.count low b (c.requires.beyond c.args.part low) c.in-Some.present (sym c.walk_on.ensures ∙ c.in-Some.is))
