use Rattle.std.proofs.Common.{◌≡◌, ◌+◌, ◌<◌, Some, length, take, sym, ◌∙◌, arith}
use Rattle.hz_pipeline_model.specs.Accepting.Events.{IsOfClass}
use Rattle.hz_pipeline_model.specs.Tables.Machines.{part_at, part_walk}
use Rattle.hz_replay.specs.Traces.{events_in}
use Rattle.hz_report.proofs.AfterLemmas.{gone, one_more, part_below, stays_within}
use Rattle.hz_report.proofs.ReplayLemmas.{event_at}
use Rattle.hz_tables.specs.Machines.{machine_of}
use Rattle.hz_report.proofs.parts_after.walk_on.Goals as goal

pub step_at-requires-clause-class : goal.step_at-requires-clause-class
step_at-requires-clause-class g c =
    let inside : c.loop-event.event-index < length c.args.events.now = omega arith in
    event_at (IsOfClass (length c.args.machine.now.classes.items)) c.args.events.now c.loop-event.event-index inside c.requires.classes

pub returns-in-None : goal.returns-in-None
returns-in-None g c =
    let part = part_at (machine_of c.args.machine.now) c.args.part in
    let events = c.args.events.now in
    let i = c.loop-event.event-index in
    let inside : i < length events = omega arith in
    sym (gone part c.args.from events (i + 1) (one_more part c.args.from events i c.loop-event.state inside c.loop-event.invariant.walked ∙ (sym c.step_at.ensures ∙ c.in-None.is)))

pub loop-event-preserved : goal.loop-event-preserved
loop-event-preserved g c =
    let m = machine_of c.args.machine.now in
    let events = c.args.events.now in
    let i = c.loop-event.event-index in
    let inside : i < length events = omega arith in
    let next : part_walk (part_at m c.args.part) c.args.from (events_in (take (i + 1) events)) ≡ Some c.in-Some.next = one_more (part_at m c.args.part) c.args.from events i c.loop-event.state inside c.loop-event.invariant.walked ∙ (sym c.step_at.ensures ∙ c.in-Some.is) in
    record { walked = next; within = stays_within m c.args.machine.now.kept c.args.part (part_below c.args.machine.now c.args.part c.requires.part) c.args.from c.in-Some.next (events_in (take (i + 1) events)) c.requires.from next }
