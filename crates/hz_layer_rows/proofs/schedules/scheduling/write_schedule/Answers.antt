use Rattle.std.proofs.Common.{◌≡◌, ◌≤◌, ℕ, List, length, map, All, sym, ap, ◌∙◌, subst, arith}
use Rattle.std.proofs.lemmas.List.{length-map}
use Rattle.hz_pipeline_model.specs.Traces.TraceLimits.{advance_limit}
use Rattle.hz_pipeline_model.specs.Accepting.Events.{Event, IsOfClass, cycles_of}
use Rattle.hz_mdread.specs.Shape.{options as options_of}
use Rattle.hz_description_model.specs.Check.CheckedParts.{ClassParts}
use Rattle.hz_depend.specs.GraphShape.{IsSchedulable}
use Rattle.hz_checked.specs.Shape.{automaton_of, class_of, bypass_of, attribute_of}
use Rattle.hz_tables.specs.Machines.{machine_of}
use Rattle.hz_auto.specs.Machines.{reports_of}
use Rattle.hz_block_model.proofs.Settling.SettleLaws.{machine_settles}
use Rattle.hz_block_model.proofs.Scheduling.TraceLaws.{few_spelled}
use Rattle.hz_sched.specs.Shape.{graph_of, slots_of, slot_of}
use Rattle.hz_sched.proofs.TraceLemmas.{spelled_classes, spelled_short}
use Rattle.hz_replay.specs.declared.event.Event as trace
use Rattle.hz_replay.specs.Lines.{event_of}
use Rattle.hz_replay.specs.Traces.{events_in}
use Rattle.hz_pipeline_model.specs.Accepting.Asking.{IsOfQuery}
use Rattle.hz_pipeline_model.specs.Tables.MachineNames.{names_of_machine}
use Rattle.hz_layer_rows.proofs.AskLemmas.{spelled_queries}
use Rattle.hz_layer_rows.proofs.schedules.scheduling.write_schedule.Goals as goal

pub schedule-requires-clause-settles : goal.schedule-requires-clause-settles
schedule-requires-clause-settles c =
    let checked = c.args.checked.now in
    let all = c.in-Ok.compiled in
    machine_settles (options_of checked.options) (map automaton_of checked.automata.items) (map class_of checked.classes.items) (map bypass_of checked.bypasses.items) (map attribute_of checked.attributes.items) checked.kept checked.asks (machine_of all.machine) (reports_of all.reports.items) all.machine.kept c.in-Ok.ensures.compiled

-- the events are those of the trace
pub outcome_of-outcome-requires-clause-classes : goal.outcome_of-outcome-requires-clause-classes
outcome_of-outcome-requires-clause-classes c =
    let checked = c.args.checked.now in
    let classes = length c.in-Ok.compiled.machine.classes.items in
    let made = c.in-Ok-schedule.made in
    let parts = map class_of checked.classes.items in
    let count : classes ≡ length checked.classes.items = ap length (c.in-Ok.ensures.compiled).names ∙ (length-map parts (λ (k : ClassParts). k.name) ∙ length-map checked.classes.items class_of) in
    let schedulable = subst (λ (n : ℕ). IsSchedulable n c.in-Ok-graph.graph) (sym count) c.in-Ok-graph.ensures.schedulable in
    subst (λ (t : List Event). All (IsOfClass classes) t) (sym (ap events_in c.deref.ensures.value ∙ c.in-Ok-spell.ensures.spelled)) (spelled_classes classes c.in-Ok-graph.graph made.slots.items schedulable c.in-Ok-schedule.ensures.places)

pub outcome_of-outcome-requires-clause-asks : goal.outcome_of-outcome-requires-clause-asks
outcome_of-outcome-requires-clause-asks c =
    let made = c.in-Ok-schedule.made in
    let queries = (names_of_machine (machine_of c.in-Ok.compiled.machine)).queries in
    subst (λ (t : List Event). All (IsOfQuery queries) t) (sym (ap events_in c.deref.ensures.value ∙ c.in-Ok-spell.ensures.spelled)) (spelled_queries queries (graph_of c.in-Ok-graph.graph) (slots_of made.slots.items))

pub outcome_of-outcome-requires-clause-short : goal.outcome_of-outcome-requires-clause-short
outcome_of-outcome-requires-clause-short c =
    let made = c.in-Ok-schedule.made in
    subst (λ (t : List Event). cycles_of t ≤ advance_limit) (sym (ap events_in c.deref.ensures.value ∙ c.in-Ok-spell.ensures.spelled))
    (spelled_short c.in-Ok-graph.graph made.slots.items (c.in-Ok-schedule.ensures.legal).rising (c.in-Ok-graph.ensures.schedulable).few c.in-Ok-schedule.ensures.soon)

pub outcome_of-outcome-requires-clause-few : goal.outcome_of-outcome-requires-clause-few
outcome_of-outcome-requires-clause-few c =
    let made = c.in-Ok-schedule.made in
    let graph = c.in-Ok-graph.graph in
    let all = few_spelled (graph_of graph) (slots_of made.slots.items) in
    let same = ap length c.in-Ok-spell.ensures.spelled in
    let events = length-map c.in-Ok-spell.events.items (λ (e : trace.Event). event_of e.what) in
    omega (arith, all, same, events, ap length c.deref.ensures.value, length-map made.slots.items slot_of, c.in-Ok-schedule.ensures.counted, (c.in-Ok-graph.ensures.schedulable).few)
