use Rattle.std.proofs.Common.{ℕ, List, All, IsSome, length, take, sym, ap, ◌∙◌, subst}
use Rattle.hz_pipeline_model.specs.Accepting.Asking.{IsOfQuery}
use Rattle.hz_pipeline_model.specs.Accepting.Events.{IsOfClass}
use Rattle.hz_pipeline_model.specs.Tables.MachineNames.{names_of_machine}
use Rattle.hz_pipeline_model.specs.Tables.Machines.{machine_walk, starts_of}
use Rattle.hz_io.specs.Sink.{Cut, Wrote}
use Rattle.hz_io.proofs.Writing.{cut_before, writes_then}
use Rattle.hz_replay.specs.Traces.{events_in}
use Rattle.hz_replay.specs.declared.event.Event.{Event}
use Rattle.hz_report.proofs.AfterLemmas.{taken_walked, walked_to}
use Rattle.hz_report.proofs.ReplayLemmas.{all_taken, asks_first}
use Rattle.hz_report.specs.Replays.{asks_from, end_line, taken}
use Rattle.hz_tables.specs.Machines.{machine_of}
use Rattle.hz_report.proofs.replayed.write_replay.Goals as goal

pub put_asks-requires-clause-classes : goal.put_asks-requires-clause-classes
put_asks-requires-clause-classes g c =
    let is_class = IsOfClass (length c.args.machine.now.classes.items) in
    subst (λ (events : List Event). All is_class (events_in (take c.up_to_last_ask.result events))) (sym c.taken_of-before.ensures) (all_taken is_class c.args.events.now c.args.outcome.now c.up_to_last_ask.result c.requires.replay.classes)

pub put_asks-requires-clause-asks : goal.put_asks-requires-clause-asks
put_asks-requires-clause-asks g c =
    let is_query = IsOfQuery (names_of_machine (machine_of c.args.machine.now)).queries in
    subst (λ (events : List Event). All is_query (events_in (take c.up_to_last_ask.result events))) (sym c.taken_of-before.ensures) (all_taken is_query c.args.events.now c.args.outcome.now c.up_to_last_ask.result c.requires.replay.asks)

pub returns-in-Ok : goal.returns-in-Ok
returns-in-Ok g c =
    let m = machine_of c.args.machine.now in
    let whole = asks_first m (starts_of m) c.taken_of-before.result.now c.up_to_last_ask.result c.up_to_last_ask.ensures.none ∙ ap (asks_from m (starts_of m)) c.taken_of-before.ensures in
    writes_then c.put_end.new.out (end_line c.args.machine.now.classes.items c.args.events.now c.args.outcome.now) c.put_end.result
    (subst (λ (bytes : List ℕ). Wrote g.S.Sink.written g.S.Sink.room g.S.Sink.faults c.args.out.now c.put_asks.new.out bytes) whole c.in-Ok.ensures)
    c.put_end.ensures

pub returns-in-Err : goal.returns-in-Err
returns-in-Err g c =
    let m = machine_of c.args.machine.now in
    let whole = asks_first m (starts_of m) c.taken_of-before.result.now c.up_to_last_ask.result c.up_to_last_ask.ensures.none ∙ ap (asks_from m (starts_of m)) c.taken_of-before.ensures in
    cut_before (end_line c.args.machine.now.classes.items c.args.events.now c.args.outcome.now)
    (subst (λ (bytes : List ℕ). Cut g.S.Sink.written g.S.Sink.room g.S.Sink.faults c.args.out.now c.put_asks.new.out bytes) whole c.in-Err.ensures)

pub put_asks-requires-clause-walked : goal.put_asks-requires-clause-walked
put_asks-requires-clause-walked g c =
    let m = machine_of c.args.machine.now in
    let n = c.up_to_last_ask.result in
    subst (λ (events : List Event). IsSome (machine_walk m (events_in (take n events)))) (sym c.taken_of-before.ensures)
    (walked_to m (taken c.args.outcome.now c.args.events.now) (taken_walked m c.args.events.now c.args.outcome.now c.requires.replay.replayed) n)
