use Rattle.std.proofs.Common.{ℕ, List, sym, subst}
use Rattle.hz_pipeline_model.specs.Accepting.Asking.{IsOfQuery}
use Rattle.hz_pipeline_model.specs.Tables.MachineNames.{names_of_machine}
use Rattle.hz_pipeline_model.specs.Tables.Machines.{starts_of}
use Rattle.hz_io.specs.Pages.{Added, Stopped}
use Rattle.hz_io.proofs.Adding.{added_then, added_then_stopped, stopped_before}
use Rattle.hz_report.proofs.AfterLemmas.{later}
use Rattle.hz_report.proofs.ReplayLemmas.{asks_after, asks_more, asks_parts, event_at}
use Rattle.hz_report.specs.Replays.{no_event}
use Rattle.hz_tables.specs.Machines.{machine_of}
use Rattle.hz_report.proofs.replayed.add_asks.Goals as goal

pub add_event-requires-clause-asks : goal.add_event-requires-clause-asks
add_event-requires-clause-asks g c = event_at (IsOfQuery (names_of_machine (machine_of c.args.machine.now)).queries) c.args.events.now c.loop-place.place (c.loop-place-test.true) c.requires.asks

pub returns-in-Err : goal.returns-in-Err
returns-in-Err g c =
    let m = machine_of c.args.machine.now in
    let events = c.args.events.now in
    let i = c.loop-place.place in
    subst (λ (bytes : List ℕ). Stopped g.S.Sink.written g.S.Sink.room g.S.Sink.faults c.args.out.now c.add_event.new.out c.args.page.now.items bytes) (sym (asks_parts m (starts_of m) events i no_event (c.loop-place-test.true)))
    (stopped_before (asks_after m (starts_of m) events i) (added_then_stopped c.loop-place.invariant.added c.in-Err.ensures.added))

pub loop-place-preserved : goal.loop-place-preserved
loop-place-preserved g c =
    let m = machine_of c.args.machine.now in
    let events = c.args.events.now in
    let i = c.loop-place.place in
    record {
      added = subst (λ (bytes : List ℕ). Added g.S.Sink.written g.S.Sink.room g.S.Sink.faults c.args.out.now c.add_event.new.out c.args.page.now.items c.add_event.new.page.items bytes) (sym (asks_more m (starts_of m) events i no_event (c.loop-place-test.true))) (added_then c.loop-place.invariant.added c.in-Ok.ensures.added);
      beyond = later m events i c.add_event.new.parts c.add_event.ensures.beyond;
    }
