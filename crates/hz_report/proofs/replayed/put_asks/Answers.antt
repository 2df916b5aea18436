use Rattle.std.proofs.Common.{ℕ, List, subst}
use Rattle.hz_pipeline_model.specs.Tables.Machines.{starts_of}
use Rattle.hz_io.specs.Pages.{Added, Stopped}
use Rattle.hz_io.proofs.Adding.{writes_all, none_stopped}
use Rattle.hz_report.specs.Replays.{asks_from}
use Rattle.hz_tables.specs.Machines.{machine_of}
use Rattle.hz_report.proofs.replayed.put_asks.Goals as goal

pub returns-in-Ok : goal.returns-in-Ok
returns-in-Ok g c =
    let m = machine_of c.args.machine.now in
    writes_all c.flush.new.out c.flush.result
    (subst (λ (held : List ℕ). Added g.S.Sink.written g.S.Sink.room g.S.Sink.faults c.args.out.now c.add_asks.new.out held c.add_asks.new.page.items (asks_from m (starts_of m) c.args.events.now)) c.new-page.ensures c.in-Ok.ensures)
    c.flush.ensures.written

pub returns-in-Err : goal.returns-in-Err
returns-in-Err g c =
    let m = machine_of c.args.machine.now in
    none_stopped (subst (λ (held : List ℕ). Stopped g.S.Sink.written g.S.Sink.room g.S.Sink.faults c.args.out.now c.add_asks.new.out held (asks_from m (starts_of m) c.args.events.now)) c.new-page.ensures c.in-Err.ensures)
