use Rattle.std.proofs.Common.{take}
use Rattle.hz_pipeline_model.specs.Tables.Machines.{starts_of}
use Rattle.hz_io.specs.Pages.{Added}
use Rattle.hz_report.specs.PartsAfter.{AreAfter}
use Rattle.hz_report.specs.Replays.{asks_from}
use Rattle.hz_tables.specs.Machines.{machine_of}
use Rattle.hz_report.proofs.replayed.add_asks.Given as goal

-- the lines so far, and where the parts stand
abbrev pub invariant-loop-place : goal.invariant-loop-place
invariant-loop-place g l = record {
  added : Added g.S.Sink.written g.S.Sink.room g.S.Sink.faults l.fn.out l.out l.fn.page.items l.page.items (asks_from (machine_of l.machine) (starts_of (machine_of l.machine)) (take l.place l.events));
  beyond : AreAfter (machine_of l.machine) l.events l.place l.parts;
}
