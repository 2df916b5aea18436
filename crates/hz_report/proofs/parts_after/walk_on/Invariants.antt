use Rattle.std.proofs.Common.{◌≡◌, ◌<◌, Some, length, take}
use Rattle.hz_pipeline_model.specs.Tables.Machines.{part_at, part_walk}
use Rattle.hz_replay.specs.Traces.{events_in}
use Rattle.hz_tables.specs.Machines.{machine_of}
use Rattle.hz_report.proofs.parts_after.walk_on.Given as goal

abbrev pub invariant-loop-event : goal.invariant-loop-event
invariant-loop-event g l = record {
  walked : part_walk (part_at (machine_of l.machine) l.part) l.from (events_in (take l.event-index l.events)) ≡ Some l.state;
  within : l.state < length (part_at (machine_of l.machine) l.part).rows;
}
