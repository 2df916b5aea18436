use Rattle.std.proofs.Common.{◌≡◌, ◌+◌, ◌*◌, ◌≤◌, length, Some, take}
use Rattle.hz_pipeline_model.specs.Accepting.Events.{issues_of, cycles_of}
use Rattle.hz_tables.specs.Machines.{machine_of}
use Rattle.hz_pipeline_model.specs.Tables.Machines.{machine_walk}
use Rattle.hz_replay.specs.Traces.{events_in}
use Rattle.hz_replay.proofs.replaying.replay.Given as goal

abbrev pub invariant-loop-place : goal.invariant-loop-place
invariant-loop-place g l = record {
  machine : l.replayer.machine ≡ machine_of l.machine;
  walked : machine_walk (machine_of l.machine) (events_in (take l.place l.events)) ≡ Some l.replayer.states;
  issues : l.issues ≡ issues_of (events_in (take l.place l.events));
  cycles : l.cycles ≡ cycles_of (events_in (take l.place l.events));
  few : l.issues ≤ l.place;
  cost : l.steps ≤ l.fn.steps + 4 * length l.machine.parts.items * (l.issues + l.cycles);
}
