use Rattle.std.proofs.Common.{◌≡◌, ◌+◌, ◌*◌, ◌≤◌, ◌∷◌, [], length, Some}
use Rattle.hz_pipeline_model.specs.Accepting.Events.{advance}
use Rattle.hz_pipeline_model.specs.Tables.Machines.{parts_walk}
use Rattle.hz_replay.proofs.replaying.advance_by.Given as goal

abbrev pub invariant-loop-cycle : goal.invariant-loop-cycle
invariant-loop-cycle g l = record {
  machine : l.replayer.machine ≡ l.fn.replayer.machine;
  walked : parts_walk l.fn.replayer.machine.parts l.fn.replayer.states (advance l._cycle ∷ []) ≡ Some l.replayer.states;
  cost : l.steps ≤ l.fn.steps + 4 * length l.fn.replayer.machine.parts * l._cycle;
}
