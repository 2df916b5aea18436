use Rattle.std.proofs.Common.{◌≡◌, ◌+◌, ◌*◌, ◌≤◌, length, Some, vec_len}
use Rattle.std.specs.Prelude.{vec_capacity}
use Rattle.std.specs.List.{range_with_len}
use Rattle.hz_pipeline_model.specs.Traces.Drills.{number_after, Drawn}
use Rattle.hz_pipeline_model.specs.Tables.Machines.{parts_walk}
use Rattle.hz_replay.specs.Drilling.{WalksFrom}
use Rattle.hz_replay.specs.Traces.{events_in, lines_in}
use Rattle.hz_replay.proofs.drilling.drill_from.Given as goal

-- the turns so far are drawn, and the replayer comes after them
abbrev pub invariant-loop-turn : goal.invariant-loop-turn
invariant-loop-turn g l = record {
  machine : l.replayer.machine ≡ l.fn.replayer.machine;
  number : l.present ≡ number_after l.number l.turn;
  drawn : Drawn (WalksFrom l.fn.replayer) l.classes l.number l.turn (events_in l.events.items);
  walked : parts_walk l.fn.replayer.machine.parts l.fn.replayer.states (events_in l.events.items) ≡ Some l.replayer.states;
  lines : lines_in l.events.items ≡ range_with_len 1 l.turn;
  many : vec_len l.events ≡ l.turn;
  room : l.turns ≤ vec_capacity l.events;
  cost : l.steps ≤ l.fn.steps + 8 * length l.fn.replayer.machine.parts * l.turn;
}
