use Rattle.std.proofs.Common.{◌≡◌, ◌+◌, ◌*◌, ◌≤◌, length}
use Rattle.hz_tables.specs.Machines.{machine_of}
use Rattle.hz_replay.proofs.WalkLemmas.{SoFar}
use Rattle.hz_replay.proofs.replayer.walk.Given as goal

-- the states so far
abbrev pub invariant-loop-part : goal.invariant-loop-part
invariant-loop-part g l = record {
  walked : SoFar (machine_of l.machine).parts l.fn.states l.class l.part l.states l.before;
  room : length l.before ≡ 16;
  cost : l.steps ≤ l.fn.steps + 4 * l.part;
}
