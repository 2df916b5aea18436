use Rattle.std.proofs.Common.{◌≡◌}
use Rattle.hz_tables.specs.Machines.{machine_of}
use Rattle.hz_layer_rows.proofs.schedules.walking.write_walk.Given as goal

-- the replayer is on the machine
abbrev pub invariant-loop-word : goal.invariant-loop-word
invariant-loop-word g l = l.replayer.machine ≡ machine_of l.machine
