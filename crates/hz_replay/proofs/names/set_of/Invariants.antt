use Rattle.std.proofs.Common.{◌≡◌, take}
use Rattle.hz_replay.specs.Names.{names_in}
use Rattle.hz_replay.proofs.names.set_of.Given as goal

abbrev pub invariant-loop-name : goal.invariant-loop-name
invariant-loop-name l = names_in l.set.keys ≡ take l.name-index l.names
