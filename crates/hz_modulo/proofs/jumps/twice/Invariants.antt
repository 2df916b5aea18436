use Rattle.std.proofs.Common.{◌≡◌, map, take}
use Rattle.std.specs.Prelude.{slice_index}
use Rattle.hz_modulo.proofs.jumps.twice.Given as goal

abbrev pub invariant-loop-next : goal.invariant-loop-next
invariant-loop-next l = l.more.items ≡ map (slice_index l.level) (take l.next-index l.level)
