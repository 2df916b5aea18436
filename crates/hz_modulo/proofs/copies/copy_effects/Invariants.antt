use Rattle.std.proofs.Common.{◌≡◌, map, take}
use Rattle.hz_rtl.specs.Shape.{effect}
use Rattle.hz_modulo.proofs.copies.copy_effects.Given as goal

abbrev pub invariant-loop-each : goal.invariant-loop-each
invariant-loop-each l = map effect l.effects.items ≡ map effect (take l.each-index l.from)
