use Rattle.std.proofs.Common.{◌≡◌, take}
use Rattle.hz_modulo.proofs.copies.copy_attributes.Given as goal

abbrev pub invariant-loop-name : goal.invariant-loop-name
invariant-loop-name l = l.attributes.items ≡ take l.name-index l.from
