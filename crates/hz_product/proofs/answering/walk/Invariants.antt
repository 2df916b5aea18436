use Rattle.std.proofs.Common.{◌≡◌, length, map, drop, replicate, Some}
use Rattle.hz_product.specs.Along.{along}
use Rattle.hz_product.specs.Held.{component_of}
use Rattle.hz_product.proofs.answering.walk.Given as goal

abbrev pub invariant-loop-symbol : goal.invariant-loop-symbol
invariant-loop-symbol l = along (map component_of l.components) (Some (replicate (length l.components) 0)) l.word ≡ along (map component_of l.components) (Some l.states) (drop l.symbol-index l.word)
