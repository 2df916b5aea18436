use Rattle.std.proofs.Common.{◌≡◌, map, take}
use Rattle.hz_altern.specs.Shapes.{alternatives}
use Rattle.hz_reasons.specs.Planning.{parts_in, in_parts}
use Rattle.hz_reasons.proofs.planning.choices.choices.Given as goal

abbrev pub invariant-loop-alt : goal.invariant-loop-alt
invariant-loop-alt l = map parts_in l.choices.items ≡ map (in_parts l.automata) (alternatives (take l.alt-index l.alts))
