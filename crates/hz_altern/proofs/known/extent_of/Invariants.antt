use Rattle.std.proofs.Common.{◌≡◌, take}
use Rattle.hz_altern.specs.Shapes.{alternatives}
use Rattle.hz_description_model.specs.Reservations.AlternativeLists.{greatest_length}
use Rattle.hz_altern.proofs.known.extent_of.Given as goal

-- the longest so far
abbrev pub invariant-loop-alt : goal.invariant-loop-alt
invariant-loop-alt l = l.longest ≡ greatest_length (alternatives (take l.alt-index l.alts))
