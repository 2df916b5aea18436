use Rattle.std.proofs.Common.{◌↔◌, Contains, take}
use Rattle.hz_altern.specs.Reserved.{IsOfUnits}
use Rattle.hz_altern.specs.Shapes.{pairs_of}
use Rattle.hz_description_model.specs.Reservations.Automata.{UnitPlace}
use Rattle.hz_base_model.specs.Pairs.{Pair}
use Rattle.hz_altern.proofs.listing.reserving.listed.Given as goal

-- the pairs of the units so far
abbrev pub invariant-loop-automaton : goal.invariant-loop-automaton
invariant-loop-automaton l = (p : Pair UnitPlace) → Contains (pairs_of l.pairs.items) p ↔ IsOfUnits l.reserved (take l.automaton-index l.reserved.units.items) l.length p
