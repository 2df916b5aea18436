use Rattle.std.proofs.Common.{◌↔◌, ◌⊎◌, Contains}
use Rattle.hz_altern.specs.Reserved.{IsOfUnit}
use Rattle.hz_altern.specs.Shapes.{pairs_of}
use Rattle.hz_description_model.specs.Reservations.Automata.{UnitPlace}
use Rattle.hz_base_model.specs.Pairs.{Pair}
use Rattle.hz_altern.proofs.listing.reserving.push_unit.Given as goal

-- the unit's pairs in the cycles so far are added
abbrev pub invariant-loop-cycle : goal.invariant-loop-cycle
invariant-loop-cycle l = (p : Pair UnitPlace) → Contains (pairs_of l.pairs.items) p ↔ (Contains (pairs_of l.initial.pairs.items) p ⊎ IsOfUnit l.automaton l.unit l.cycles l.cycle p)
