use Rattle.std.proofs.Common.{◌↔◌, take}
use Rattle.hz_altern.specs.Leaves.{TakesIn}
use Rattle.hz_altern.specs.Reserved.{IsReserved, AreUnits}
use Rattle.hz_description_model.specs.Reservations.Automata.{UnitPlace}
use Rattle.hz_base_model.specs.Pairs.{Pair}
use Rattle.hz_altern.proofs.listing.reserving.reserve_all.Given as goal

-- the names so far are reserved
abbrev pub invariant-loop-place : goal.invariant-loop-place
invariant-loop-place l = record {
  same : (p : Pair UnitPlace) → IsReserved l.reserved p ↔ TakesIn l.known (take l.place l.leaves.names.entries) p;
  units : AreUnits l.reserved;
}
