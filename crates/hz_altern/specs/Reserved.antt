-- The units that names take, from the cycles on in which they begin.
use Rattle.std.specs.Prelude.{◌≡◌, ◌↔◌, ◌⊎◌, ◌<◌, ℕ, List, All}
use Rattle.std.specs.List.{Contains}
use Rattle.hz_altern.specs.declared.listing.reserving.Reserved.{Reserved}
use Rattle.hz_description_model.specs.Reservations.Automata.{UnitPlace}
use Rattle.hz_base_model.specs.Limits.{automaton_limit, cycle_limit, unit_limit}
use Rattle.hz_base_model.specs.Pairs.{Pair, later}
use Rattle.hz_grid.specs.Sets.{HasCycle}
use Rattle.hz_grid.specs.Tables.{IsTaken}
use Rattle.hz_grid.specs.declared.cycles.Cycles.{Cycles}

-- the pair's unit is taken in its cycle
abbrev pub IsReserved : Reserved → Pair UnitPlace → Type 0
IsReserved reserved p = IsTaken reserved.table p.unit.automaton p.unit.unit p.cycle

-- each unit that is taken in some cycle is among the units, which are some that automata can have
pub record AreUnits (reserved : Reserved) : Type 0 where
  pub complete : (p : Pair UnitPlace) → IsReserved reserved p → Contains reserved.units.items (p.unit.automaton, p.unit.unit)
  pub bounded : All (λ u. (u.0 < automaton_limit) × (u.1 < unit_limit)) reserved.units.items

-- the pair is one of these, from one of the cycles on, and has not gone past the last cycle
pub record IsOfPairs (pairs : List (Pair UnitPlace)) (starts : Cycles) (p : Pair UnitPlace) : Type 0 where
  pub inside : p.cycle < cycle_limit
  pub first : Pair UnitPlace
  pub among : Contains pairs first
  pub start : ℕ
  pub begins : HasCycle starts start
  pub is : later start first ≡ p

-- Further pairs are reserved, and the units stay complete.
pub record ReservesToo (Further : Pair UnitPlace → Type 0) (old new : Reserved) : Type 0 where
  pub pairs : (p : Pair UnitPlace) → IsReserved new p ↔ (IsReserved old p ⊎ Further p)
  pub units : AreUnits old → AreUnits new

-- the pair is of the unit, in one of the cycles below the length
pub record IsOfUnit (automaton unit : ℕ) (cycles : Cycles) (length : ℕ) (p : Pair UnitPlace) : Type 0 where
  pub automaton_is : p.unit.automaton ≡ automaton
  pub unit_is : p.unit.unit ≡ unit
  pub has : HasCycle cycles p.cycle
  pub within : p.cycle < length

-- the pair is of one of the units, reserved, in a cycle below the length
pub record IsOfUnits (held : Reserved) (units : List (ℕ × ℕ)) (length : ℕ) (p : Pair UnitPlace) : Type 0 where
  pub among : Contains units (p.unit.automaton, p.unit.unit)
  pub taken : IsReserved held p
  pub within : p.cycle < length
