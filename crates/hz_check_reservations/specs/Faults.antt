-- What is reported of a description that has no counting order.
use Rattle.std.specs.Prelude.{⊤, slice_get, IsSomeAnd}
use Rattle.hz_description_model.specs.Check.CheckFaults.{IsCircular, IsFirst}
use Rattle.hz_description_model.specs.Reading.Descriptions.{Description}
use Rattle.hz_check_reservations.specs.declared.ordering.fault.OrderFault.{OrderFault}
use Rattle.hz_check_reservations.specs.declared.ordering.fault.OrderFault.TheVariants.{Circular, NoMemory}

-- the reservation of the place is the first one that reaches itself; want of memory says nothing
abbrev pub TellsCircle : Description → OrderFault → Type 0
TellsCircle d (Circular place) = IsSomeAnd (slice_get d.reservations place) (IsFirst (IsCircular d) d.reservations)
TellsCircle d NoMemory = ⊤
