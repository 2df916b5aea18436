-- What the code holds, as the definitions have it.
use Rattle.std.specs.Prelude.{List, map}
use Rattle.std.specs.declared.alloc.Global.{Global}
use Rattle.std.specs.declared.vec.Vec.{Vec}
use Rattle.hz_altern.specs.declared.alternative.Alt.{Alt}
use Rattle.hz_altern.specs.Shapes.{alternatives}
use Rattle.hz_check_reservations.specs.declared.listing.unit_place.UnitPlace.{UnitPlace}
use Rattle.hz_check_reservations.specs.declared.listing.reserving.Reserving.{Reserving}
use Rattle.hz_description_model.specs.Reservations.Alternatives.{Alternative}
use Rattle.hz_description_model.specs.Reservations.Automata as automata
use Rattle.hz_description_model.specs.Check.CountingOrder as model
use Rattle.hz_regexp.specs.Shape.{expression}
use Rattle.hz_check_reservations.specs.Places.{site_of}

-- a reservation or class
abbrev pub reserving_of : Reserving → model.Reserving
reserving_of r = record { site = site_of r.site; expression = expression r.expr.now; is_class = r.is_class }

-- the place of a unit
abbrev pub place_of : UnitPlace → automata.UnitPlace
place_of p = record { automaton = p.automaton; unit = p.unit }

-- the alternatives of each of several lists
abbrev pub lists_of : List (Vec Alt Global) → List (List (Alternative automata.UnitPlace))
lists_of lists = map (λ list. alternatives list.items) lists
