-- Of how many automata units are.
use Rattle.std.specs.Prelude.{Bool, true, false, ◌==◌, List, [], ◌∷◌, if◌then◌else◌}
use Rattle.hz_base_model.specs.Pairs.{Pair}
use Rattle.hz_description_model.specs.Reservations.Alternatives.{Alternative}
use Rattle.hz_description_model.specs.Reservations.Automata.{UnitPlace}
use Rattle.hz_check_reservations.specs.declared.rules.spread.Spread.{Spread}
use Rattle.hz_check_reservations.specs.declared.rules.spread.Spread.TheVariants.{Free, Within, Several}

-- whether units are of two automata
abbrev pub are_several : Spread → Bool
are_several Free = false
are_several (Within automaton) = false
are_several Several = true

-- of how many automata units of two lots are together
abbrev pub joined_spread : Spread → Spread → Spread
joined_spread Free other = other
joined_spread (Within a) Free = Within a
joined_spread (Within a) (Within b) = if a == b then Within a else Several
joined_spread (Within a) Several = Several
joined_spread Several other = Several

-- the units of pairs
abbrev pub spread_of_pairs : List (Pair UnitPlace) → Spread
spread_of_pairs [] = Free
spread_of_pairs (p ∷ pairs) = joined_spread (Within p.unit.automaton) (spread_of_pairs pairs)

-- the units of alternatives
abbrev pub spread_of : List (Alternative UnitPlace) → Spread
spread_of [] = Free
spread_of (a ∷ alternatives) = joined_spread (spread_of_pairs a.pairs) (spread_of alternatives)
