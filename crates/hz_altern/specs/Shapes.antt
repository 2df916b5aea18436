-- The pairs and alternatives that the code holds, as those of the definitions.
use Rattle.std.specs.Prelude.{List, map}
use Rattle.hz_altern.specs.declared.alternative.Pair.{Pair as StoredPair}
use Rattle.hz_altern.specs.declared.alternative.Alt.{Alt}
use Rattle.hz_base_model.specs.Pairs.{Pair}
use Rattle.hz_description_model.specs.Reservations.Alternatives.{Alternative}
use Rattle.hz_description_model.specs.Reservations.Automata.{UnitPlace}

-- a pair
abbrev pub pair_of : StoredPair → Pair UnitPlace
pair_of p = record { unit = record { automaton = p.automaton; unit = p.unit }; cycle = p.cycle }

-- pairs
abbrev pub pairs_of : List StoredPair → List (Pair UnitPlace)
pairs_of pairs = map pair_of pairs

-- an alternative
abbrev pub alternative_of : Alt → Alternative UnitPlace
alternative_of alt = record { pairs = pairs_of alt.pairs.items; cycles = alt.length }

-- alternatives
abbrev pub alternatives : List Alt → List (Alternative UnitPlace)
alternatives alts = map alternative_of alts
