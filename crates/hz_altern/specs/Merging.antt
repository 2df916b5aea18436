-- Two ascending lists of pairs, merged pair by pair.
use Rattle.std.specs.Prelude.{◌≡◌, ◌+◌, ◌<◌, List, ◌∷◌, ◌++◌, length}
use Rattle.hz_base_model.specs.Pairs.{Pair}
use Rattle.hz_description_model.specs.Reservations.Automata.{UnitPlace, ascending}
use Rattle.hz_description_model.specs.Reservations.AlternativeLists.{IsAscending}

-- the least pair of two lists that ascend, and what is left of both after it
pub record IsLeast (first second : List (Pair UnitPlace)) (least : Pair UnitPlace) (firsts seconds : List (Pair UnitPlace)) : Type 0 where
  pub least_first : ascending (first ++ second) ≡ least ∷ ascending (firsts ++ seconds)
  pub firsts_ascend : IsAscending firsts
  pub seconds_ascend : IsAscending seconds
  pub fewer : length firsts + length seconds < length first + length second
