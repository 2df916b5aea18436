-- Parts that begin in the same cycle, of which those with one alternative are joined as one and the others one by one.
use Rattle.std.specs.Prelude.{◌≡◌, ℕ, ◌<◌, ◌≤◌, List, ◌∷◌, All, length, map}
use Rattle.hz_base_model.specs.Limits.{cycle_limit}
use Rattle.hz_base_model.specs.Pairs.{Pair}
use Rattle.hz_altern.specs.declared.known.Known.{Known}
use Rattle.hz_altern.specs.declared.listing.joining.Joining.TheVariants.{Together}
use Rattle.hz_altern.specs.declared.listing.leaves.Leaves.{Leaves}
use Rattle.hz_altern.specs.Joinings.{IsListed, joined_by, only_listed}
use Rattle.hz_altern.specs.Leaves.{AreTaken, AllEndBy}
use Rattle.hz_altern.specs.Tables.{known_alternatives}
use Rattle.hz_description_model.specs.Reservations.Alternatives.{Alternative, Expression, nothing, each_choice, together, parts_of}
use Rattle.hz_description_model.specs.Reservations.AlternativeLists.{IsPlaced, greatest_length}
use Rattle.hz_description_model.specs.Reservations.Automata.{UnitPlace, listed}

-- Parts after `nothing`, which changes no alternative: those with one are taken apart into leaves, the others listed.
pub record IsBeside (known : Known) (es : List Expression) (leaves : Leaves) (cycles : ℕ) (others : List (Alternative UnitPlace)) : Type 0 where
  pub ends : AllEndBy known cycle_limit leaves
  pub pairs : List (Pair UnitPlace)
  pub taken : AreTaken known leaves pairs
  pub is_placed : IsPlaced (record { pairs = pairs; cycles = cycles })
  pub short : cycles ≤ cycle_limit
  pub are_listed : All IsListed others
  pub some : 0 < length others
  pub short_others : greatest_length others ≤ cycle_limit
  pub same : map listed (together (known_alternatives known) (parts_of (nothing ∷ es))) ≡ each_choice (joined_by Together) (only_listed pairs cycles) others
