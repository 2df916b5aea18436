-- What stands between parts, and what it makes of their alternatives.
use Rattle.std.specs.Prelude.{ℕ, ◌-◌, List, [], ◌∷◌, ◌++◌, map}
use Rattle.hz_description_model.specs.Reservations.AlternativeLists.{IsPlaced, IsAscending}
use Rattle.hz_base_model.specs.Pairs.{Pair}
use Rattle.hz_altern.specs.declared.listing.joining.Joining.{Joining}
use Rattle.hz_altern.specs.declared.listing.joining.Joining.TheVariants.{InSequence, Together}
use Rattle.hz_altern.specs.declared.mark.Mark.{Mark}
use Rattle.hz_altern.specs.declared.mark.Mark.TheVariants.{Comma, Bar, Plus}
use Rattle.hz_description_model.specs.Reservations.Alternatives.{Alternative, Parts, followed_by, beside, each_choice, in_sequence, any_of, together}
use Rattle.hz_description_model.specs.Reservations.Automata.{UnitPlace, listed}

-- two alternatives as one, listed the one way where they are
abbrev pub joined_by : Joining → Alternative UnitPlace → Alternative UnitPlace → Alternative UnitPlace
joined_by InSequence a b = followed_by a b
joined_by Together a b = listed (beside a b)

-- an alternative that a description can have, listed the one way
pub record IsListed (a : Alternative UnitPlace) : Type 0 where
  pub placed : IsPlaced a
  pub ascending : IsAscending a.pairs

-- the alternatives of parts with this mark between them
abbrev pub joined_parts : Mark → (List ℕ → List (Alternative UnitPlace)) → Parts → List (Alternative UnitPlace)
joined_parts Comma known parts = in_sequence known parts
joined_parts Bar known parts = any_of known parts
joined_parts Plus known parts = together known parts

-- the same of lists of listed alternatives
abbrev pub listed_lists : Mark → List (Alternative UnitPlace) → List (Alternative UnitPlace) → List (Alternative UnitPlace)
listed_lists Comma xs ys = each_choice (joined_by InSequence) xs ys
listed_lists Bar xs ys = xs ++ ys
listed_lists Plus xs ys = each_choice (joined_by Together) xs ys

-- the choices of listed alternatives and of what is listed of others, from the same cycle on
abbrev pub listed_beside : List (Alternative UnitPlace) → List (Alternative UnitPlace) → List (Alternative UnitPlace)
listed_beside xs ys = each_choice (joined_by Together) xs (map listed ys)

-- one alternative of these pairs that runs for so many cycles, listed
abbrev pub only_listed : List (Pair UnitPlace) → ℕ → List (Alternative UnitPlace)
only_listed pairs cycles = listed (record { pairs = pairs; cycles = cycles }) ∷ []

-- how large a second list may be after a first one of this size, where with this mark between them they may be so large
abbrev pub left_after : Mark → ℕ → ℕ → ℕ
left_after Comma size most = most
left_after Bar size most = most - size
left_after Plus size most = most
