-- Which parts of an expression have one alternative, as the code holds it.
use Rattle.std.specs.Prelude.{◌≡◌, ℕ, true, ⊤, List, [], ◌∷◌, length, nat_eq}
use Rattle.hz_altern.specs.declared.listing.singles.Singles.{Singles, out-Singles}
use Rattle.hz_description_model.specs.Reservations.Alternatives.{Alternative, Expression, named, nothing, sequence, one_of, all_of, repeat, Parts, none, more, in_sequence, any_of, together}
use Rattle.hz_description_model.specs.Reservations.Automata.{UnitPlace}

-- there is one alternative exactly where that is reported
abbrev pub TellsOne : List (Alternative UnitPlace) → Singles → Type 0
TellsOne all singles = (out-Singles singles).single ≡ nat_eq (length all) 1

-- It is reported of the expression, and of each part in it. A repeat tells what its part tells.
abbrev mutual
  pub TellsSingles : (List ℕ → List (Alternative UnitPlace)) → Expression → Singles → Type 0
  TellsSingles known (named name) singles = TellsOne (known name) singles
  TellsSingles known nothing singles = (out-Singles singles).single ≡ true
  TellsSingles known (sequence parts) singles = TellsOne (in_sequence known parts) singles × TellSingles known parts (out-Singles singles).parts.items
  TellsSingles known (one_of parts) singles = TellsOne (any_of known parts) singles × TellSingles known parts (out-Singles singles).parts.items
  TellsSingles known (all_of parts) singles = TellsOne (together known parts) singles × TellSingles known parts (out-Singles singles).parts.items
  TellsSingles known (repeat part times) singles = TellsSingles known part singles

  -- the same of each of some parts, in their order
  pub TellSingles : (List ℕ → List (Alternative UnitPlace)) → Parts → List Singles → Type 0
  TellSingles known none [] = ⊤
  TellSingles known none (singles ∷ others) = ⊥
  TellSingles known (more part parts) [] = ⊥
  TellSingles known (more part parts) (singles ∷ others) = TellsSingles known part singles × TellSingles known parts others
