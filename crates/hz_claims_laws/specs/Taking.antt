-- In which cycles a unit is taken, and which units have a load: this profile, docs/RULES.md, 'Lower bounds'. Laws of `taking_laws`.
use Rattle.std.specs.Prelude.{◌≡◌, ◌↔◌, ℕ, ◌<◌, List, [], ◌∷◌, length, Some, slice_index_or}
use Rattle.std.specs.List.{Contains, AllPairs}
use Rattle.hz_base_model.specs.Pairs.{Pair}
use Rattle.hz_description_model.specs.Reservations.Alternatives.{Alternative}
use Rattle.hz_description_model.specs.Reservations.Automata.{UnitPlace}
use Rattle.hz_measure_model.specs.Bounds.Bounds.{UnitLoad}
use Rattle.hz_measure_model.specs.Bounds.Loads.{load_of}

-- The cycles are those in which the pairs take the unit, ascending and each once.
pub record AreTaken {U : Type 0} (u : U) (pairs : List (Pair U)) (cycles : List ℕ) : Type 0 where
  pub there : (c : ℕ) → Contains cycles c ↔ Contains pairs (record { unit = u; cycle = c })
  pub ascend : AllPairs (λ c e. c < e) cycles

-- the same of each alternative, in their order
pub data AreTakenInEach (u : UnitPlace) : List (Alternative UnitPlace) → List (List ℕ) → Type 0 where
  no_alternative : AreTakenInEach u [] []
  one_more : (a : Alternative UnitPlace) (cycles : List ℕ) (alternatives : List (Alternative UnitPlace)) (ways : List (List ℕ)) → AreTaken u a.pairs cycles → AreTakenInEach u alternatives ways
      → AreTakenInEach u (a ∷ alternatives) (cycles ∷ ways)

-- A unit that has a name has this load. These are the names of the units of each automaton.
pub record IsLoadOf (taken : UnitPlace → ℕ → List (List ℕ)) (names : List (List (List ℕ))) (classes : List ℕ) (l : UnitLoad) : Type 0 where
  pub automaton : (l.unit).automaton < length names
  pub unit : (l.unit).unit < length (slice_index_or names (l.unit).automaton [])
  pub load : load_of (taken l.unit) classes ≡ Some l.load
