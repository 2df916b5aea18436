-- Names with one alternative, each from some cycles on: what parts that begin in the same cycle are taken apart into.
use Rattle.std.specs.Prelude.{◌≡◌, ◌↔◌, ◌⊎◌, ℕ, ◌+◌, ◌*◌, ◌<◌, ◌≤◌, List, [], ◌∷◌, Option, None, Some, length}
use Rattle.std.specs.List.{Contains, flat_map}
use Rattle.hz_grid.specs.Sets.{HasCycle}
use Rattle.hz_grid.specs.declared.cycles.Cycles.{Cycles}
use Rattle.hz_altern.specs.declared.known.Known.{Known}
use Rattle.hz_altern.specs.declared.listing.leaves.Leaves.{Leaves}
use Rattle.hz_altern.specs.Tables.{known_alternatives}
use Rattle.hz_description_model.specs.Reservations.Alternatives.{Alternative}
use Rattle.hz_description_model.specs.Reservations.AlternativeLists.{greatest_length}
use Rattle.hz_description_model.specs.Reservations.Automata.{UnitPlace}
use Rattle.hz_base_model.specs.Limits.{cycle_limit}
use Rattle.hz_base_model.specs.Pairs.{Pair, placed}

-- the name is among the entries, with the cycle
abbrev pub BeginsIn : List (List ℕ × Cycles) → List ℕ → ℕ → Type 0
BeginsIn [] name cycle = ⊥
BeginsIn (entry ∷ entries) name cycle = ((entry.0 ≡ name) × HasCycle entry.1 cycle) ⊎ BeginsIn entries name cycle

-- the name begins in the cycle
abbrev pub Begins : Leaves → List ℕ → ℕ → Type 0
Begins leaves name cycle = BeginsIn leaves.names.entries name cycle

-- the cycle is in the set, where there is one
abbrev pub HasIn : Option Cycles → ℕ → Type 0
HasIn None cycle = ⊥
HasIn (Some cycles) cycle = HasCycle cycles cycle

-- the pairs of alternatives, one after the other
abbrev pub all_pairs : List (Alternative UnitPlace) → List (Pair UnitPlace)
all_pairs alternatives = flat_map (λ a. a.pairs) alternatives

-- the pair is one of what some name stands for, from a cycle on in which the name begins
pub record TakesIn (known : Known) (entries : List (List ℕ × Cycles)) (p : Pair UnitPlace) : Type 0 where
  pub name : List ℕ
  pub start : ℕ
  pub begins : BeginsIn entries name start
  pub taken : Contains (placed start (all_pairs (known_alternatives known name))) p

-- the same of leaves
abbrev pub Takes : Known → Leaves → Pair UnitPlace → Type 0
Takes known leaves p = TakesIn known leaves.names.entries p

-- these are the pairs that leaves take
abbrev pub AreTaken : Known → Leaves → List (Pair UnitPlace) → Type 0
AreTaken known leaves pairs = (p : Pair UnitPlace) → Contains pairs p ↔ Takes known leaves p

-- the name has one alternative, and from the cycle on that ends in time
pub record EndsBy (known : Known) (most : ℕ) (name : List ℕ) (start : ℕ) : Type 0 where
  pub one : length (known_alternatives known name) ≡ 1
  pub ends : start + greatest_length (known_alternatives known name) ≤ most

-- so does each name from each cycle on in which it begins
abbrev pub AllEndBy : Known → ℕ → Leaves → Type 0
AllEndBy known most leaves = (name : List ℕ) (start : ℕ) → Begins leaves name start → EndsBy known most name start

-- a name begins in further cycles
abbrev pub BeginsToo : (old new : Leaves) → List ℕ → Cycles → Type 0
BeginsToo old new name cycles = (other : List ℕ) (cycle : ℕ) → Begins new other cycle ↔ (Begins old other cycle ⊎ ((name ≡ other) × HasCycle cycles cycle))

-- The name begins in the cycle in one of so many copies of leaves, each so many cycles after the one before and the first
-- from some cycle on.
pub record BeginsInCopy (once : List (List ℕ × Cycles)) (times apart start : ℕ) (name : List ℕ) (cycle : ℕ) : Type 0 where
  pub inside : cycle < cycle_limit
  pub copy : ℕ
  pub within : copy < times
  pub earlier : ℕ
  pub begins : BeginsIn once name earlier
  pub later : cycle ≡ start + (copy * apart + earlier)

-- such copies are added
abbrev pub AddsCopies : List (List ℕ × Cycles) → (times apart start : ℕ) → (old new : Leaves) → Type 0
AddsCopies once times apart start old new = (name : List ℕ) (cycle : ℕ) → Begins new name cycle ↔ (Begins old name cycle ⊎ BeginsInCopy once times apart start name cycle)

-- Leaves that are gathered beside others, for alternatives that begin in some cycle: they add the same set of pairs, and
-- end where these end.
pub record IsGathered (known : Known) (start : ℕ) (these : List (Alternative UnitPlace)) (old new : Leaves) : Type 0 where
  pub pairs : (p : Pair UnitPlace) → Takes known new p ↔ (Takes known old p ⊎ Contains (placed start (all_pairs these)) p)
  pub ends : (most : ℕ) → start + greatest_length these ≤ most → AllEndBy known most old → AllEndBy known most new
