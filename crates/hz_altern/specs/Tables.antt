-- What is held for names.
use Rattle.std.specs.Prelude.{◌≡◌, ◌≢◌, ℕ, ◌<◌, Bool, List, [], Option, Some, is_some, unwrap_or, length}
use Rattle.std.specs.Option.{option_map}
use Rattle.std.specs.Ordering.{nat_cmp}
use Rattle.std.specs.Cmp.Lexicographic.{slice_cmp}
use Rattle.std.specs.BTreeMap.{get}
use Rattle.hz_altern.specs.declared.extents.Extents.{Extents}
use Rattle.hz_altern.specs.declared.known.Known.{Known}
use Rattle.hz_altern.specs.Shapes.{alternatives}
use Rattle.hz_altern.specs.Extents.{reported}
use Rattle.hz_description_model.specs.Reservations.Alternatives.{Alternative, Expression, Parts}
use Rattle.hz_description_model.specs.Reservations.AlternativeLists.{Extent, extent_of}
use Rattle.hz_description_model.specs.Reservations.Automata.{UnitPlace}
use Rattle.hz_description_model.specs.Reservations.Meanings.{Mentions, MentionsIn}

-- the extent that is held for a name
abbrev pub extent_in : Extents → List ℕ → Option Extent
extent_in extents name = option_map reported (get (slice_cmp nat_cmp) extents.names name)

-- the extent of the alternatives that are held for a name
abbrev pub known_extent : Known → List ℕ → Option Extent
known_extent known name = option_map (λ entry. reported entry.extent) (get (slice_cmp nat_cmp) known.names name)

-- the alternatives that are held for a name
abbrev pub alternatives_in : Known → List ℕ → Option (List (Alternative UnitPlace))
alternatives_in known name = option_map (λ entry. alternatives entry.alts.items) (get (slice_cmp nat_cmp) known.names name)

-- a name has something
abbrev pub is_held : {A : Type 0} → (List ℕ → Option A) → List ℕ → Bool
is_held table name = is_some (table name)

-- the alternatives of each name, and none of a name that is not known
abbrev pub known_alternatives : Known → List ℕ → List (Alternative UnitPlace)
known_alternatives known name = unwrap_or (alternatives_in known name) []

-- the name gets what is given, and all others keep what they have
pub record Adds {A : Type 0} (old new : List ℕ → Option A) (name : List ℕ) (given : A) : Type 0 where
  pub added : new name ≡ Some given
  pub others : (other : List ℕ) → other ≢ name → new other ≡ old other

-- each name keeps what it has
abbrev pub IsKept : {A : Type 0} → (old new : List ℕ → Option A) → Type 0
IsKept old new = (name : List ℕ) → new name ≡ old name

-- each name in the expression is held with the extent of its own alternatives, of which there are some
pub record AreRight (held : List ℕ → Option Extent) (known : List ℕ → List (Alternative UnitPlace)) (e : Expression) : Type 0 where
  pub each : (name : List ℕ) → Mentions e name → held name ≡ Some (extent_of (known name))
  pub some : (name : List ℕ) → Mentions e name → 0 < length (known name)

-- the same of the names in parts
pub record AreRightIn (held : List ℕ → Option Extent) (known : List ℕ → List (Alternative UnitPlace)) (parts : Parts) : Type 0 where
  pub each : (name : List ℕ) → MentionsIn parts name → held name ≡ Some (extent_of (known name))
  pub some : (name : List ℕ) → MentionsIn parts name → 0 < length (known name)
