-- What tables hold for the names that came before.
use Rattle.std.specs.Prelude.{◌≡◌, ◌⊎◌, ℕ, ◌<◌, List, map, length, Option, Some, None, slice_get, IsTrue}
use Rattle.std.specs.List.{Contains}
use Rattle.hz_altern.specs.Tables.{is_held}
use Rattle.hz_description_model.specs.Reservations.Alternatives.{Alternative}
use Rattle.hz_description_model.specs.Reservations.AlternativeLists.{Extent, extent_of}
use Rattle.hz_description_model.specs.Reservations.Automata.{UnitPlace, listed}
use Rattle.hz_description_model.specs.Reading.Descriptions.{Description}
use Rattle.hz_description_model.specs.Check.Places.{IsKnown, Known}

-- the names of the units, and those of the reservations
abbrev pub unit_names : Description → List (List ℕ)
unit_names d = map (λ u. u.name) d.units

abbrev pub reservation_names : Description → List (List ℕ)
reservation_names d = map (λ r. r.name) d.reservations

-- the name is that of a unit, or of a reservation of one of these numbers
abbrev pub IsAfter : Description → List ℕ → List ℕ → Type 0
IsAfter d numbers name = Contains (unit_names d) name ⊎ ((number : ℕ) × Contains numbers number × (slice_get (reservation_names d) number ≡ Some name))

-- A table has for each of these names what is right, and nothing for other names.
pub record Holds {A : Type 0} (IsRight : List ℕ → A → Type 0) (IsName : List ℕ → Type 0) (table : List ℕ → Option A) : Type 0 where
  pub right : (name : List ℕ) (x : A) → table name ≡ Some x → IsRight name x
  pub held : (name : List ℕ) → IsName name → IsTrue (is_held table name)
  pub only : (name : List ℕ) → (IsName name → ⊥) → table name ≡ None

-- the extent of a name's alternatives, of which there are some
pub record HasExtent (d : Description) (name : List ℕ) (extent : Extent) : Type 0 where
  pub is : (known : Known) → IsKnown d known → extent ≡ extent_of (known name)
  pub some : (known : Known) → IsKnown d known → 0 < length (known name)

-- the alternatives of a name, each listed the one way
pub record HasAlternatives (d : Description) (name : List ℕ) (alternatives : List (Alternative UnitPlace)) : Type 0 where
  pub are : (known : Known) → IsKnown d known → alternatives ≡ map listed (known name)
