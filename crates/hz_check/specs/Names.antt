-- What is held for the names of a description.
pub mod Held
pub mod First
pub mod Homes
use Rattle.std.specs.Prelude.{◌≡◌, ℕ, Bool, List, Option}
use Rattle.std.specs.Option.{option_map}
use Rattle.hz_check.specs.declared.names.by_name.ByName.{ByName}
use Rattle.hz_check.specs.Names.Held.{held, is_held}
use Rattle.hz_base_model.specs.Lines.{place_of}
use Rattle.hz_description_model.specs.Check.Sites.{is_among}

-- the first place of each name in the list is held
abbrev pub HoldsPlaces : ByName ℕ → List (List ℕ) → Type 0
HoldsPlaces table names = (name : List ℕ) → held table name ≡ place_of name names

-- the names of the list are held, and no others
abbrev pub IsJust : ByName (Unit {0}) → List (List ℕ) → Type 0
IsJust table names = (name : List ℕ) → is_held table name ≡ is_among name names

-- the test by a table
abbrev pub test_by : Option (ByName (Unit {0})) → Option (List ℕ → Bool)
test_by table = option_map is_held table

-- the test by a list
abbrev pub test_of : Option (List (List ℕ)) → Option (List ℕ → Bool)
test_of names = option_map (λ names name. is_among name names) names
