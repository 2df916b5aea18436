-- What the table of numbers holds after some bypasses.
use Rattle.std.specs.Prelude.{◌≡◌, ℕ, List, Option, Some}
use Rattle.std.specs.List.{list_any}
use Rattle.hz_description_model.specs.Check.CheckFaults.{differs}
use Rattle.hz_description_model.specs.Reading.Descriptions.{Description, BypassItem}
use Rattle.hz_base_model.specs.Lines.{place_of}
use Rattle.hz_description_model.specs.Check.Places.{class_names}
use Rattle.hz_checked.specs.NumberRows.{number_at, is_other}

-- the table has the numbers that these bypasses give, of which none gives a pair another number than an earlier one
pub record HoldsNumbers (d : Description) (rows : List (List (Option ℕ))) (before : List BypassItem) : Type 0 where
  pub at : (number o i : ℕ) (out «in» : List ℕ) → place_of out (class_names d) ≡ Some o → place_of «in» (class_names d) ≡ Some i
      → list_any (differs number out «in») before ≡ is_other (number_at rows o i) number
