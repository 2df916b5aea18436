-- The numbers that bypasses give to pairs of classes.
use Rattle.std.specs.Prelude.{ℕ, ◌==◌, Bool, false, not, List, [], map, Option, Some, None, slice_index_or}
use Rattle.std.specs.List.{list_any}
use Rattle.std.specs.declared.alloc.Global.{Global}
use Rattle.std.specs.declared.vec.Vec.{Vec}

-- the number that a row has for a consuming class
abbrev pub given_in : List (Option ℕ) → ℕ → Option ℕ
given_in row «in» = slice_index_or row «in» None

-- rows of a table
abbrev pub rows_of : List (Vec (Option ℕ) Global) → List (List (Option ℕ))
rows_of rows = map (λ row. row.items) rows

-- the number that is given to a pair
abbrev pub number_at : List (List (Option ℕ)) → ℕ → ℕ → Option ℕ
number_at rows out «in» = given_in (slice_index_or rows out []) «in»

-- another number is given
abbrev pub is_other : Option ℕ → ℕ → Bool
is_other None number = false
is_other (Some given) number = not (given == number)

-- some of these classes is given another number in the row
abbrev pub has_other : List (Option ℕ) → List ℕ → ℕ → Bool
has_other row ins number = list_any (λ «in». is_other (given_in row «in») number) ins
