-- Lists by numbers.
use Rattle.std.specs.Prelude.{ℕ, List, [], map, slice_index_or}
use Rattle.std.specs.declared.alloc.Global.{Global}
use Rattle.std.specs.declared.vec.Vec.{Vec}

-- the lists that the code holds
abbrev pub lists_of : List (Vec ℕ Global) → List (List ℕ)
lists_of lists = map (λ list. list.items) lists

-- the list of a number, empty where there is none
abbrev pub list_at : List (List ℕ) → ℕ → List ℕ
list_at lists number = slice_index_or lists number []
