-- Lists by places.
use Rattle.std.specs.Prelude.{ℕ, List, [], ◌∷◌, ◌++◌, map, slice_index_or, slice_set}
use Rattle.std.specs.declared.alloc.Global.{Global}
use Rattle.std.specs.declared.vec.Vec.{Vec}

-- the lists that the code holds
abbrev pub lists_of : {X : Type 0} → List (Vec X Global) → List (List X)
lists_of lists = map (λ list. list.items) lists

-- the list of a place, empty where there is none
abbrev pub list_at : {X : Type 0} → List (List X) → ℕ → List X
list_at lists place = slice_index_or lists place []

-- the lists with an item more at a place
abbrev pub added : {X : Type 0} → ℕ → X → List (List X) → List (List X)
added place item lists = slice_set lists place (list_at lists place ++ item ∷ [])
