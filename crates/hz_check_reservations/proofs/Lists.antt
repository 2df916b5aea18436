-- Lists of lists that the code holds.
use Rattle.std.proofs.Common.{◌≡◌, ℕ, ◌<◌, List, [], ◌∷◌, ◌++◌, length, get_or, set, sym, ap, ◌∙◌}
use Rattle.std.specs.declared.alloc.Global.{Global}
use Rattle.std.specs.declared.vec.Vec.{Vec}
use Rattle.std.proofs.lemmas.List.{get_or-map, length-map, map-set}
use Rattle.hz_check_reservations.specs.Graphs.{ends_in}
use Rattle.hz_check_reservations.specs.Walks.{lists_of}

pub list_at : (lists : List (Vec ℕ Global)) (i : ℕ) (list : Vec ℕ Global) → i < length lists → list ≡ get_or lists i list → ends_in (lists_of lists) i ≡ list.items
list_at lists i list lt e = get_or-map (λ (v : Vec ℕ Global). v.items) lists i list [] lt ∙ ap (λ (v : Vec ℕ Global). v.items) (sym e)

-- an item is added to one of the lists
pub list_grows : (lists : List (Vec ℕ Global)) (i : ℕ) (old new : Vec ℕ Global) (x : ℕ) → i < length lists → old ≡ get_or lists i old → new.items ≡ old.items ++ x ∷ []
    → lists_of (set lists i new) ≡ set (lists_of lists) i (ends_in (lists_of lists) i ++ x ∷ [])
list_grows lists i old new x lt e grown = map-set (λ (v : Vec ℕ Global). v.items) lists i new
    ∙ ap (set (lists_of lists) i) (grown ∙ ap (λ (xs : List ℕ). xs ++ x ∷ []) (sym (list_at lists i old lt e)))

pub length-lists_of : (lists : List (Vec ℕ Global)) → length (lists_of lists) ≡ length lists
length-lists_of lists = length-map lists (λ (v : Vec ℕ Global). v.items)
