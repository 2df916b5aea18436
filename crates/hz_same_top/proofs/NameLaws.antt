-- Names that are gathered one by one.
use Rattle.std.proofs.Common.{◌≡◌, ℕ, ◌+◌, ◌<◌, Bool, cond, List, [], ◌∷◌, ◌++◌, length, map, take, get_or, sym, ap, ◌∙◌}
use Rattle.std.specs.Borrow.{Bor}
use Rattle.std.specs.Prelude.{filter}
use Rattle.std.proofs.lemmas.List.{append_assoc, map-append}
use Rattle.std.proofs.lemmas.List.Elements.{filter-append}
use Rattle.hz_pipeline_model.specs.Tables.Machines.{Part, names_of}
use Rattle.hz_same_top.specs.Names.{names_in}
use Rattle.hz_same_top.proofs.LineLaws.{filtered_more, names_more}

-- a name that is added
pub pushed_name : (old : List (Bor (List ℕ))) (name : Bor (List ℕ)) → names_in (old ++ name ∷ []) ≡ names_in old ++ name.now ∷ []
pushed_name old name = map-append (λ (n : Bor (List ℕ)). n.now) old (name ∷ [])

-- one name more, if it passes
pub name_more : (p : List ℕ → Bool) (xs : List (List ℕ)) (i : ℕ) (x : List ℕ) (t : Bool) (base old new : List (List ℕ)) → i < length xs → x ≡ get_or xs i x → t ≡ p x → old ≡ base ++ filter p (take i xs) → new ≡ old ++ cond t (x ∷ []) [] → new ≡ base ++ filter p (take (i + 1) xs)
name_more p xs i x t base old new low is test so_far more =
    more
    ∙ (ap (λ (b : Bool). old ++ cond b (x ∷ []) []) test
    ∙ (ap (λ (ys : List (List ℕ)). ys ++ cond (p x) (x ∷ []) []) so_far ∙ (append_assoc base (filter p (take i xs)) (cond (p x) (x ∷ []) []) ∙ ap (λ (ys : List (List ℕ)). base ++ ys) (sym (filtered_more p xs i x low is)))))

-- the names of one part more
pub part_more : {X : Type 0} (of : X → Part) (p : List ℕ → Bool) (xs : List X) (i : ℕ) (x : X) (old new asks : List (List ℕ)) → i < length xs → x ≡ get_or xs i x → asks ≡ (of x).asks
    → old ≡ filter p (names_of (take i (map of xs))) → new ≡ old ++ filter p asks → new ≡ filter p (names_of (take (i + 1) (map of xs)))
part_more of p xs i x old new asks low is same so_far more =
    more
    ∙ (ap (λ (ys : List (List ℕ)). ys ++ filter p asks) so_far
    ∙ sym (ap (filter p) (names_more of xs i x asks low is same) ∙ filter-append p (names_of (take i (map of xs))) asks))
