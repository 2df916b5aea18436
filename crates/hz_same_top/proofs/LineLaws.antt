-- Lines that are added one by one, for what passes a test.
use Rattle.std.proofs.Common.{◌≡◌, ℕ, ◌+◌, ◌<◌, Bool, true, false, cond, List, [], ◌∷◌, ◌++◌, length, map, take, get_or, Result, refl, sym, ap, ◌∙◌, subst, arith}
use Rattle.std.specs.Prelude.{filter, OnOk}
use Rattle.std.specs.Borrow.{Bor}
use Rattle.std.specs.List.{concat, flat_map}
use Rattle.std.proofs.lemmas.Grind.{flat_map-append}
use Rattle.std.proofs.lemmas.List.{append_assoc, append-nil, map_more, take_more, length-map, get_or-map}
use Rattle.std.proofs.lemmas.List.Folds.{concat-append}
use Rattle.std.proofs.lemmas.List.Elements.{filter-append}
use Rattle.hz_pipeline_model.specs.Tables.Machines.{Part, names_of}

-- one item more that is filtered
pub filtered_more : {X : Type 0} (p : X → Bool) (xs : List X) (i : ℕ) (x : X) → i < length xs → x ≡ get_or xs i x → filter p (take (i + 1) xs) ≡ filter p (take i xs) ++ cond (p x) (x ∷ []) []
filtered_more p xs i x low is = ap (filter p) (take_more xs i x low ∙ ap (λ y. take i xs ++ y ∷ []) (sym is)) ∙ filter-append p (take i xs) (x ∷ [])

-- the names of one part more
pub names_more : {X : Type 0} (of : X → Part) (xs : List X) (i : ℕ) (x : X) (asks : List (List ℕ)) → i < length xs → x ≡ get_or xs i x → asks ≡ (of x).asks → names_of (take (i + 1) (map of xs)) ≡ names_of (take i (map of xs)) ++ asks
names_more of xs i x asks low is same =
    ap names_of (take_more (map of xs) i (of x) (omega (arith, low, length-map xs of)) ∙ ap (λ y. take i (map of xs) ++ y ∷ []) (get_or-map of xs i x (of x) low ∙ ap of (sym is)))
    ∙ (flat_map-append (λ (part : Part). part.asks) (take i (map of xs)) (of x ∷ [])
    ∙ ap (λ (ys : List (List ℕ)). names_of (take i (map of xs)) ++ ys) (append-nil (of x).asks ∙ sym same))

chosen : {X : Type 0} (f : X → List ℕ) (x : X) (t : Bool) → flat_map f (cond t (x ∷ []) []) ≡ cond t (f x) []
chosen f x true = append-nil (f x)
chosen f x false = refl

-- the line of one item more, if it passes
pub line_more : {X : Type 0} (f : X → List ℕ) (p : X → Bool) (xs : List X) (i : ℕ) (x : X) (t : Bool) (base old new : List ℕ) → i < length xs → x ≡ get_or xs i x → t ≡ p x → old ≡ base ++ flat_map f (filter p (take i xs)) → new ≡ old ++ cond t (f x) []
    → new ≡ base ++ flat_map f (filter p (take (i + 1) xs))
line_more f p xs i x t base old new low is test so_far more =
    let here : flat_map f (filter p (take (i + 1) xs)) ≡ flat_map f (filter p (take i xs)) ++ cond (p x) (f x) [] =
    ap (flat_map f) (filtered_more p xs i x low is) ∙ (flat_map-append f (filter p (take i xs)) (cond (p x) (x ∷ []) []) ∙ ap (λ (ys : List ℕ). flat_map f (filter p (take i xs)) ++ ys) (chosen f x (p x))) in
    more ∙ (ap (λ (b : Bool). old ++ cond b (f x) []) test ∙ (ap (λ (ys : List ℕ). ys ++ cond (p x) (f x) []) so_far ∙ (append_assoc base (flat_map f (filter p (take i xs))) (cond (p x) (f x) []) ∙ ap (λ (ys : List ℕ). base ++ ys) (sym here))))

-- the lines of the names of one part more
pub lines_more : {X : Type 0} (of : X → Part) (f : List ℕ → List ℕ) (p : List ℕ → Bool) (xs : List X) (i : ℕ) (x : X) (base old new : List ℕ) (asks : List (List ℕ)) → i < length xs → x ≡ get_or xs i x → asks ≡ (of x).asks
    → old ≡ base ++ flat_map f (filter p (names_of (take i (map of xs)))) → new ≡ old ++ flat_map f (filter p asks) → new ≡ base ++ flat_map f (filter p (names_of (take (i + 1) (map of xs))))
lines_more of f p xs i x base old new asks low is same so_far more =
    let names = names_of (take i (map of xs)) in
    let here : flat_map f (filter p (names_of (take (i + 1) (map of xs)))) ≡ flat_map f (filter p names) ++ flat_map f (filter p asks) =
    ap (λ (ys : List (List ℕ)). flat_map f (filter p ys)) (names_more of xs i x asks low is same) ∙ (ap (flat_map f) (filter-append p names asks) ∙ flat_map-append f (filter p names) (filter p asks)) in
    more ∙ (ap (λ (ys : List ℕ). ys ++ flat_map f (filter p asks)) so_far ∙ (append_assoc base (flat_map f (filter p names)) (flat_map f (filter p asks)) ∙ ap (λ (ys : List ℕ). base ++ ys) (sym here)))

-- one piece more
pub piece_more : (pieces : List (Bor (List ℕ))) (i : ℕ) (d : Bor (List ℕ)) (base old new : List ℕ) → i < length pieces → old ≡ base ++ concat (map (λ p. p.now) (take i pieces)) → new ≡ old ++ (get_or pieces i d).now
    → new ≡ base ++ concat (map (λ p. p.now) (take (i + 1) pieces))
piece_more pieces i d base old new low so_far more =
    let bytes : Bor (List ℕ) → List ℕ = λ p. p.now in
    let one : List ℕ = bytes (get_or pieces i d) in
    let here : concat (map bytes (take (i + 1) pieces)) ≡ concat (map bytes (take i pieces)) ++ one =
    ap concat (map_more bytes pieces i d low) ∙ (concat-append (map bytes (take i pieces)) (one ∷ []) ∙ ap (λ (ys : List ℕ). concat (map bytes (take i pieces)) ++ ys) (append-nil one)) in
    more ∙ (ap (λ (ys : List ℕ). ys ++ one) so_far ∙ (append_assoc base (concat (map bytes (take i pieces))) one ∙ ap (λ (ys : List ℕ). base ++ ys) (sym here)))

-- a text to which the same is added in other words
pub text_same : {E : Type 0} (r : Result Unit E) (new old a b : List ℕ) → OnOk r (new ≡ old ++ a) → a ≡ b → OnOk r (new ≡ old ++ b)
text_same r new old a b h e = subst (λ (ys : List ℕ). OnOk r (new ≡ old ++ ys)) e h
