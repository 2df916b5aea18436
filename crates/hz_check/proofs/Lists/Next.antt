-- The next item of a list.
use Rattle.std.proofs.Common.{◌≡◌, ℕ, suc, ◌<◌, ◌≤◌, ◌+◌, List, [], ◌∷◌, ◌++◌, map, length, take, drop, filter, get_or, Bool, true, false, ◌&&◌, cond, append_assoc, refl, sym, ap, ◌∙◌, add-one}
use Rattle.std.specs.List.{flat_map, list_all}
use Rattle.std.proofs.lemmas.List.{take_more, take_all, map-append}
use Rattle.std.proofs.Math.Seq.{drop-cons}

pub drop_next : {A : Type 0} (xs : List A) (i : ℕ) (x : A) → x ≡ get_or xs i x → i < length xs → drop i xs ≡ x ∷ drop (i + 1) xs
drop_next xs i x is lt = drop-cons xs i x lt ∙ (ap (λ (y : _). y ∷ drop (suc i) xs) (sym is) ∙ ap (λ (n : ℕ). x ∷ drop n xs) (sym (add-one i)))

pub map-map : {A B C : Type 0} (g : B → C) (f : A → B) (xs : List A) → map g (map f xs) ≡ map (λ x. g (f x)) xs
map-map g f [] = refl
map-map g f (x ∷ xs) = ap (λ (ys : List _). g (f x) ∷ ys) (map-map g f xs)

pub flat_map-map : {A B C : Type 0} (g : B → List C) (f : A → B) (xs : List A) → flat_map g (map f xs) ≡ flat_map (λ x. g (f x)) xs
flat_map-map g f [] = refl
flat_map-map g f (x ∷ xs) = ap (λ (ys : List _). g (f x) ++ ys) (flat_map-map g f xs)

-- what is done with one item more
pub done_next : {A B : Type 0} (f : A → B) (xs : List A) (i : ℕ) (x : A) → x ≡ get_or xs i x → i < length xs → map f (take (i + 1) xs) ≡ map f (take i xs) ++ f x ∷ []
done_next {A} f xs i x is lt = ap (map f) (take_more xs i x lt ∙ ap (λ (y : A). take i xs ++ y ∷ []) (sym is)) ∙ map-append f (take i xs) (x ∷ [])

-- a loop that pushes what it makes of each item: one item more
pub push_next : {A B C : Type 0} (view : B → C) (f : A → C) (xs : List A) (i : ℕ) (x : A) (old new : List B) (y : B) → x ≡ get_or xs i x → i < length xs → new ≡ old ++ y ∷ [] → view y ≡ f x → map view old ≡ map f (take i xs) → map view new ≡ map f (take (i + 1) xs)
push_next {C = C} view f xs i x old new y is lt pushed made kept =
    ap (map view) pushed
    ∙ (map-append view old (y ∷ [])
    ∙ (ap (λ (zs : List C). zs ++ view y ∷ []) kept ∙ (ap (λ (z : C). map f (take i xs) ++ z ∷ []) made ∙ sym (done_next f xs i x is lt))))

-- the end of such a loop over items that are stored
pub push_all : {A B C D : Type 0} (view : B → C) (f : D → C) (item : A → D) (slice xs : List A) (i : ℕ) (made : List B) → slice ≡ xs → length slice ≤ i → map view made ≡ map (λ x. f (item x)) (take i slice) → map view made ≡ map f (map item xs)
push_all {A = A} view f item slice xs i made e end kept =
    kept ∙ (ap (map (λ x. f (item x))) (take_all i slice end ∙ e) ∙ sym (map-map f item xs))

-- a loop that pushes what it makes of each item that passes: one that does
pub pass_next : {A B C D : Type 0} (view : B → C) (p : D → Bool) (g : D → C) (f : A → D) (xs : List A) (i : ℕ) (x : A) (old new : List B) (y : B) (all : List C) → x ≡ get_or xs i x → i < length xs → p (f x) ≡ true → view y ≡ g (f x) → new ≡ old ++ y ∷ []
    → map view old ++ map g (filter p (map f (drop i xs))) ≡ all → map view new ++ map g (filter p (map f (drop (i + 1) xs))) ≡ all
pass_next {A} {B} {C} {D} view p g f xs i x old new y all is lt passes made pushed kept =
    let rest : List C = map g (filter p (map f (drop (i + 1) xs))) in
    ap (λ (zs : List B). map view zs ++ rest) pushed
    ∙ (ap (λ (zs : List C). zs ++ rest) (map-append view old (y ∷ []))
    ∙ (append_assoc (map view old) (view y ∷ []) rest
    ∙ (ap (λ (z : C). map view old ++ z ∷ rest) made
    ∙ (ap (λ (b : Bool). map view old ++ map g (cond b (f x ∷ filter p (map f (drop (i + 1) xs))) (filter p (map f (drop (i + 1) xs))))) (sym passes)
    ∙ (ap (λ (ys : List A). map view old ++ map g (filter p (map f ys))) (sym (drop_next xs i x is lt)) ∙ kept)))))

-- and one that does not
pub fail_next : {A B C D : Type 0} (view : B → C) (p : D → Bool) (g : D → C) (f : A → D) (xs : List A) (i : ℕ) (x : A) (old : List B) (all : List C) → x ≡ get_or xs i x → i < length xs → p (f x) ≡ false
    → map view old ++ map g (filter p (map f (drop i xs))) ≡ all → map view old ++ map g (filter p (map f (drop (i + 1) xs))) ≡ all
fail_next {A} view p g f xs i x old all is lt fails kept =
    ap (λ (b : Bool). map view old ++ map g (cond b (f x ∷ filter p (map f (drop (i + 1) xs))) (filter p (map f (drop (i + 1) xs))))) (sym fails)
    ∙ (ap (λ (ys : List A). map view old ++ map g (filter p (map f ys))) (sym (drop_next xs i x is lt)) ∙ kept)

pub list_all-map : {A B : Type 0} (p : B → Bool) (f : A → B) (xs : List A) → list_all p (map f xs) ≡ list_all (λ x. p (f x)) xs
list_all-map p f [] = refl
list_all-map p f (x ∷ xs) = ap (λ (b : Bool). p (f x) && b) (list_all-map p f xs)

-- what is pushed stands before the rest
pub push_before : {B C : Type 0} (view : B → C) (old new : List B) (y : B) (z : C) (rest : List C) → new ≡ old ++ y ∷ [] → view y ≡ z → map view new ++ rest ≡ map view old ++ (z ∷ rest)
push_before {B} {C} view old new y z rest pushed made =
    ap (λ (ws : List B). map view ws ++ rest) pushed
    ∙ (ap (λ (ws : List C). ws ++ rest) (map-append view old (y ∷ []))
    ∙ (append_assoc (map view old) (view y ∷ []) rest ∙ ap (λ (w : C). map view old ++ (w ∷ rest)) made))

-- one item more is taken
pub taken_more : {A B : Type 0} (f : A → B) (xs : List A) (i : ℕ) (x : A) → x ≡ get_or xs i x → i < length xs → map f (take (i + 1) xs) ≡ map f (take i xs) ++ f x ∷ []
taken_more {A} f xs i x is lt =
    ap (map f) (take_more xs i x lt) ∙ (map-append f (take i xs) (get_or xs i x ∷ []) ∙ ap (λ (y : A). map f (take i xs) ++ f y ∷ []) (sym is))
