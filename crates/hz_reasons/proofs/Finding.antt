-- Searches of lists: by tests that answer alike on their items, and of lists that are mapped.
use Rattle.std.proofs.Common.{◌≡◌, ℕ, suc, add-one, ◌+◌, ◌<◌, ◌≤◌, Bool, true, false, cond, List, [], ◌∷◌, map, drop, drop-cons, length, get_or, Contains, Option, Some, None, refl, sym, ap, ◌∙◌}
use Rattle.std.specs.Prelude.{◌&&◌, ◌||◌, slice_get}
use Rattle.std.specs.List.{find, list_any, list_all}
use Rattle.std.specs.Option.{option_map, option_and_then, is_some}
use Rattle.std.proofs.Math.ListN.{drop_of_length-le}
use Rattle.hz_base_model.proofs.Elements.{Contains-head, Contains-tail}
use Rattle.hz_reasons.specs.Breaking.{first_number_from}

module _ {X : Type 0} (f g : X → Bool) where
  pub find_alike : (xs : List X) → ((x : X) → Contains xs x → f x ≡ g x) → find f xs ≡ find g xs
  find_alike [] h = refl
  find_alike (x ∷ xs) h =
      ap (λ (b : Bool). cond b (Some x) (find f xs)) (h x (Contains-head x xs)) ∙ ap (λ (o : Option X). cond (g x) (Some x) o) (find_alike xs (λ y is. h y (Contains-tail x y xs is)))

  pub any_alike : (xs : List X) → ((x : X) → Contains xs x → f x ≡ g x) → list_any f xs ≡ list_any g xs
  any_alike [] h = refl
  any_alike (x ∷ xs) h =
      ap (λ (b : Bool). b || list_any f xs) (h x (Contains-head x xs)) ∙ ap (λ (b : Bool). g x || b) (any_alike xs (λ y is. h y (Contains-tail x y xs is)))

  pub all_alike : (xs : List X) → ((x : X) → Contains xs x → f x ≡ g x) → list_all f xs ≡ list_all g xs
  all_alike [] h = refl
  all_alike (x ∷ xs) h =
      ap (λ (b : Bool). b && list_all f xs) (h x (Contains-head x xs)) ∙ ap (λ (b : Bool). g x && b) (all_alike xs (λ y is. h y (Contains-tail x y xs is)))

-- what is found is there exactly where some item passes
pub is_some-find : {X : Type 0} (f : X → Bool) (xs : List X) → is_some (find f xs) ≡ list_any f xs
is_some-find f [] = refl
is_some-find f (x ∷ xs) = by_test (f x) (is_some-find f xs)
  where
    by_test : (b : Bool) → is_some (find f xs) ≡ list_any f xs → is_some (cond b (Some x) (find f xs)) ≡ (b || list_any f xs)
    by_test true rest = refl
    by_test false rest = rest

module _ {A B : Type 0} (v : A → B) where
  pub find_mapped : (t : B → Bool) (xs : List A) → find t (map v xs) ≡ option_map v (find (λ x. t (v x)) xs)
  find_mapped t [] = refl
  find_mapped t (x ∷ xs) = by_test (t (v x)) (find_mapped t xs)
    where
      by_test : (b : Bool) → find t (map v xs) ≡ option_map v (find (λ y. t (v y)) xs) → cond b (Some (v x)) (find t (map v xs)) ≡ option_map v (cond b (Some x) (find (λ y. t (v y)) xs))
      by_test true rest = refl
      by_test false rest = rest

pub is_some-map : {A B : Type 0} (v : A → B) (o : Option A) → is_some (option_map v o) ≡ is_some o
is_some-map v None = refl
is_some-map v (Some x) = refl

-- ---- the number of what is found

module _ {X : Type 0} (t : X → Bool) where
  number_shifted : (n : ℕ) (xs : List X) → first_number_from t (suc n) xs ≡ option_map suc (first_number_from t n xs)
  number_shifted n [] = refl
  number_shifted n (x ∷ xs) = by_test (t x) (number_shifted (suc n) xs)
    where
      by_test : (b : Bool) → first_number_from t (suc (suc n)) xs ≡ option_map suc (first_number_from t (suc n) xs) → cond b (Some (suc n)) (first_number_from t (suc (suc n)) xs) ≡ option_map suc (cond b (Some n) (first_number_from t (suc n) xs))
      by_test true rest = refl
      by_test false rest = rest

  -- the item of that number is found
  pub number_finds : (xs : List X) → option_and_then (slice_get xs) (first_number_from t 0 xs) ≡ find t xs
  number_finds [] = refl
  number_finds (x ∷ xs) = by_test (t x) (number_finds xs)
    where
      beyond : (o : Option ℕ) → option_and_then (slice_get (x ∷ xs)) (option_map suc o) ≡ option_and_then (slice_get xs) o
      beyond None = refl
      beyond (Some n) = refl

      by_test : (b : Bool) → option_and_then (slice_get xs) (first_number_from t 0 xs) ≡ find t xs → option_and_then (slice_get (x ∷ xs)) (cond b (Some 0) (first_number_from t 1 xs)) ≡ cond b (Some x) (find t xs)
      by_test true rest = refl
      by_test false rest = ap (option_and_then (slice_get (x ∷ xs))) (number_shifted 0 xs) ∙ beyond (first_number_from t 0 xs) ∙ rest

  pub number_mapped : {Y : Type 0} (v : Y → X) (w : Y → Bool) → ((y : Y) → w y ≡ t (v y)) → (n : ℕ) (ys : List Y) → first_number_from w n ys ≡ first_number_from t n (map v ys)
  number_mapped v w same n [] = refl
  number_mapped v w same n (y ∷ ys) =
      ap (λ (b : Bool). cond b (Some n) (first_number_from w (suc n) ys)) (same y) ∙ ap (λ (o : Option ℕ). cond (t (v y)) (Some n) o) (number_mapped v w same (suc n) ys)

  -- a search that has come to an item
  module _ (xs : List X) (n : ℕ) (come : first_number_from t 0 xs ≡ first_number_from t n (drop n xs)) where
    -- the item there is the next that is asked
    next : (x : X) → n < length xs → x ≡ get_or xs n x → first_number_from t 0 xs ≡ cond (t x) (Some n) (first_number_from t (n + 1) (drop (n + 1) xs))
    next x lt is =
        come ∙ ap (first_number_from t n) (drop-cons xs n x lt)
        ∙ ap (λ (y : X). cond (t y) (Some n) (first_number_from t (suc n) (drop (suc n) xs))) (sym is)
        ∙ ap (λ (k : ℕ). cond (t x) (Some n) (first_number_from t k (drop k xs))) (sym (add-one n))

    pub number_past : (x : X) → n < length xs → x ≡ get_or xs n x → t x ≡ false → first_number_from t 0 xs ≡ first_number_from t (n + 1) (drop (n + 1) xs)
    number_past x lt is fails = next x lt is ∙ ap (λ (b : Bool). cond b (Some n) (first_number_from t (n + 1) (drop (n + 1) xs))) fails

    pub number_here : (x : X) → n < length xs → x ≡ get_or xs n x → t x ≡ true → Some n ≡ first_number_from t 0 xs
    number_here x lt is passes = sym (next x lt is ∙ ap (λ (b : Bool). cond b (Some n) (first_number_from t (n + 1) (drop (n + 1) xs))) passes)

    pub number_end : length xs ≤ n → None ≡ first_number_from t 0 xs
    number_end past = sym (come ∙ ap (first_number_from t n) (drop_of_length-le xs past))
