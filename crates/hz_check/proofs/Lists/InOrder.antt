-- Items in the order of their forms.
use Rattle.std.proofs.Common.{◌≡◌, ℕ, zero, suc, ◌≤◌, List, [], ◌∷◌, map, drop, Some, slice_get, All, refl, sym, ap, ◌∙◌, subst, arith}
use Rattle.std.proofs.lemmas.Bool.Decides.{nat_tests}
use Rattle.std.proofs.lemmas.List.Elements.{All-cons}
use Rattle.std.proofs.lemmas.List.Kept.{AllPairs-cons}
use Rattle.std.proofs.lemmas.Option.{slice_get-map}
use Rattle.std.specs.List.{AllPairs}
use Rattle.std.specs.Option.{option_map}
use Rattle.hz_check.specs.Names.First.{first_of}
use Rattle.hz_base_model.proofs.Ascending.{AllPairs-head, AllPairs-tail}
use Rattle.hz_checked.proofs.RowSteps.{AllPairs-drop}
use Rattle.hz_description_model.specs.Check.Sites.{Site, earlier, earliest}

abbrev Before : Site → Site → Type 0
Before s t = s.form ≤ t.form

pub earlier_one : (s t : Site) → s.form ≤ t.form → earlier (Some s) (Some t) ≡ Some s
earlier_one s t le = grind (arith, nat_tests)

-- in order the first is the earliest
pub earliest-in_order : (sites : List Site) → AllPairs (λ s t. s.form ≤ t.form) sites → earliest sites ≡ first_of sites
earliest-in_order [] h = refl
earliest-in_order (s ∷ []) h = refl
earliest-in_order (s ∷ t ∷ sites) h =
    ap (earlier (Some s)) (earliest-in_order (t ∷ sites) (AllPairs-tail Before s (t ∷ sites) h)) ∙ earlier_one s t (AllPairs-head Before s (t ∷ sites) h 0 s (omega arith))

pub first_of-drop : {A : Type 0} (n : ℕ) (xs : List A) → first_of (drop n xs) ≡ slice_get xs n
first_of-drop zero [] = refl
first_of-drop zero (x ∷ xs) = refl
first_of-drop (suc n) [] = refl
first_of-drop (suc n) (x ∷ xs) = first_of-drop n xs

-- the first past a limit
pub past_limit : {A : Type 0} (site : A → Site) (limit : ℕ) (items : List A) (item : A) → AllPairs (λ s t. s.form ≤ t.form) (map site items) → slice_get items limit ≡ Some item → Some (site item) ≡ earliest (drop limit (map site items))
past_limit site limit items item h found =
    sym (earliest-in_order (drop limit (map site items)) (AllPairs-drop Before limit (map site items) h)
    ∙ (first_of-drop limit (map site items) ∙ (slice_get-map site items limit ∙ ap (option_map site) found)))

module _ {A B : Type 0} (form : B → ℕ) (site : A → Site) (item : A → B) (same : (x : A) → (site x).form ≡ form (item x)) where
  all_sites : (n : ℕ) (xs : List A) → All (λ y. n ≤ form y) (map item xs) → All (λ s. n ≤ s.form) (map site xs)
  all_sites n [] h = λ k d lt. absurd (omega arith)
  all_sites n (x ∷ xs) h =
      All-cons (λ (s : Site). n ≤ s.form) (site x) (map site xs) (subst (λ (m : ℕ). n ≤ m) (sym (same x)) (h 0 (item x) (omega arith)))
      (all_sites n xs (λ k d lt. h (suc k) d (omega arith)))

  -- what is in order is so as its sites too
  pub sites_in_order : (xs : List A) → AllPairs (λ a b. form a ≤ form b) (map item xs) → AllPairs (λ s t. s.form ≤ t.form) (map site xs)
  sites_in_order [] h = λ i j d lt within. absurd (omega arith)
  sites_in_order (x ∷ xs) h =
      AllPairs-cons Before (site x) (map site xs)
      (subst (λ (n : ℕ). All (λ s. n ≤ s.form) (map site xs)) (sym (same x)) (all_sites (form (item x)) xs (AllPairs-head (λ a b. form a ≤ form b) (item x) (map item xs) h)))
      (sites_in_order xs (AllPairs-tail (λ a b. form a ≤ form b) (item x) (map item xs) h))
