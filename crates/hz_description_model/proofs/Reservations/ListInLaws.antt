-- The lists of a class in an automaton: each item once.
use Rattle.std.proofs.Common.{◌≡◌, ℕ, ◌<◌, ⊎_elim, Bool, true, false, not, List, [], ◌∷◌, ◌++◌, cond, length, map, filter, Contains, refl, sym, ap, ◌∙◌, subst, arith}
use Rattle.std.specs.Bool.{Decides}
use Rattle.std.specs.List.{AllPairs, list_any}
use Rattle.std.proofs.lemmas.Bool.{cases_Bool, cond_both, false_from_ne_true, not-true}
use Rattle.std.proofs.lemmas.List.{append-nil, map-append}
use Rattle.std.proofs.lemmas.List.Folds.{list_any-from_Any}
use Rattle.std.proofs.lemmas.Map.Views.{Contains-from_any}
use Rattle.std.proofs.lemmas.List.Elements.{filter_passes, filter-append}
use Rattle.std.proofs.lemmas.List.Kept.{AllPairs-cons, AllPairs-filter}
use Rattle.hz_base_model.specs.Pairs.{Pair, grid_eq}
use Rattle.hz_description_model.specs.Reservations.Alternatives.{Alternative}
use Rattle.hz_description_model.specs.Reservations.Automata.{UnitPlace, cut, without_repeats, list_in}
use Rattle.hz_base_model.proofs.Elements.{Contains-nil, Contains-head, Contains-tail, Contains-cons_cases, Contains-filter, Contains-from_filter, Contains-map, Contains-from_map}
use Rattle.hz_base_model.proofs.PairOrder.{grid_eq-Decides}

module _ {A : Type 0} (same : A → A → Bool) where
  pub Contains-from_without_repeats : (x : A) (xs : List A) → Contains (without_repeats same xs) x → Contains xs x
  Contains-from_without_repeats x [] h = h
  Contains-from_without_repeats x (y ∷ ys) h = ⊎_elim
      (λ (e : y ≡ x). subst (λ (z : A). Contains (z ∷ ys) x) (sym e) (Contains-head x ys))
      (λ (k : Contains (filter (λ z. not (same y z)) (without_repeats same ys)) x). Contains-tail y x ys (Contains-from_without_repeats x ys (Contains-from_filter (λ z. not (same y z)) x (without_repeats same ys) k).0))
      (Contains-cons_cases y x (filter (λ z. not (same y z)) (without_repeats same ys)) h)

  -- each item differs from all later ones
  pub apart_without_repeats : (xs : List A) → AllPairs (λ x y. same x y ≡ false) (without_repeats same xs)
  apart_without_repeats [] = λ i j d lt within. absurd (omega arith)
  apart_without_repeats (y ∷ ys) =
      let rest = without_repeats same ys in
      let others = filter (λ z. not (same y z)) rest in
      AllPairs-cons (λ a b. same a b ≡ false) y others
      (λ k d within. not-true _ (filter_passes (λ z. not (same y z)) rest k d within))
      (AllPairs-filter (λ a b. same a b ≡ false) (λ z. not (same y z)) rest (apart_without_repeats ys))

  module _ (decides : (a b : A) → Decides (same a b) (a ≡ b)) where
    pub Contains-without_repeats : (x : A) (xs : List A) → Contains xs x → Contains (without_repeats same xs) x
    Contains-without_repeats x [] h = h
    Contains-without_repeats x (y ∷ ys) h = ⊎_elim
        (λ (e : y ≡ x). subst (λ (z : A). Contains (z ∷ filter (λ w. not (same z w)) (without_repeats same ys)) x) (sym e) (Contains-head x (filter (λ w. not (same x w)) (without_repeats same ys))))
        (λ (k : Contains ys x). ⊎_elim
        (λ (is : same y x ≡ true). subst (λ (z : A). Contains (y ∷ filter (λ w. not (same y w)) (without_repeats same ys)) z) ((decides y x).0 is) (Contains-head y (filter (λ w. not (same y w)) (without_repeats same ys))))
        (λ (no : same y x ≡ false). Contains-tail y x (filter (λ w. not (same y w)) (without_repeats same ys)) (Contains-filter (λ w. not (same y w)) x (ap not no) (without_repeats same ys) (Contains-without_repeats x ys k)))
        (cases_Bool (same y x)))
        (Contains-cons_cases y x ys h)

abbrev in_cycle : ℕ → ℕ → Pair ℕ
in_cycle cycle unit = record { unit = unit; cycle = cycle }

-- one more item joins where it is not there yet
module _ {A : Type 0} (same : A → A → Bool) (decides : (a b : A) → Decides (same a b) (a ≡ b)) where
  new_item : (y : A) (xs : List A) → (Contains xs y → ⊥) → without_repeats same (xs ++ y ∷ []) ≡ without_repeats same xs ++ y ∷ []
  new_item y [] apart = refl
  new_item y (x ∷ xs) apart =
      let differs : same x y ≡ false = false_from_ne_true (same x y) (λ is. apart (subst (λ (z : A). Contains (x ∷ xs) z) ((decides x y).0 is) (Contains-head x xs))) in
      let kept : filter (λ z. not (same x z)) (y ∷ []) ≡ y ∷ [] = ap (λ b. cond (not b) (y ∷ []) []) differs in
      ap (λ ws. x ∷ filter (λ z. not (same x z)) ws) (new_item y xs (λ m. apart (Contains-tail x y xs m)))
      ∙ ap (λ ws. x ∷ ws) (filter-append (λ z. not (same x z)) (without_repeats same xs) (y ∷ []) ∙ ap (λ ws. filter (λ z. not (same x z)) (without_repeats same xs) ++ ws) kept)

  found : (y : A) (xs : List A) → list_any (same y) xs ≡ true → Contains xs y
  found y xs is = Contains-from_any (λ a b e. (decides a b).0 e) y xs is

  missing : (y : A) (xs : List A) → list_any (same y) xs ≡ false → Contains xs y → ⊥
  missing y xs none m = let there = list_any-from_Any (same y) xs (m.0, y, m.1, m.2, (decides y y).1 refl) in cc

  old_item : (y : A) (xs : List A) → Contains xs y → without_repeats same (xs ++ y ∷ []) ≡ without_repeats same xs
  old_item y [] m = absurd (Contains-nil y m)
  old_item y (x ∷ xs) m =
      let test = λ (z : A). not (same x z) in
      ⊎_elim
      (λ (there : list_any (same y) xs ≡ true). ap (λ ws. x ∷ filter test ws) (old_item y xs (found y xs there)))
      (λ (none : list_any (same y) xs ≡ false). ⊎_elim
      (λ (e : x ≡ y).
      let dropped : filter test (y ∷ []) ≡ [] = ap (λ b. cond (not b) (y ∷ []) []) ((decides x y).1 e) in
      ap (λ ws. x ∷ filter test ws) (new_item y xs (missing y xs none))
      ∙ ap (λ ws. x ∷ ws) (filter-append test (without_repeats same xs) (y ∷ []) ∙ (ap (λ ws. filter test (without_repeats same xs) ++ ws) dropped ∙ append-nil (filter test (without_repeats same xs)))))
      (λ (k : Contains xs y). absurd (missing y xs none k))
      (Contains-cons_cases x y xs m))
      (cases_Bool (list_any (same y) xs))

  -- one more item joins the list where it is not in it
  pub without_repeats-push : (y : A) (xs : List A) → without_repeats same (xs ++ y ∷ []) ≡ cond (list_any (same y) (without_repeats same xs)) (without_repeats same xs) (without_repeats same xs ++ y ∷ [])
  without_repeats-push y xs =
      cond_both (list_any (same y) (without_repeats same xs)) (without_repeats same xs) (without_repeats same xs ++ y ∷ []) (λ ws. without_repeats same (xs ++ y ∷ []) ≡ ws)
      (λ there. old_item y xs (Contains-from_without_repeats same y xs (found y (without_repeats same xs) there)))
      (λ none. new_item y xs (λ m. missing y (without_repeats same xs) none (Contains-without_repeats same decides y xs m)))

-- the cuts of an automaton
abbrev cuts : ℕ → List (Alternative UnitPlace) → List (List (Pair ℕ))
cuts automaton alternatives = map (λ a. cut automaton a.pairs) alternatives

pub Contains-list_in : (automaton : ℕ) (alternatives : List (Alternative UnitPlace)) (a : Alternative UnitPlace) → Contains alternatives a → Contains (list_in automaton alternatives) (cut automaton a.pairs)
Contains-list_in automaton alternatives a h =
    Contains-without_repeats grid_eq grid_eq-Decides (cut automaton a.pairs) (cuts automaton alternatives)
    (Contains-map (λ (b : Alternative UnitPlace). cut automaton b.pairs) alternatives a h)

pub Contains-from_list_in : (automaton : ℕ) (alternatives : List (Alternative UnitPlace)) (grid : List (Pair ℕ)) → Contains (list_in automaton alternatives) grid → (a : Alternative UnitPlace) × Contains alternatives a × (cut automaton a.pairs ≡ grid)
Contains-from_list_in automaton alternatives grid h =
    Contains-from_map (λ (b : Alternative UnitPlace). cut automaton b.pairs) alternatives grid
    (Contains-from_without_repeats grid_eq grid (cuts automaton alternatives) h)

pub apart_in_list : (automaton : ℕ) (alternatives : List (Alternative UnitPlace)) → AllPairs (λ x y. x ≡ y → ⊥) (list_in automaton alternatives)
apart_in_list automaton alternatives i j d lt within e =
    let apart = apart_without_repeats grid_eq (cuts automaton alternatives) i j d lt within in
    cc ((grid_eq-Decides _ _).1 e, apart)

pub some_in_list : (automaton : ℕ) (alternatives : List (Alternative UnitPlace)) → 0 < length alternatives → 0 < length (list_in automaton alternatives)
some_in_list automaton [] h = absurd (omega arith)
some_in_list automaton (a ∷ others) h = omega arith

-- one more alternative joins the list by its cut
pub list_in-push : (automaton : ℕ) (alternatives : List (Alternative UnitPlace)) (a : Alternative UnitPlace) → list_in automaton (alternatives ++ a ∷ []) ≡ cond (list_any (grid_eq (cut automaton a.pairs)) (list_in automaton alternatives)) (list_in automaton alternatives) (list_in automaton alternatives ++ cut automaton a.pairs ∷ [])
list_in-push automaton alternatives a =
    ap (without_repeats grid_eq) (map-append (λ (b : Alternative UnitPlace). cut automaton b.pairs) alternatives (a ∷ []))
    ∙ without_repeats-push grid_eq grid_eq-Decides (cut automaton a.pairs) (cuts automaton alternatives)
