-- Lists by places, as the code holds them.
use Rattle.std.proofs.Common.{◌≡◌, ◌≢◌, ℕ, ◌+◌, ◌<◌, ◌≤◌, ◌⊎◌, inl, inr, ⊎_elim, List, [], ◌∷◌, ◌++◌, length, get_or, set, Contains, sym, ap, ◌∙◌, subst, arith, get_or-set_same, get_or-set_other, length-set}
use Rattle.std.specs.declared.alloc.Global.{Global}
use Rattle.std.specs.declared.vec.Vec.{Vec}
use Rattle.std.proofs.lemmas.Bool.{cases_eq, cases_lt}
use Rattle.std.proofs.lemmas.List.{get_or-map, length-map, map-set, get_or_past, map_push, get_or_append_left, get_or_push, length_push}
use Rattle.std.proofs.lemmas.List.Elements.{Contains-append_left, Contains-push, Contains-push_cases}
use Rattle.hz_base_model.proofs.Elements.{Contains-nil}
use Rattle.hz_minim.specs.Lists.{lists_of, list_at, added}

module _ {X : Type 0} where
  pub length-lists_of : (lists : List (Vec X Global)) → length (lists_of lists) ≡ length lists
  length-lists_of lists = length-map lists (λ (v : Vec X Global). v.items)

  pub list_at_read : (lists : List (Vec X Global)) (i : ℕ) (list : Vec X Global) → i < length lists → list ≡ get_or lists i list → list_at (lists_of lists) i ≡ list.items
  list_at_read lists i list lt e = get_or-map (λ (v : Vec X Global). v.items) lists i list [] lt ∙ ap (λ (v : Vec X Global). v.items) (sym e)

  -- an item is added to one of the lists
  pub lists_added : (lists : List (Vec X Global)) (i : ℕ) (old new : Vec X Global) (x : X) → i < length lists → old ≡ get_or lists i old → new.items ≡ old.items ++ x ∷ [] → lists_of (set lists i new) ≡ added i x (lists_of lists)
  lists_added lists i old new x lt e grown = map-set (λ (v : Vec X Global). v.items) lists i new ∙ ap (set (lists_of lists) i) (grown ∙ ap (λ (xs : List X). xs ++ x ∷ []) (sym (list_at_read lists i old lt e)))

  -- a list that holds something is there
  pub place_within : (lists : List (List X)) (i : ℕ) (x : X) → Contains (list_at lists i) x → i < length lists
  place_within lists i x h = ⊎_elim
      (λ (within : i < length lists). within)
      (λ (past : length lists ≤ i). absurd (Contains-nil x (subst (λ (xs : List X). Contains xs x) (get_or_past lists i [] past) h)))
      (cases_lt i (length lists))

  pub length-added : (i : ℕ) (x : X) (lists : List (List X)) → length (added i x lists) ≡ length lists
  length-added i x lists = length-set lists i (list_at lists i ++ x ∷ [])

  added_here : (i : ℕ) (x : X) (lists : List (List X)) → i < length lists → list_at (added i x lists) i ≡ list_at lists i ++ x ∷ []
  added_here i x lists within = get_or-set_same lists i (list_at lists i ++ x ∷ []) [] within

  added_there : (i : ℕ) (x : X) (lists : List (List X)) (j : ℕ) → j ≢ i → list_at (added i x lists) j ≡ list_at lists j
  added_there i x lists j ne = get_or-set_other lists i j (list_at lists i ++ x ∷ []) [] ne

  pub added-holds : (i : ℕ) (x : X) (lists : List (List X)) → i < length lists → Contains (list_at (added i x lists) i) x
  added-holds i x lists within = subst (λ (xs : List X). Contains xs x) (sym (added_here i x lists within)) (Contains-push (list_at lists i) x)

  pub added-kept : (i : ℕ) (x : X) (lists : List (List X)) (j : ℕ) (y : X) → Contains (list_at lists j) y → Contains (list_at (added i x lists) j) y
  added-kept i x lists j y h = ⊎_elim
      (λ (e : j ≡ i).
      let here : Contains (list_at lists i) y = subst (λ (k : ℕ). Contains (list_at lists k) y) e h in
      subst (λ (k : ℕ). Contains (list_at (added i x lists) k) y) (sym e)
      (subst (λ (xs : List X). Contains xs y) (sym (added_here i x lists (place_within lists i y here))) (Contains-append_left (list_at lists i) (x ∷ []) y here)))
      (λ (ne : j ≢ i). subst (λ (xs : List X). Contains xs y) (sym (added_there i x lists j ne)) h)
      (cases_eq j i)

  pub added-only : (i : ℕ) (x : X) (lists : List (List X)) (j : ℕ) (y : X) → Contains (list_at (added i x lists) j) y → Contains (list_at lists j) y ⊎ ((j ≡ i) × (x ≡ y))
  added-only i x lists j y h = ⊎_elim
      (λ (e : j ≡ i).
      let here : Contains (list_at (added i x lists) i) y = subst (λ (k : ℕ). Contains (list_at (added i x lists) k) y) e h in
      let within : i < length lists = omega (arith, place_within (added i x lists) i y here, length-added i x lists) in
      ⊎_elim
      (λ (k : Contains (list_at lists i) y). inl (subst (λ (at : ℕ). Contains (list_at lists at) y) (sym e) k))
      (λ (k : x ≡ y). inr (e, k))
      (Contains-push_cases (list_at lists i) x y (subst (λ (xs : List X). Contains xs y) (added_here i x lists within) here)))
      (λ (ne : j ≢ i). inl (subst (λ (xs : List X). Contains xs y) (added_there i x lists j ne) h))
      (cases_eq j i)

  nothing_more : (lists : List (List X)) (j : ℕ) → list_at (lists ++ [] ∷ []) j ≡ list_at lists j
  nothing_more lists j = ⊎_elim
      (λ (within : j < length lists). get_or_append_left lists ([] ∷ []) [] j within)
      (λ (past : length lists ≤ j). ⊎_elim
      (λ (e : j ≡ length lists). get_or_push lists [] [] j (sym e) ∙ sym (get_or_past lists j [] past))
      (λ (ne : j ≢ length lists). get_or_past (lists ++ [] ∷ []) j [] (omega (arith, length_push {X = List X} lists [])) ∙ sym (get_or_past lists j [] past))
      (cases_eq j (length lists)))
      (cases_lt j (length lists))

  -- an empty list more changes no list
  pub same_with_empty : (lists : List (Vec X Global)) (list : Vec X Global) (j : ℕ) → list.items ≡ [] → list_at (lists_of (lists ++ list ∷ [])) j ≡ list_at (lists_of lists) j
  same_with_empty lists list j e = ap (λ (all : List (List X)). list_at all j) (map_push (λ (v : Vec X Global). v.items) lists list ∙ ap (λ (xs : List X). lists_of lists ++ xs ∷ []) e) ∙ nothing_more (lists_of lists) j

  -- one list more is empty
  pub cleared_more : (lists : List (Vec X Global)) (i : ℕ) (new : Vec X Global) → i < length lists → new.items ≡ [] → ((place : ℕ) → place < i → list_at (lists_of lists) place ≡ []) → (place : ℕ) → place < i + 1 → list_at (lists_of (set lists i new)) place ≡ []
  cleared_more lists i new within empty before place below =
      let same : list_at (lists_of (set lists i new)) place ≡ list_at (set (lists_of lists) i new.items) place = ap (λ (all : List (List X)). list_at all place) (map-set (λ (v : Vec X Global). v.items) lists i new) in
      let inside : i < length (lists_of lists) = omega (arith, length-lists_of lists) in
      same ∙ ⊎_elim
      (λ (e : place ≡ i). ap (list_at (set (lists_of lists) i new.items)) e ∙ get_or-set_same (lists_of lists) i new.items [] inside ∙ empty)
      (λ (ne : place ≢ i). get_or-set_other (lists_of lists) i place new.items [] ne ∙ before place (omega arith))
      (cases_eq place i)
