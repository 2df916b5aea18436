-- Ordered sets of heights and places.
use Rattle.std.proofs.Common.{◌≡◌, ℕ, ◌<◌, ◌⊎◌, inl, inr, ⊎_elim, Bool, true, false, cond, List, [], ◌∷◌, Some, None, Contains, refl, sym, ap, ◌∙◌, subst, arith}
use Rattle.std.specs.Prelude.{nat_lt, ◌==◌}
use Rattle.std.specs.List.{find}
use Rattle.std.specs.List.Sorted.{IsStrictlySortedBy}
use Rattle.std.specs.Ordering.{nat_cmp, match_ordering, ordering_then, is_eq}
use Rattle.std.specs.declared.cmp.Ordering.{Ordering}
use Rattle.std.specs.declared.cmp.Ordering.TheVariants.{Less, Equal, Greater}
use Rattle.std.specs.BTreeSet.{insert_key}
use Rattle.std.specs.BTreeMap.{is_at}
use Rattle.std.specs.Set.{remove_key}
use Rattle.std.proofs.lemmas.Bool.{ltb-true, eqb-true, le-ltb, eq-eqb}
use Rattle.std.proofs.lemmas.Map.Keys.{sorted_head, sorted_tail}
use Rattle.std.proofs.lemmas.List.Elements.{All-from_recursion, All-contains}
use Rattle.hz_sched.specs.Pending.{Key, key_cmp}
use Rattle.hz_base_model.proofs.Elements.{Contains-nil, Contains-head, Contains-tail, Contains-cons_cases}

module _ {K : Type 0} (cmp : K → K → Ordering) where
  pub insert_old : (ks : List K) (k x : K) → Contains ks x → Contains (insert_key cmp ks k) x
  insert_old [] k x h = absurd (Contains-nil x h)
  insert_old (y ∷ ks) k x h = go (cmp k y) (insert_old ks k x)
    where
      go : (o : Ordering) → (Contains ks x → Contains (insert_key cmp ks k) x) → Contains (match_ordering o (k ∷ y ∷ ks) (y ∷ ks) (y ∷ insert_key cmp ks k)) x
      go Less rest = Contains-tail k x (y ∷ ks) h
      go Equal rest = h
      go Greater rest = ⊎_elim
          (λ (e : y ≡ x). subst (Contains (y ∷ insert_key cmp ks k)) e (Contains-head y (insert_key cmp ks k)))
          (λ (m : Contains ks x). Contains-tail y x (insert_key cmp ks k) (rest m))
          (Contains-cons_cases y x ks h)

  pub insert_only : (ks : List K) (k x : K) → Contains (insert_key cmp ks k) x → (k ≡ x) ⊎ Contains ks x
  insert_only [] k x h = Contains-cons_cases k x [] h
  insert_only (y ∷ ks) k x h = go (cmp k y) h (insert_only ks k x)
    where
      go : (o : Ordering) → Contains (match_ordering o (k ∷ y ∷ ks) (y ∷ ks) (y ∷ insert_key cmp ks k)) x → (Contains (insert_key cmp ks k) x → (k ≡ x) ⊎ Contains ks x) → (k ≡ x) ⊎ Contains (y ∷ ks) x
      go Less h rest = Contains-cons_cases k x (y ∷ ks) h
      go Equal h rest = inr h
      go Greater h rest = ⊎_elim
          (λ (e : y ≡ x). inr (subst (Contains (y ∷ ks)) e (Contains-head y ks)))
          (λ (m : Contains (insert_key cmp ks k) x). ⊎_elim (λ (e : k ≡ x). inl e) (λ (n : Contains ks x). inr (Contains-tail y x ks n)) (rest m))
          (Contains-cons_cases y x (insert_key cmp ks k) h)

  pub remove_only : (test : K → Bool) (ks : List K) (x : K) → Contains (remove_key test ks) x → Contains ks x
  remove_only test [] x h = h
  remove_only test (y ∷ ks) x h = go (test y) h (remove_only test ks x)
    where
      go : (b : Bool) → Contains (cond b ks (y ∷ remove_key test ks)) x → (Contains (remove_key test ks) x → Contains ks x) → Contains (y ∷ ks) x
      go true h rest = Contains-tail y x ks h
      go false h rest = ⊎_elim
          (λ (e : y ≡ x). subst (Contains (y ∷ ks)) e (Contains-head y ks))
          (λ (m : Contains (remove_key test ks) x). Contains-tail y x ks (rest m))
          (Contains-cons_cases y x (remove_key test ks) h)

  pub remove_old : (test : K → Bool) (ks : List K) (x : K) → test x ≡ false → Contains ks x → Contains (remove_key test ks) x
  remove_old test [] x other h = h
  remove_old test (y ∷ ks) x other h = go (test y) refl (remove_old test ks x other)
    where
      go : (b : Bool) → test y ≡ b → (Contains ks x → Contains (remove_key test ks) x) → Contains (cond b ks (y ∷ remove_key test ks)) x
      go true at rest = ⊎_elim
          (λ (e : y ≡ x). let same = ap test e in absurd (cc))
          (λ (m : Contains ks x). m)
          (Contains-cons_cases y x ks h)
      go false at rest = ⊎_elim
          (λ (e : y ≡ x). subst (Contains (y ∷ remove_key test ks)) e (Contains-head y (remove_key test ks)))
          (λ (m : Contains ks x). Contains-tail y x (remove_key test ks) (rest m))
          (Contains-cons_cases y x ks h)

  module _ (exact : (x y : K) → cmp x y ≡ Equal → x ≡ y) (same : (x : K) → cmp x x ≡ Equal) where
    pub insert_new : (ks : List K) (k : K) → Contains (insert_key cmp ks k) k
    insert_new [] k = Contains-head k []
    insert_new (y ∷ ks) k = go (cmp k y) refl (insert_new ks k)
      where
        go : (o : Ordering) → cmp k y ≡ o → Contains (insert_key cmp ks k) k → Contains (match_ordering o (k ∷ y ∷ ks) (y ∷ ks) (y ∷ insert_key cmp ks k)) k
        go Less e rest = Contains-head k (y ∷ ks)
        go Equal e rest = subst (λ (z : K). Contains (z ∷ ks) k) (exact k y e) (Contains-head k ks)
        go Greater e rest = Contains-tail y k (insert_key cmp ks k) rest

    pub after_head : (k x : K) (ks : List K) → IsStrictlySortedBy cmp (k ∷ ks) → Contains ks x → cmp k x ≡ Less
    after_head k x ks sorted h = All-contains (λ y. cmp k y ≡ Less) ks x (All-from_recursion (λ y. cmp k y ≡ Less) ks (sorted_head cmp k ks sorted)) h

    pub remove_gone : (ks : List K) (k : K) → IsStrictlySortedBy cmp ks → Contains (remove_key (is_at (cmp k)) ks) k → ⊥
    remove_gone [] k sorted h = Contains-nil k h
    remove_gone (y ∷ ks) k sorted h = go (cmp k y) refl h (remove_gone ks k (sorted_tail cmp y ks sorted))
      where
        other : (cmp k y ≡ Equal → ⊥) → Contains (y ∷ remove_key (is_at (cmp k)) ks) k → (Contains (remove_key (is_at (cmp k)) ks) k → ⊥) → ⊥
        other ne h rest = ⊎_elim
            (λ (e : y ≡ k). ne (ap (cmp k) e ∙ same k))
            (λ (m : Contains (remove_key (is_at (cmp k)) ks) k). rest m)
            (Contains-cons_cases y k (remove_key (is_at (cmp k)) ks) h)

        go : (o : Ordering) → cmp k y ≡ o → Contains (cond (is_eq o) ks (y ∷ remove_key (is_at (cmp k)) ks)) k → (Contains (remove_key (is_at (cmp k)) ks) k → ⊥) → ⊥
        go Equal e h rest =
            let is : k ≡ y = exact k y e in
            let less = after_head y k ks sorted h in
            let equal : cmp y k ≡ Equal = ap (cmp y) is ∙ same y in
            absurd (cc)
        go Less e h rest = other (λ (f : cmp k y ≡ Equal). absurd (cc)) h rest
        go Greater e h rest = other (λ (f : cmp k y ≡ Equal). absurd (cc)) h rest

    pub found_first : (p : K → Bool) (ks : List K) (k : K) → IsStrictlySortedBy cmp ks → find p ks ≡ Some k → (x : K) → Contains ks x → p x ≡ true → (k ≡ x) ⊎ (cmp k x ≡ Less)
    found_first p [] k sorted e x h passes = absurd (cc)
    found_first p (y ∷ ks) k sorted e x h passes = go (p y) refl e (found_first p ks k (sorted_tail cmp y ks sorted))
      where
        go : (b : Bool) → p y ≡ b → cond b (Some y) (find p ks) ≡ Some k → (find p ks ≡ Some k → (x : K) → Contains ks x → p x ≡ true → (k ≡ x) ⊎ (cmp k x ≡ Less)) → (k ≡ x) ⊎ (cmp k x ≡ Less)
        go true at e rest =
            let is : y ≡ k = cc in
            ⊎_elim
            (λ (f : y ≡ x). inl (sym is ∙ f))
            (λ (m : Contains ks x). inr (subst (λ (z : K). cmp z x ≡ Less) is (after_head y x ks sorted m)))
            (Contains-cons_cases y x ks h)
        go false at e rest = ⊎_elim
            (λ (f : y ≡ x). let fails = ap p f in absurd (cc))
            (λ (m : Contains ks x). rest e x m passes)
            (Contains-cons_cases y x ks h)

module _ {K : Type 0} (p : K → Bool) where
  pub found_passes : (ks : List K) (k : K) → find p ks ≡ Some k → Contains ks k × (p k ≡ true)
  found_passes [] k e = absurd (cc)
  found_passes (y ∷ ks) k e = go (p y) refl e (found_passes ks k)
    where
      go : (b : Bool) → p y ≡ b → cond b (Some y) (find p ks) ≡ Some k → (find p ks ≡ Some k → Contains ks k × (p k ≡ true)) → Contains (y ∷ ks) k × (p k ≡ true)
      go true at e rest = let is : y ≡ k = cc in (subst (Contains (y ∷ ks)) is (Contains-head y ks), subst (λ (z : K). p z ≡ true) is at)
      go false at e rest = let (m, passes) = rest e in (Contains-tail y k ks m, passes)

  pub none_passes : (ks : List K) → find p ks ≡ None → (x : K) → Contains ks x → p x ≡ true → ⊥
  none_passes [] e x h passes = Contains-nil x h
  none_passes (y ∷ ks) e x h passes = go (p y) refl e (none_passes ks)
    where
      go : (b : Bool) → p y ≡ b → cond b (Some y) (find p ks) ≡ None → (find p ks ≡ None → (x : K) → Contains ks x → p x ≡ true → ⊥) → ⊥
      go true at e rest = cc
      go false at e rest = ⊎_elim
          (λ (f : y ≡ x). let fails = ap p f in absurd (cc))
          (λ (m : Contains ks x). rest e x m passes)
          (Contains-cons_cases y x ks h)

-- ---- numbers

pub equal_numbers : (a b : ℕ) → nat_cmp a b ≡ Equal → a ≡ b
equal_numbers a b e = go (nat_lt a b) (a == b) refl e
  where
    go : (l d : Bool) → (a == b) ≡ d → cond l Less (cond d Equal Greater) ≡ Equal → a ≡ b
    go true d h e = absurd (cc)
    go false true h e = eqb-true a b h
    go false false h e = absurd (cc)

pub less_numbers : (a b : ℕ) → nat_cmp a b ≡ Less → a < b
less_numbers a b e = go (nat_lt a b) refl (a == b) e
  where
    go : (l : Bool) → nat_lt a b ≡ l → (d : Bool) → cond l Less (cond d Equal Greater) ≡ Less → a < b
    go true h d e = ltb-true a b h
    go false h true e = absurd (cc)
    go false h false e = absurd (cc)

pub same_number : (a : ℕ) → nat_cmp a a ≡ Equal
same_number a = go (nat_lt a a) (le-ltb a a (omega arith)) (a == a) (eq-eqb a a refl)
  where
    go : (l : Bool) → l ≡ false → (d : Bool) → d ≡ true → cond l Less (cond d Equal Greater) ≡ Equal
    go false h true k = refl
    go true h d k = absurd (cc)
    go false h false k = absurd (cc)

-- ---- heights and places

pub exact_key : (x y : Key) → key_cmp x y ≡ Equal → x ≡ y
exact_key x y e = go (nat_cmp (y.0).0 (x.0).0) refl e
  where
    go : (o : Ordering) → nat_cmp (y.0).0 (x.0).0 ≡ o → ordering_then o (nat_cmp x.1 y.1) ≡ Equal → x ≡ y
    go Equal h e =
        let heights = equal_numbers (y.0).0 (x.0).0 h in
        let spots = equal_numbers x.1 y.1 e in
        λ i. (record { 0 = sym heights i }, spots i)
    go Less h e = absurd (cc)
    go Greater h e = absurd (cc)

pub same_key : (x : Key) → key_cmp x x ≡ Equal
same_key x = ap (λ (o : Ordering). ordering_then o (nat_cmp x.1 x.1)) (same_number (x.0).0) ∙ same_number x.1

pub less_key : (x y : Key) → key_cmp x y ≡ Less → ((y.0).0 < (x.0).0) ⊎ (((x.0).0 ≡ (y.0).0) × (x.1 < y.1))
less_key x y e = go (nat_cmp (y.0).0 (x.0).0) refl e
  where
    go : (o : Ordering) → nat_cmp (y.0).0 (x.0).0 ≡ o → ordering_then o (nat_cmp x.1 y.1) ≡ Less → ((y.0).0 < (x.0).0) ⊎ (((x.0).0 ≡ (y.0).0) × (x.1 < y.1))
    go Less h e = inl (less_numbers (y.0).0 (x.0).0 h)
    go Equal h e = inr (sym (equal_numbers (y.0).0 (x.0).0 h), less_numbers x.1 y.1 e)
    go Greater h e = absurd (cc)
