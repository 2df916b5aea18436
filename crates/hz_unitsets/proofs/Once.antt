-- Patterns of which each stands once.
use Rattle.std.proofs.Common.{◌≡◌, ℕ, ◌↔◌, ◌⊎◌, inl, inr, ⊎_elim, Bool, true, false, List, [], ◌∷◌, ◌++◌, Contains, nat_eq, refl, sym, ap, subst, if◌then◌else◌}
use Rattle.std.specs.List.{list_any, fold}
use Rattle.std.specs.Cmp.Lexicographic.{pointwise, bytes_decides}
use Rattle.std.proofs.lemmas.List.Elements.{Contains-append_left, Contains-push, Contains-push_cases}
use Rattle.std.proofs.lemmas.List.Folds.{Any-from_list_any}
use Rattle.std.proofs.lemmas.List.Sums.{fold-append}
use Rattle.indexmap.specs.IndexSet.{insert_key}
use Rattle.hz_base_model.proofs.Elements.{Contains-nil, Contains-head, Contains-tail, Contains-cons_cases}
use Rattle.hz_description_model.specs.Reservations.Sets.{HoldsPattern}
use Rattle.hz_unitsets.specs.SetRules.{each_once}

abbrev pub same : List ℕ → List ℕ → Bool
same = pointwise nat_eq

insert_has : (keys : List (List ℕ)) (x p : List ℕ) → Contains (insert_key same keys x) p ↔ (Contains keys p ⊎ (x ≡ p))
insert_has keys x p = by (list_any (same x) keys) refl
  where
    by : (b : Bool) → list_any (same x) keys ≡ b → Contains (insert_key same keys x) p ↔ (Contains keys p ⊎ (x ≡ p))
    by true e =
        let stays : insert_key same keys x ≡ keys = ap (λ b. if b then keys else keys ++ x ∷ []) e in
        let found = Any-from_list_any (same x) keys e in
        let there : Contains keys x = subst (Contains keys) (sym ((bytes_decides x found.1).0 found.4)) (found.0, found.2, found.3) in (
          λ h. inl (subst (λ (ks : List (List ℕ)). Contains ks p) stays h),
          λ h. subst (λ (ks : List (List ℕ)). Contains ks p) (sym stays) (⊎_elim (λ k. k) (λ (i : x ≡ p). subst (Contains keys) i there) h),
        )
    by false e =
        let grows : insert_key same keys x ≡ keys ++ x ∷ [] = ap (λ b. if b then keys else keys ++ x ∷ []) e in (
          λ h. Contains-push_cases keys x p (subst (λ (ks : List (List ℕ)). Contains ks p) grows h),
          λ h. subst (λ (ks : List (List ℕ)). Contains ks p) (sym grows) (⊎_elim (λ k. Contains-append_left keys (x ∷ []) p k) (λ (i : x ≡ p). subst (Contains (keys ++ x ∷ [])) i (Contains-push keys x)) h),
        )

all_has : (keys xs : List (List ℕ)) (p : List ℕ) → Contains (fold (insert_key same) keys xs) p ↔ (Contains keys p ⊎ Contains xs p)
all_has keys [] p = (λ h. inl h, ⊎_elim (λ h. h) (λ n. absurd (Contains-nil p n)))
all_has keys (x ∷ xs) p =
    let rest = all_has (insert_key same keys x) xs p in
    let first = insert_has keys x p in (
      λ h. ⊎_elim
          (λ l. ⊎_elim (λ k. inl k) (λ (e : x ≡ p). inr (subst (Contains (x ∷ xs)) e (Contains-head x xs))) (first.0 l))
          (λ r. inr (Contains-tail x p xs r))
          (rest.0 h),
      ⊎_elim
          (λ k. rest.1 (inl (first.1 (inl k))))
          (λ c. ⊎_elim (λ (e : x ≡ p). rest.1 (inl (first.1 (inr e)))) (λ m. rest.1 (inr m)) (Contains-cons_cases x p xs c)),
    )

pub each_once_has : (patterns : List (List ℕ)) (p : List ℕ) → Contains (each_once patterns) p ↔ Contains patterns p
unfolding each_once
each_once_has patterns p =
    let all = all_has [] patterns p in
    (λ h. ⊎_elim (λ n. absurd (Contains-nil p n)) (λ c. c) (all.0 h), λ h. all.1 (inr h))

pub each_once-none : each_once [] ≡ []
unfolding each_once
each_once-none = refl

pub each_once-push : (patterns : List (List ℕ)) (p : List ℕ) → each_once (patterns ++ p ∷ []) ≡ insert_key same (each_once patterns) p
unfolding each_once
each_once-push patterns p = fold-append (insert_key same) [] patterns (p ∷ [])

pub pattern_once : (held : ℕ → Type 0) (patterns : List (List ℕ)) → HoldsPattern (each_once patterns) held ↔ HoldsPattern patterns held
pattern_once held patterns = (
  λ h. (h.0, (each_once_has patterns h.0).0 h.1, h.2),
  λ h. (h.0, (each_once_has patterns h.0).1 h.1, h.2),
)
