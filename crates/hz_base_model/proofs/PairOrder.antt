-- The order of pairs, and pairs in it, over any order of units.
use Rattle.std.proofs.Common.{Ordering, ◌≡◌, ℕ, ◌+◌, ◌<◌, ◌⊎◌, inl, inr, ⊎_elim, true, false, cond, IsTrue, nat_eq, List, [], ◌∷◌, All, Contains, refl, sym, ap, ◌∙◌, subst, arith, eq-eqb}
use Rattle.std.specs.Bool.{Decides}
use Rattle.std.specs.FinMap.{IsAntisymmetric, nat_cmp-IsAntisymmetric, slice_cmp-IsAntisymmetric}
use Rattle.std.specs.Cmp.{IsTotalOrder, nat_cmp_is}
use Rattle.std.specs.Cmp.Lexicographic.{lists_total}
use Rattle.std.specs.Ordering.{nat_cmp, is_lt, ordering_then, ordering_reverse}
use Rattle.std.specs.declared.cmp.Ordering.TheVariants.{Less, Equal, Greater}
use Rattle.std.proofs.lemmas.Bool.{cond_both, and_parts, and_from, eqb-true}
use Rattle.std.proofs.lemmas.Cmp.{nat_cmp_total, on_total, then_total, ranked, tied_itself}
use Rattle.std.proofs.lemmas.List.Elements.{All-contains, All-head, All-nil, All-cons, Contains-get_or}
use Rattle.std.proofs.lemmas.List.Kept.{AllPairs-cons}
use Rattle.std.proofs.lemmas.Slice.Eq.{slice_eq-Decides}
use Rattle.hz_base_model.specs.Pairs.{Pair, SamePairs, later, pair_cmp, precedes_by, IsAscendingBy, with_pair_by, ascending_by, same_pair, grid_eq, grid_cmp}
use Rattle.hz_base_model.proofs.Elements.{Contains-nil, Contains-head, Contains-tail, Contains-cons_cases}
use Rattle.hz_base_model.proofs.Ascending.{AllPairs-head, AllPairs-tail, same_from_ascending}

pub is_less : (o : Ordering) → is_lt o ≡ true → o ≡ Less
is_less Less h = refl
is_less Equal h = cc
is_less Greater h = cc

-- ---- over any order of units that is total and tells all units apart

module _ {U : Type 0} (unit_cmp : U → U → Ordering) (total : IsTotalOrder unit_cmp) (exact : IsAntisymmetric unit_cmp) where
  abbrev Precedes : Pair U → Pair U → Type 0
  Precedes p q = IsTrue (precedes_by unit_cmp p q)

  pub pair_total : IsTotalOrder (pair_cmp unit_cmp)
  pair_total = then_total (on_total (λ (p : Pair U). p.cycle) nat_cmp_total) (on_total (λ (p : Pair U). p.unit) total)

  same_from : (p q : Pair U) (r s : Ordering) → nat_cmp p.cycle q.cycle ≡ r → unit_cmp p.unit q.unit ≡ s → ordering_then r s ≡ Equal → p ≡ q
  same_from p q Less s e f h = cc
  same_from p q Greater s e f h = cc
  same_from p q Equal s e f h =
      let cycles = nat_cmp-IsAntisymmetric p.cycle q.cycle e in
      let units = exact p.unit q.unit (f ∙ h) in
      λ i. record { unit = units i; cycle = cycles i }

  pub pair_exact : IsAntisymmetric (pair_cmp unit_cmp)
  pair_exact p q h = same_from p q (nat_cmp p.cycle q.cycle) (unit_cmp p.unit q.unit) refl refl h

  pub less_precedes : (p q : Pair U) → pair_cmp unit_cmp p q ≡ Less → Precedes p q
  less_precedes p q h = ap is_lt h

  pub precedes_less : (p q : Pair U) → Precedes p q → pair_cmp unit_cmp p q ≡ Less
  precedes_less p q h = is_less (pair_cmp unit_cmp p q) h

  pub Precedes_transitive : (p q r : Pair U) → Precedes p q → Precedes q r → Precedes p r
  Precedes_transitive p q r h k = ap is_lt (pair_total.trans p q r (precedes_less p q h) (precedes_less q r k))

  pub Precedes_asymmetric : (p q : Pair U) → Precedes p q → Precedes q p → ⊥
  Precedes_asymmetric p q h k =
      let itself = pair_total.trans p q p (precedes_less p q h) (precedes_less q p k) in
      let tied = tied_itself pair_total p in
      cc

  -- of two pairs one stands before the other, or they are the same
  pub one_precedes : (p q : Pair U) → Precedes p q ⊎ ((p ≡ q) ⊎ Precedes q p)
  one_precedes p q = by_order (pair_cmp unit_cmp p q) refl
    where
      by_order : (o : Ordering) → pair_cmp unit_cmp p q ≡ o → Precedes p q ⊎ ((p ≡ q) ⊎ Precedes q p)
      by_order Less e = inl (less_precedes p q e)
      by_order Equal e = inr (inl (pair_exact p q e))
      by_order Greater e = inr (inr (less_precedes q p (pair_total.antisymm q p ∙ ap ordering_reverse e)))

  pub same_from_neither : (p q : Pair U) → precedes_by unit_cmp p q ≡ false → precedes_by unit_cmp q p ≡ false → p ≡ q
  same_from_neither p q h k = ⊎_elim (λ (lt : Precedes p q). absurd cc) (⊎_elim (λ (e : p ≡ q). e) (λ (gt : Precedes q p). absurd cc)) (one_precedes p q)

  pub Precedes-earlier : (p q : Pair U) → p.cycle < q.cycle → Precedes p q
  Precedes-earlier p q h = ap (λ r. is_lt (ordering_then r (unit_cmp p.unit q.unit))) (sym (nat_cmp_is p.cycle q.cycle Less h))

  same_shifted : (n a b : ℕ) → nat_cmp (n + a) (n + b) ≡ nat_cmp a b
  same_shifted n a b = by_order (nat_cmp a b) refl
    where
      by_order : (o : Ordering) → nat_cmp a b ≡ o → nat_cmp (n + a) (n + b) ≡ o
      by_order Less e = sym (nat_cmp_is (n + a) (n + b) Less (let lt = ranked a b Less (sym e) in omega (arith, lt)))
      by_order Equal e = sym (nat_cmp_is (n + a) (n + b) Equal (ap (λ c. n + c) (ranked a b Equal (sym e))))
      by_order Greater e = sym (nat_cmp_is (n + a) (n + b) Greater (let gt = ranked a b Greater (sym e) in omega (arith, gt)))

  pub Precedes-later : (n : ℕ) (p q : Pair U) → Precedes p q → Precedes (later n p) (later n q)
  Precedes-later n p q h = ap (λ r. is_lt (ordering_then r (unit_cmp p.unit q.unit))) (same_shifted n p.cycle q.cycle) ∙ h

  -- ---- a pair joins pairs

  -- what a pair that joins a list makes of it: it goes first, or after the first, or is there already
  pub with_pair_cases : (p q : Pair U) (qs : List (Pair U)) (P : List (Pair U) → Type 0) → (Precedes p q → P (p ∷ q ∷ qs)) → (Precedes q p → P (q ∷ with_pair_by unit_cmp p qs)) → (p ≡ q → P (q ∷ qs)) → P (with_pair_by unit_cmp p (q ∷ qs))
  with_pair_cases p q qs P first beyond there =
      cond_both (precedes_by unit_cmp p q) (p ∷ q ∷ qs) (cond (precedes_by unit_cmp q p) (q ∷ with_pair_by unit_cmp p qs) (q ∷ qs)) P first
      (λ no. cond_both (precedes_by unit_cmp q p) (q ∷ with_pair_by unit_cmp p qs) (q ∷ qs) P beyond (λ none. there (same_from_neither p q no none)))

  pub Contains-with_pair : (p : Pair U) (qs : List (Pair U)) → Contains (with_pair_by unit_cmp p qs) p
  Contains-with_pair p [] = Contains-head p []
  Contains-with_pair p (q ∷ qs) =
      with_pair_cases p q qs (λ xs. Contains xs p)
      (λ _. Contains-head p (q ∷ qs))
      (λ _. Contains-tail q p (with_pair_by unit_cmp p qs) (Contains-with_pair p qs))
      (λ e. subst (λ (x : Pair U). Contains (x ∷ qs) p) e (Contains-head p qs))

  pub Contains-with_pair_others : (p x : Pair U) (qs : List (Pair U)) → Contains qs x → Contains (with_pair_by unit_cmp p qs) x
  Contains-with_pair_others p x [] h = absurd (Contains-nil x h)
  Contains-with_pair_others p x (q ∷ qs) h =
      with_pair_cases p q qs (λ xs. Contains xs x)
      (λ _. Contains-tail p x (q ∷ qs) h)
      (λ _. ⊎_elim
      (λ (e : q ≡ x). subst (λ (y : Pair U). Contains (y ∷ with_pair_by unit_cmp p qs) x) (sym e) (Contains-head x (with_pair_by unit_cmp p qs)))
      (λ (k : Contains qs x). Contains-tail q x (with_pair_by unit_cmp p qs) (Contains-with_pair_others p x qs k))
      (Contains-cons_cases q x qs h))
      (λ _. h)

  pub Contains-from_with_pair : (p x : Pair U) (qs : List (Pair U)) → Contains (with_pair_by unit_cmp p qs) x → (p ≡ x) ⊎ Contains qs x
  Contains-from_with_pair p x [] = Contains-cons_cases p x []
  Contains-from_with_pair p x (q ∷ qs) =
      with_pair_cases p q qs (λ xs. Contains xs x → (p ≡ x) ⊎ Contains (q ∷ qs) x)
      (λ _ h. Contains-cons_cases p x (q ∷ qs) h)
      (λ _ h. ⊎_elim
      (λ (e : q ≡ x). inr (subst (λ (y : Pair U). Contains (y ∷ qs) x) (sym e) (Contains-head x qs)))
      (λ (k : Contains (with_pair_by unit_cmp p qs) x). ⊎_elim (λ (e : p ≡ x). inl e) (λ (m : Contains qs x). inr (Contains-tail q x qs m)) (Contains-from_with_pair p x qs k))
      (Contains-cons_cases q x (with_pair_by unit_cmp p qs) h))
      (λ _ h. inr h)

  All-from_contains : (P : Pair U → Type 0) (qs : List (Pair U)) → ((x : Pair U) → Contains qs x → P x) → All P qs
  All-from_contains P qs each k d within = each _ (Contains-get_or qs k d within)

  IsAscending-with_pair : (p : Pair U) (qs : List (Pair U)) → IsAscendingBy unit_cmp qs → IsAscendingBy unit_cmp (with_pair_by unit_cmp p qs)
  IsAscending-with_pair p [] up = AllPairs-cons Precedes p [] (All-nil (Precedes p)) up
  IsAscending-with_pair p (q ∷ qs) up =
      let above = AllPairs-head Precedes q qs up in
      with_pair_cases p q qs (λ xs. IsAscendingBy unit_cmp xs)
      (λ lt. AllPairs-cons Precedes p (q ∷ qs) (All-cons (Precedes p) q qs lt (All-from_contains (Precedes p) qs (λ x m. Precedes_transitive p q x lt (All-contains (Precedes q) qs x above m)))) up)
      (λ lt. AllPairs-cons Precedes q (with_pair_by unit_cmp p qs)
      (All-from_contains (Precedes q) (with_pair_by unit_cmp p qs) (λ x m. ⊎_elim
      (λ (e : p ≡ x). subst (λ (y : Pair U). Precedes q y) e lt)
      (λ (n : Contains qs x). All-contains (Precedes q) qs x above n)
      (Contains-from_with_pair p x qs m)))
      (IsAscending-with_pair p qs (AllPairs-tail Precedes q qs up)))
      (λ _. up)

  -- a pair that stands before all others goes first
  pub with_pair_least : (p : Pair U) (qs : List (Pair U)) → All (Precedes p) qs → with_pair_by unit_cmp p qs ≡ p ∷ qs
  with_pair_least p [] below = refl
  with_pair_least p (q ∷ qs) below =
      let lt : precedes_by unit_cmp p q ≡ true = All-head (Precedes p) q qs below in
      ap (λ b. cond b (p ∷ q ∷ qs) (cond (precedes_by unit_cmp q p) (q ∷ with_pair_by unit_cmp p qs) (q ∷ qs))) lt

  -- ---- all pairs

  pub IsAscending-nil : IsAscendingBy unit_cmp []
  IsAscending-nil = λ i j d lt within. absurd (omega arith)

  pub IsAscending-ascending : (ps : List (Pair U)) → IsAscendingBy unit_cmp (ascending_by unit_cmp ps)
  IsAscending-ascending [] = IsAscending-nil
  IsAscending-ascending (p ∷ ps) = IsAscending-with_pair p (ascending_by unit_cmp ps) (IsAscending-ascending ps)

  pub Contains-ascending : (x : Pair U) (ps : List (Pair U)) → Contains ps x → Contains (ascending_by unit_cmp ps) x
  Contains-ascending x [] h = h
  Contains-ascending x (p ∷ ps) h = ⊎_elim
      (λ (e : p ≡ x). subst (λ (y : Pair U). Contains (with_pair_by unit_cmp p (ascending_by unit_cmp ps)) y) e (Contains-with_pair p (ascending_by unit_cmp ps)))
      (λ (k : Contains ps x). Contains-with_pair_others p x (ascending_by unit_cmp ps) (Contains-ascending x ps k))
      (Contains-cons_cases p x ps h)

  pub Contains-from_ascending : (x : Pair U) (ps : List (Pair U)) → Contains (ascending_by unit_cmp ps) x → Contains ps x
  Contains-from_ascending x [] h = h
  Contains-from_ascending x (p ∷ ps) h = ⊎_elim
      (λ (e : p ≡ x). subst (λ (y : Pair U). Contains (y ∷ ps) x) (sym e) (Contains-head x ps))
      (λ (k : Contains (ascending_by unit_cmp ps) x). Contains-tail p x ps (Contains-from_ascending x ps k))
      (Contains-from_with_pair p x (ascending_by unit_cmp ps) h)

  pub same_ascending : (ps : List (Pair U)) → SamePairs (ascending_by unit_cmp ps) ps
  same_ascending ps = λ x. (Contains-from_ascending x ps, Contains-ascending x ps)

  -- lists that ascend and have the same pairs are equal
  pub ascending_one : (xs ys : List (Pair U)) → IsAscendingBy unit_cmp xs → IsAscendingBy unit_cmp ys → SamePairs xs ys → xs ≡ ys
  ascending_one xs ys up up' same = same_from_ascending Precedes Precedes_asymmetric xs ys up up' (λ p. (same p).0) (λ p. (same p).1)

  -- a list that ascends and has the same pairs is the ascending list
  pub ascending_is : (ps qs : List (Pair U)) → IsAscendingBy unit_cmp qs → SamePairs qs ps → ascending_by unit_cmp ps ≡ qs
  ascending_is ps qs up same =
      ascending_one (ascending_by unit_cmp ps) qs (IsAscending-ascending ps) up
      (λ x. (λ m. (same x).1 (Contains-from_ascending x ps m), λ m. Contains-ascending x ps ((same x).0 m)))

  pub ascending_same : (ps qs : List (Pair U)) → SamePairs ps qs → ascending_by unit_cmp ps ≡ ascending_by unit_cmp qs
  ascending_same ps qs same =
      ascending_is ps (ascending_by unit_cmp qs) (IsAscending-ascending qs)
      (λ x. (λ m. (same x).1 (Contains-from_ascending x qs m), λ m. Contains-ascending x qs ((same x).0 m)))

  pub ascending_itself : (ps : List (Pair U)) → IsAscendingBy unit_cmp ps → ascending_by unit_cmp ps ≡ ps
  ascending_itself ps up = ascending_is ps ps up (λ x. (λ m. m, λ m. m))

-- ---- units of one automaton

pub precedes_parts : (p q : Pair ℕ) → IsTrue (precedes_by nat_cmp p q) → (p.cycle < q.cycle) ⊎ ((p.cycle ≡ q.cycle) × (p.unit < q.unit))
precedes_parts p q h = parts (nat_cmp p.cycle q.cycle) (nat_cmp p.unit q.unit) refl refl h
  where
    parts : (r s : Ordering) → r ≡ nat_cmp p.cycle q.cycle → s ≡ nat_cmp p.unit q.unit → is_lt (ordering_then r s) ≡ true → (p.cycle < q.cycle) ⊎ ((p.cycle ≡ q.cycle) × (p.unit < q.unit))
    parts Less s e f k = inl (ranked p.cycle q.cycle Less e)
    parts Equal Less e f k = inr (ranked p.cycle q.cycle Equal e, ranked p.unit q.unit Less f)
    parts Equal Equal e f k = cc
    parts Equal Greater e f k = cc
    parts Greater s e f k = cc

pub lower_unit : (p q : Pair ℕ) → p.cycle ≡ q.cycle → p.unit < q.unit → IsTrue (precedes_by nat_cmp p q)
lower_unit p q same lt =
    let cycles : Equal ≡ nat_cmp p.cycle q.cycle = nat_cmp_is p.cycle q.cycle Equal same in
    let units : Less ≡ nat_cmp p.unit q.unit = nat_cmp_is p.unit q.unit Less lt in
    ap (λ r. is_lt (ordering_then r (nat_cmp p.unit q.unit))) (sym cycles) ∙ ap is_lt (sym units)

pub precedes_from : (p q : Pair ℕ) → (p.cycle < q.cycle) ⊎ ((p.cycle ≡ q.cycle) × (p.unit < q.unit)) → IsTrue (precedes_by nat_cmp p q)
precedes_from p q (inl lt) = Precedes-earlier nat_cmp nat_cmp_total nat_cmp-IsAntisymmetric p q lt
precedes_from p q (inr both) = lower_unit p q both.0 both.1

pub grid_total : IsTotalOrder grid_cmp
grid_total = lists_total (pair_total nat_cmp nat_cmp_total nat_cmp-IsAntisymmetric)

pub grid_exact : IsAntisymmetric grid_cmp
grid_exact = slice_cmp-IsAntisymmetric (pair_exact nat_cmp nat_cmp_total nat_cmp-IsAntisymmetric)

-- grids that ascend and have the same pairs are equal
pub grid_one : (xs ys : List (Pair ℕ)) → IsAscendingBy nat_cmp xs → IsAscendingBy nat_cmp ys → SamePairs xs ys → xs ≡ ys
grid_one = ascending_one nat_cmp nat_cmp_total nat_cmp-IsAntisymmetric

pub same_pair-Decides : (p q : Pair ℕ) → Decides (same_pair nat_eq p q) (p ≡ q)
same_pair-Decides p q = (
  λ t.
      let parts = and_parts _ _ t in
      let units = eqb-true p.unit q.unit parts.0 in
      let cycles = eqb-true p.cycle q.cycle parts.1 in
      λ i. record { unit = units i; cycle = cycles i },
  λ e. and_from _ _ (eq-eqb _ _ (ap (λ (r : Pair ℕ). r.unit) e)) (eq-eqb _ _ (ap (λ (r : Pair ℕ). r.cycle) e)),
)

pub grid_eq-Decides : (first second : List (Pair ℕ)) → Decides (grid_eq first second) (first ≡ second)
grid_eq-Decides first second = slice_eq-Decides same_pair-Decides first second _ refl
