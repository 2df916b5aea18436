-- Which places are issued, and what is left.
use Rattle.std.proofs.Common.{◌≡◌, ◌≢◌, ℕ, zero, suc, ◌+◌, ◌<◌, ◌≤◌, ◌==◌, ◌⊎◌, inl, inr, Bool, true, false, cond, List, [], ◌∷◌, ◌++◌, Option, Some, None, is_some, Contains, refl, sym, ap, ◌∙◌, subst, arith}
use Rattle.std.proofs.Math.Path.{fun_ext}
use Rattle.std.proofs.lemmas.Bool.{eqb-true, eqb-false, eq-eqb, ne_eqb}
use Rattle.hz_base_model.proofs.Elements.{Contains-nil, Contains-head, Contains-tail, Contains-cons_cases}
use Rattle.hz_block_model.specs.Scheduling.Schedules.{Slot, places}
use Rattle.hz_sched.specs.Waits.{issued_at, and_issued}
use Rattle.hz_sched.specs.Standing.{left_below}

-- ---- issued places

pub issued_none : (slots : List Slot) (j : ℕ) → (Contains (places slots) j → ⊥) → issued_at slots j ≡ None
issued_none [] j left = refl
issued_none (x ∷ slots) j left = go (x.place == j) refl (issued_none slots j (λ h. left (Contains-tail x.place j (places slots) h)))
  where
    go : (b : Bool) → (x.place == j) ≡ b → issued_at slots j ≡ None → cond b (Some x.cycle) (issued_at slots j) ≡ None
    go true same rest = absurd (left (subst (Contains (x.place ∷ places slots)) (eqb-true x.place j same) (Contains-head x.place (places slots))))
    go false other rest = rest

pub none_issued : (slots : List Slot) (j : ℕ) → issued_at slots j ≡ None → Contains (places slots) j → ⊥
none_issued [] j e h = Contains-nil j h
none_issued (x ∷ slots) j e h = go (x.place == j) refl e (none_issued slots j) (Contains-cons_cases x.place j (places slots) h)
  where
    go : (b : Bool) → (x.place == j) ≡ b → cond b (Some x.cycle) (issued_at slots j) ≡ None → (issued_at slots j ≡ None → Contains (places slots) j → ⊥) → (x.place ≡ j) ⊎ Contains (places slots) j → ⊥
    go true same e rest c = cc
    go false other e rest (inl same) = eqb-false x.place j other same
    go false other e rest (inr h) = rest e h

-- the slot of an issue
pub slot_of_issue : (slots : List Slot) (j cycle : ℕ) → issued_at slots j ≡ Some cycle → (x : Slot) × Contains slots x × (x.place ≡ j) × (x.cycle ≡ cycle)
slot_of_issue [] j cycle e = absurd (cc)
slot_of_issue (x ∷ slots) j cycle e = go (x.place == j) refl e (slot_of_issue slots j cycle)
  where
    go : (b : Bool) → (x.place == j) ≡ b → cond b (Some x.cycle) (issued_at slots j) ≡ Some cycle → (issued_at slots j ≡ Some cycle → (y : Slot) × Contains slots y × (y.place ≡ j) × (y.cycle ≡ cycle)) → (y : Slot) × Contains (x ∷ slots) y × (y.place ≡ j) × (y.cycle ≡ cycle)
    go true same e rest = (x, Contains-head x slots, eqb-true x.place j same, (let h : x.cycle ≡ cycle = cc in h))
    go false other e rest = let (y, there, place, at) = rest e in (y, Contains-tail x y slots there, place, at)

flip : (a b : ℕ) → (a == b) ≡ (b == a)
flip a b = go (b == a) refl
  where
    go : (t : Bool) → (b == a) ≡ t → (a == b) ≡ t
    go true h = eq-eqb a b (sym (eqb-true b a h))
    go false h = ne_eqb a b (λ (e : a ≡ b). eqb-false b a h (sym e))

issued_push : (slots : List Slot) (y : Slot) → issued_at slots y.place ≡ None → (j : ℕ) → issued_at (slots ++ y ∷ []) j ≡ and_issued (issued_at slots) y.place y.cycle j
issued_push [] y none j = ap (λ (b : Bool). cond b (Some y.cycle) None) (flip y.place j)
issued_push (x ∷ slots) y none j = go (x.place == j) refl (x.place == y.place) refl none (λ h. issued_push slots y h j)
  where
    go : (b : Bool) → (x.place == j) ≡ b → (d : Bool) → (x.place == y.place) ≡ d → cond d (Some x.cycle) (issued_at slots y.place) ≡ None → (issued_at slots y.place ≡ None → issued_at (slots ++ y ∷ []) j ≡ and_issued (issued_at slots) y.place y.cycle j)
        → cond b (Some x.cycle) (issued_at (slots ++ y ∷ []) j) ≡ cond (j == y.place) (Some y.cycle) (cond b (Some x.cycle) (issued_at slots j))
    go b h true k none rest = absurd (cc)
    go true h false k none rest =
        let other : (j == y.place) ≡ false = ne_eqb j y.place (λ (e : j ≡ y.place). eqb-false x.place y.place k (eqb-true x.place j h ∙ e)) in
        rw other refl
    go false h false k none rest = rest none

-- the places after one more issue
pub issued-push : (slots : List Slot) (y : Slot) → issued_at slots y.place ≡ None → issued_at (slots ++ y ∷ []) ≡ and_issued (issued_at slots) y.place y.cycle
issued-push slots y none = fun_ext (issued_push slots y none)

pub same_issued : (at : ℕ → Option ℕ) (i cycle : ℕ) → and_issued at i cycle i ≡ Some cycle
same_issued at i cycle = ap (λ (b : Bool). cond b (Some cycle) (at i)) (eq-eqb i i refl)

pub other_issued : (at : ℕ → Option ℕ) (i cycle j : ℕ) → j ≢ i → and_issued at i cycle j ≡ at j
other_issued at i cycle j ne = ap (λ (b : Bool). cond b (Some cycle) (at j)) (ne_eqb j i ne)

-- ---- what is left

left_same : (at : ℕ → Option ℕ) (i cycle n : ℕ) → n ≤ i → left_below (and_issued at i cycle) n ≡ left_below at n
left_same at i cycle zero le = refl
left_same at i cycle (suc n) le =
    let ne : n ≢ i = λ (e : n ≡ i). omega arith in
    ap (λ (o : Option ℕ). cond (is_some o) 0 1 + left_below (and_issued at i cycle) n) (other_issued at i cycle n ne)
    ∙ ap (λ (k : ℕ). cond (is_some (at n)) 0 1 + k) (left_same at i cycle n (omega arith))

-- one fewer is left after an issue
pub left_less : (at : ℕ → Option ℕ) (i cycle n : ℕ) → i < n → at i ≡ None → left_below at n ≡ suc (left_below (and_issued at i cycle) n)
left_less at i cycle zero lt none = absurd (omega arith)
left_less at i cycle (suc n) lt none = go (n == i) refl (λ h. left_less at i cycle n h none)
  where
    go : (b : Bool) → (n == i) ≡ b → (i < n → left_below at n ≡ suc (left_below (and_issued at i cycle) n)) → left_below at (suc n) ≡ suc (left_below (and_issued at i cycle) (suc n))
    go true h rest =
        let same : n ≡ i = eqb-true n i h in
        let was : at n ≡ None = ap at same ∙ none in
        let now : and_issued at i cycle n ≡ Some cycle = ap (and_issued at i cycle) same ∙ same_issued at i cycle in
        let below = left_same at i cycle n (omega arith) in
        let one = ap (λ (o : Option ℕ). cond (is_some o) 0 1 + left_below at n) was in
        let two = ap (λ (o : Option ℕ). cond (is_some o) 0 1 + left_below (and_issued at i cycle) n) now in
        omega (arith, one, two, below)
    go false h rest =
        let ne : n ≢ i = eqb-false n i h in
        let less = rest (omega arith) in
        let two = ap (λ (o : Option ℕ). cond (is_some o) 0 1 + left_below (and_issued at i cycle) n) (other_issued at i cycle n ne) in
        omega (arith, two, less)

pub all_issued : (at : ℕ → Option ℕ) (n i : ℕ) → left_below at n ≡ 0 → i < n → is_some (at i) ≡ true
all_issued at zero i none lt = absurd (omega arith)
all_issued at (suc n) i none lt = go (is_some (at n)) refl none (n == i) refl (λ h k. all_issued at n i h k)
  where
    go : (b : Bool) → is_some (at n) ≡ b → cond b 0 1 + left_below at n ≡ 0 → (d : Bool) → (n == i) ≡ d → (left_below at n ≡ 0 → i < n → is_some (at i) ≡ true) → is_some (at i) ≡ true
    go false h none d k rest = absurd (omega (arith, none))
    go true h none true k rest = ap (λ (j : ℕ). is_some (at j)) (sym (eqb-true n i k)) ∙ h
    go true h none false k rest = let ne : n ≢ i = eqb-false n i k in rest (omega (arith, none)) (omega arith)

-- the least place that is left
pub record Least (at : ℕ → Option ℕ) (n : ℕ) : Type 0 where
  pub place : ℕ
  pub within : place < n
  pub left : at place ≡ None
  pub below : (i : ℕ) → i < place → is_some (at i) ≡ true

pub least_left : (at : ℕ → Option ℕ) (n : ℕ) → 0 < left_below at n → Least at n
least_left at zero some = absurd (omega arith)
least_left at (suc n) some = go (left_below at n == 0) refl (at n) refl some (least_left at n)
  where
    go : (b : Bool) → (left_below at n == 0) ≡ b → (o : Option ℕ) → at n ≡ o → 0 < cond (is_some o) 0 1 + left_below at n → (0 < left_below at n → Least at n) → Least at (suc n)
    go false h o k some rest =
        let ne = eqb-false (left_below at n) 0 h in
        let l = rest (omega arith) in
        let inside = l.within in
        record { place = l.place; within = omega arith; left = l.left; below = l.below }
    go true h (Some c) k some rest = let none = eqb-true (left_below at n) 0 h in absurd (omega (arith, some))
    go true h None k some rest = record { place = n; within = omega arith; left = k; below = λ i lt. all_issued at n i (eqb-true (left_below at n) 0 h) lt }

pub none_yet : (n : ℕ) → left_below (issued_at []) n ≡ n
none_yet zero = refl
none_yet (suc n) = omega (arith, none_yet n)
