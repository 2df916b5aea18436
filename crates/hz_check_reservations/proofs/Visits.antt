-- What a walk that meets no circle has left, and when.
use Rattle.std.proofs.Common.{◌≡◌, ℕ, zero, suc, ◌+◌, ◌<◌, ◌⊎◌, inl, inr, ⊎_elim, List, [], ◌∷◌, ◌++◌, length, Contains, Some, refl, sym, ap, subst, arith}
use Rattle.std.proofs.lemmas.List.Elements.{Contains-append_left, Contains-append_right, Contains-append_cases, Contains-push_cases}
use Rattle.hz_base_model.proofs.Elements.{Contains-nil, Contains-head, Contains-tail, Contains-cons_cases}
use Rattle.hz_check_reservations.specs.Graphs.{At, Visited, ends, came, comes}
use Rattle.hz_check_reservations.proofs.Places.{At_within, At_from_Contains, At-append}

-- a place in joined lists
pub At-append_cases : (xs ys : List ℕ) (i x : ℕ) → At (xs ++ ys) i x → At xs i x ⊎ ((j : ℕ) × (i ≡ length xs + j) × At ys j x)
At-append_cases [] ys i x h = inr (i, omega arith, h)
At-append_cases (z ∷ xs) ys zero x h = inl h
At-append_cases (z ∷ xs) ys (suc i) x h = ⊎_elim
    (λ (k : At xs i x). inl k)
    (λ (k : (j : ℕ) × (i ≡ length xs + j) × At ys j x). inr (k.0, omega (arith, k.1), k.2))
    (At-append_cases xs ys i x h)

pub At-append_right : (xs ys : List ℕ) (j x : ℕ) → At ys j x → At (xs ++ ys) (length xs + j) x
At-append_right [] ys j x h = let e : j ≡ 0 + j = omega arith in subst (λ (i : ℕ). At ys i x) e h
At-append_right (z ∷ xs) ys j x h = let e : suc (length xs + j) ≡ suc (length xs) + j = omega arith in subst (λ (i : ℕ). At (z ∷ xs ++ ys) i x) e (At-append_right xs ys j x h)

module _ (edges : ℕ → List ℕ) where
  -- each node that is walked from has been left
  pub visited_all : {before nodes order : List ℕ} → Visited edges before nodes order → (v : ℕ) → Contains nodes v → Contains before v ⊎ Contains order v
  visited_all ends v h = absurd (Contains-nil v h)
  visited_all (came {node = node} {nodes = nodes} there rest) v h = ⊎_elim
      (λ (e : node ≡ v). inl (subst (Contains _) e there))
      (λ (k : Contains nodes v). visited_all rest v k)
      (Contains-cons_cases node v nodes h)
  visited_all (comes {before = before} {node = node} {nodes = nodes} {inner = inner} {order = order} new below rest) v h = ⊎_elim
      (λ (e : node ≡ v). inr (Contains-append_right inner (node ∷ order) v (subst (Contains (node ∷ order)) e (Contains-head node order))))
      (λ (k : Contains nodes v). ⊎_elim
      (λ (old : Contains (before ++ (inner ++ node ∷ [])) v). ⊎_elim
      (λ (g : Contains before v). inl g)
      (λ (g : Contains (inner ++ node ∷ []) v). inr (in_front inner node order v g))
      (Contains-append_cases before (inner ++ node ∷ []) v old))
      (λ (g : Contains order v). inr (Contains-append_right inner (node ∷ order) v (Contains-tail node v order g)))
      (visited_all rest v k))
      (Contains-cons_cases node v nodes h)
    where
      in_front : (inner : List ℕ) (node : ℕ) (order : List ℕ) (v : ℕ) → Contains (inner ++ node ∷ []) v → Contains (inner ++ node ∷ order) v
      in_front inner node order v g = ⊎_elim
          (λ (k : Contains inner v). Contains-append_left inner (node ∷ order) v k)
          (λ (e : node ≡ v). Contains-append_right inner (node ∷ order) v (subst (Contains (node ∷ order)) e (Contains-head node order)))
          (Contains-push_cases inner node v g)

  -- what a fact about nodes and all that their edges lead to says of the order
  pub visited_each : (P : ℕ → Type 0) → ((v w : ℕ) → P v → Contains (edges v) w → P w) → {before nodes order : List ℕ} → Visited edges before nodes order → ((v : ℕ) → Contains nodes v → P v) → (v : ℕ) → Contains order v → P v
  visited_each P goes ends all v h = absurd (Contains-nil v h)
  visited_each P goes (came {node = node} {nodes = nodes} there rest) all v h = visited_each P goes rest (λ w k. all w (Contains-tail node w nodes k)) v h
  visited_each P goes (comes {node = node} {nodes = nodes} {inner = inner} {order = order} new below rest) all v h = ⊎_elim
      (λ (k : Contains inner v). visited_each P goes below (λ w g. goes node w (all node (Contains-head node nodes)) g) v k)
      (λ (k : Contains (node ∷ order) v). ⊎_elim
      (λ (e : node ≡ v). subst P e (all node (Contains-head node nodes)))
      (λ (g : Contains order v). visited_each P goes rest (λ w q. all w (Contains-tail node w nodes q)) v g)
      (Contains-cons_cases node v order k))
      (Contains-append_cases inner (node ∷ order) v h)

  -- a node stands before some place of an order
  abbrev pub Before : List ℕ → ℕ → ℕ → Type 0
  Before order i node = (j : ℕ) × (j < i) × At order j node

  -- what the edges of a node lead to has been left before it
  pub visited_ready : {before nodes order : List ℕ} → Visited edges before nodes order → (i v w : ℕ) → At order i v → Contains (edges v) w → Contains before w ⊎ Before order i w
  visited_ready ends i v w h e = absurd (omega (arith, At_within [] i v h))
  visited_ready (came there rest) i v w h e = visited_ready rest i v w h e
  visited_ready (comes {before = before} {node = node} {inner = inner} {order = order} new below rest) i v w h e = ⊎_elim
      (λ (k : At inner i v). ⊎_elim
      (λ (g : Contains before w). inl g)
      (λ (g : Before inner i w). inr (g.0, g.1, At-append inner (node ∷ order) g.0 w g.2))
      (visited_ready below i v w k e))
      (λ (k : (j : ℕ) × (i ≡ length inner + j) × At (node ∷ order) j v).
      at_node k.0 k.1 k.2 (visited_all below w) (λ j g. visited_ready rest j v w g e))
      (At-append_cases inner (node ∷ order) i v h)
    where
      in_inner : Contains inner w → i ≡ length inner + 0 ⊎ (length inner < i) → Before (inner ++ node ∷ order) i w
      in_inner g le =
          let place = At_from_Contains inner w g in
          let low = At_within inner place.0 w place.1 in
          (place.0, ⊎_elim (λ (x : i ≡ length inner + 0). omega arith) (λ (x : length inner < i). omega arith) le, At-append inner (node ∷ order) place.0 w place.1)

      at_node : (j : ℕ) → i ≡ length inner + j → At (node ∷ order) j v → (Contains (edges node) w → Contains before w ⊎ Contains inner w)
          → ((j : ℕ) → At order j v → Contains (before ++ (inner ++ node ∷ [])) w ⊎ Before order j w) → Contains before w ⊎ Before (inner ++ node ∷ order) i w
      at_node zero is at first second =
          let same : node ≡ v = cc in
          ⊎_elim
          (λ (g : Contains before w). inl g)
          (λ (g : Contains inner w). inr (in_inner g (inl is)))
          (first (subst (λ (x : ℕ). Contains (edges x) w) (sym same) e))
      at_node (suc j) is at first second = ⊎_elim
          (λ (old : Contains (before ++ (inner ++ node ∷ [])) w). ⊎_elim
          (λ (g : Contains before w). inl g)
          (λ (g : Contains (inner ++ node ∷ []) w). ⊎_elim
          (λ (q : Contains inner w). inr (in_inner q (inr (omega arith))))
          (λ (q : node ≡ w). inr (length inner + 0, omega arith, At-append_right inner (node ∷ order) 0 w (ap Some q)))
          (Contains-push_cases inner node w g))
          (Contains-append_cases before (inner ++ node ∷ []) w old))
          (λ (g : Before order j w). inr (length inner + suc g.0, omega (arith, g.1), At-append_right inner (node ∷ order) (suc g.0) w g.2))
          (second j at)

  -- a walk from a root leaves it last
  pub visited_root : {root : ℕ} {order : List ℕ} → Visited edges [] (root ∷ []) order → (inner : List ℕ) × (order ≡ inner ++ root ∷ []) × Visited edges [] (edges root) inner
  visited_root {root} (came there rest) = absurd (Contains-nil root there)
  visited_root {root} (comes {inner = inner} new below ends) = (inner, refl, below)
