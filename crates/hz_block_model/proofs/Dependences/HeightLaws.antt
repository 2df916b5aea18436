-- Upward edges have one list of heights.
use Rattle.std.proofs.Common.{◌≡◌, ℕ, zero, suc, ◌+◌, ◌<◌, ◌≤◌, ◌==◌, Bool, true, false, ◌⊎◌, inl, inr, ⊎_elim, List, [], ◌∷◌, Contains, refl, sym, ap, ◌∙◌, arith}
use Rattle.std.specs.Prelude.{slice_index}
use Rattle.std.proofs.lemmas.Bool.{eqb-true, eq-eqb}
use Rattle.hz_base_model.proofs.Elements.{Contains-nil, Contains-head, Contains-tail, Contains-cons_cases}
use Rattle.hz_block_model.specs.Dependences.Graphs.{Edge, IsHeight}

-- An edge that leads from a place.
pub record From (edges : List Edge) (i : ℕ) : Type 0 where
  pub edge : Edge
  pub there : Contains edges edge
  pub is_from : edge.from ≡ i

pub some_from : (edges : List Edge) (i : ℕ) → From edges i ⊎ ((e : Edge) → Contains edges e → e.from ≡ i → ⊥)
some_from [] i = inr (λ e c is. Contains-nil e c)
some_from (first ∷ edges) i = go (first.from == i) refl (some_from edges i)
  where
    go : (b : Bool) → (first.from == i) ≡ b → From edges i ⊎ ((e : Edge) → Contains edges e → e.from ≡ i → ⊥) → From (first ∷ edges) i ⊎ ((e : Edge) → Contains (first ∷ edges) e → e.from ≡ i → ⊥)
    go true is further = inl (record { edge = first; there = Contains-head first edges; is_from = eqb-true first.from i is })
    go false is (inl f) = inl (record { edge = f.edge; there = Contains-tail first f.edge edges f.there; is_from = f.is_from })
    go false is (inr none) = inr (λ e c from. ⊎_elim
        (λ (same : first ≡ e). let yes = eq-eqb first.from i (ap (λ (f : Edge). f.from) same ∙ from) in absurd (cc))
        (λ (m : Contains edges e). none e m from)
        (Contains-cons_cases first e edges c))

module _ (edges : List Edge) (latency : List ℕ) (n : ℕ) (upward : (e : Edge) → Contains edges e → (e.from < e.to) × (e.to < n)) where
  one_side : (hs gs : List ℕ) (i : ℕ) → IsHeight edges latency hs i → IsHeight edges latency gs i → From edges i → ((j : ℕ) → i < j → j < n → slice_index hs j ≡ slice_index gs j) → slice_index hs i ≤ slice_index gs i
  one_side hs gs i h g f same =
      let (e, c, from, is) = h.reached f.edge f.there f.is_from in
      let below = g.least e c from in
      let (up, inside) = upward e c in
      let equal = same e.to (omega arith) inside in
      omega arith

  pub one_height : (hs gs : List ℕ) → ((i : ℕ) → i < n → IsHeight edges latency hs i) → ((i : ℕ) → i < n → IsHeight edges latency gs i) → (fuel i : ℕ) → i < n → n ≤ i + fuel → slice_index hs i ≡ slice_index gs i
  one_height hs gs h g zero i lt within = absurd (omega arith)
  one_height hs gs h g (suc fuel) i lt within = go (some_from edges i) (λ j more inside. one_height hs gs h g fuel j inside (omega arith))
    where
      go : From edges i ⊎ ((e : Edge) → Contains edges e → e.from ≡ i → ⊥) → ((j : ℕ) → i < j → j < n → slice_index hs j ≡ slice_index gs j) → slice_index hs i ≡ slice_index gs i
      go (inr none) same = (h i lt).none none ∙ sym ((g i lt).none none)
      go (inl f) same =
          let one = one_side hs gs i (h i lt) (g i lt) f same in
          let two = one_side gs hs i (g i lt) (h i lt) f (λ j more inside. sym (same j more inside)) in
          omega arith
