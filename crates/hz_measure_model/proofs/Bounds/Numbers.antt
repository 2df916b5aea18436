-- Different numbers from one up to another are not more than these; least and greatest numbers.
use Rattle.std.proofs.Common.{◌≡◌, ℕ, ◌+◌, ◌-◌, ◌<◌, ◌≤◌, ⊎_elim, true, List, [], ◌∷◌, map, length, get_or, Contains, arith}
use Rattle.std.specs.List.{AllPairs, list_any}
use Rattle.std.proofs.lemmas.Bool.{eqb-true, eq-eqb}
use Rattle.std.proofs.Math.Dec.{eqb}
use Rattle.std.proofs.lemmas.List.{length-map, get_or-map}
use Rattle.std.proofs.lemmas.List.Elements.{Contains-get_or}
use Rattle.std.proofs.lemmas.Map.Steps.{length-le_from_distinct_below}
use Rattle.std.proofs.lemmas.Map.Made.{IsDistinct-from_AllPairs}
use Rattle.std.proofs.lemmas.Map.Views.{Contains-from_any}
use Rattle.hz_base_model.proofs.Elements.{Contains-nil, Contains-head, Contains-cons_cases, Contains-from_map}
use Rattle.hz_measure_model.specs.Bounds.Paths.{greatest}
use Rattle.hz_measure_model.specs.Bounds.Loads.{least}

abbrev pub Differs : ℕ → ℕ → Type 0
Differs a b = a ≡ b → ⊥

pub greatest_above : (ns : List ℕ) (n : ℕ) → Contains ns n → n ≤ greatest ns
greatest_above [] n there = absurd (Contains-nil n there)
greatest_above (m ∷ ns) n there = ⊎_elim
    (λ (e : m ≡ n). omega (arith, e))
    (λ (k : Contains ns n). let rest = greatest_above ns n k in omega arith)
    (Contains-cons_cases m n ns there)

pub least_below : (ns : List ℕ) (n : ℕ) → Contains ns n → least ns ≤ n
least_below [] n there = absurd (Contains-nil n there)
least_below (m ∷ []) n there = ⊎_elim (λ (e : m ≡ n). omega (arith, e)) (λ (k : Contains [] n). absurd (Contains-nil n k)) (Contains-cons_cases m n [] there)
least_below (m ∷ o ∷ ns) n there = ⊎_elim
    (λ (e : m ≡ n). omega (arith, e))
    (λ (k : Contains (o ∷ ns) n). let rest = least_below (o ∷ ns) n k in omega arith)
    (Contains-cons_cases m n (o ∷ ns) there)

pub least_low : (ns : List ℕ) → least ns ≤ greatest ns
least_low [] = omega arith
least_low (m ∷ ns) = let low = least_below (m ∷ ns) m (Contains-head m ns) in let high = greatest_above (m ∷ ns) m (Contains-head m ns) in omega (arith, low, high)

-- different numbers from one on, less that one
module _ (low : ℕ) (ns : List ℕ) (above : (c : ℕ) → Contains ns c → low ≤ c) where
  differ_less : (a b : ℕ) → Contains ns a → Contains ns b → (a ≡ b → ⊥) → a - low ≡ b - low → ⊥
  differ_less a b there here different e = different (let p = above a there in let q = above b here in omega (arith, e))

  pub less : AllPairs Differs ns → AllPairs Differs (map (λ c. c - low) ns)
  less different i j d lt within =
      let long = length-map ns (λ (c : ℕ). c - low) in
      let inside : j < length ns = omega arith in
      rw (get_or-map (λ (c : ℕ). c - low) ns i 0 d (omega arith), get_or-map (λ (c : ℕ). c - low) ns j 0 d inside)
      (differ_less (get_or ns i 0) (get_or ns j 0) (Contains-get_or ns i 0 (omega arith)) (Contains-get_or ns j 0 inside) (different i j 0 lt inside))

-- different numbers from one up to, and without, another that is n above it are at most n
pub few_between : (low n : ℕ) (ns : List ℕ) → AllPairs Differs ns → ((c : ℕ) → Contains ns c → (low ≤ c) × (c < low + n)) → length ns ≤ n
few_between low n ns different inside =
    let long = length-map ns (λ (c : ℕ). c - low) in
    let all = length-le_from_distinct_below (map (λ c. c - low) ns) n
    (IsDistinct-from_AllPairs (λ a b. (eqb-true a b, eq-eqb a b)) (map (λ c. c - low) ns) (less low ns (λ c there. (inside c there).0) different))
    below in
    omega (arith, all)
  where
    below : (q : ℕ) → list_any (eqb q) (map (λ c. c - low) ns) ≡ true → q < n
    below q any =
        let (c, there, is) = Contains-from_map (λ (c : ℕ). c - low) ns q (Contains-from_any (λ x y. eqb-true x y) q (map (λ c. c - low) ns) any) in
        let (above, under) = inside c there in
        omega (arith, is)
