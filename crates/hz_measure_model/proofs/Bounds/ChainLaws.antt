-- The chain that shows the greatest tail costs it, it is one, and there is one.
use Rattle.std.proofs.Common.{◌≡◌, ℕ, zero, suc, ◌+◌, ◌<◌, ◌≤◌, inl, inr, ⊎_elim, List, [], ◌∷◌, length, Contains, refl, sym, ap, ◌∙◌, subst, arith}
use Rattle.std.specs.Prelude.{slice_index, sum_by}
use Rattle.std.proofs.lemmas.Bool.{cases_lt}
use Rattle.std.proofs.lemmas.List.Sums.{sum_by-cons}
use Rattle.hz_block_model.specs.Dependences.Graphs.{Edge}
use Rattle.hz_block_model.specs.Scheduling.Schedules.{Graph}
use Rattle.hz_pipeline_model.proofs.Decidable.DecidedLaws.{IsDecided, same_reported, less_reported, some_reported}
use Rattle.hz_measure_model.specs.Bounds.Paths.{greatest, AreTails, CarriesOn, IsLeast, GoesOn, HasGreatest, IsChain, LeadAlong}

-- ---- least numbers

module _ (P : ℕ → Type 0) where
  pub one_least : (i j : ℕ) → IsLeast P i → IsLeast P j → i ≡ j
  one_least i j a b = ⊎_elim
      (λ (lt : i < j). absurd (b.first i lt a.is))
      (λ (le : j ≤ i). ⊎_elim (λ (lt : j < i). absurd (a.first j lt b.is)) (λ (ge : i ≤ j). omega (arith, le, ge)) (cases_lt j i))
      (cases_lt i j)

  module _ (reported : (i : ℕ) → IsDecided (P i)) where
    abbrev Least : ℕ → Type 0
    Least k = (j : ℕ) × IsLeast P j × (j ≤ k)

    here : (i k : ℕ) → P i → i ≤ k → ((j : ℕ) → j < i → P j → ⊥) → Least k
    here i k is low none = (i, record { is = is; first = none }, low)

    none_more : (i : ℕ) → ((j : ℕ) → j < i → P j → ⊥) → (P i → ⊥) → (j : ℕ) → j < suc i → P j → ⊥
    none_more i none not_so j lt is = ⊎_elim (λ (less : j < i). none j less is) (λ (le : i ≤ j). let e : i ≡ j = omega (arith, le, lt) in not_so (subst P (sym e) is)) (cases_lt j i)

    least_from : (fuel i k : ℕ) → P k → k ≤ i + fuel → i ≤ k → ((j : ℕ) → j < i → P j → ⊥) → Least k
    least_from zero i k holds near low none = let e : k ≡ i = omega (arith, near, low) in here i k (subst P e holds) low none
    least_from (suc fuel) i k holds near low none = ⊎_elim
        (λ (is : P i). here i k is low none)
        (λ (not_so : P i → ⊥). ⊎_elim
        (λ (lt : i < k). least_from fuel (suc i) k holds (omega (arith, near)) (omega (arith, lt)) (none_more i none not_so))
        (λ (le : k ≤ i). let e : k ≡ i = omega (arith, le, low) in absurd (not_so (subst P e holds)))
        (cases_lt i k))
        (reported i)

    pub some_least : (k : ℕ) → P k → (j : ℕ) × IsLeast P j × (j ≤ k)
    some_least k holds = least_from k 0 k holds (omega arith) (omega arith) (λ j lt is. omega (arith, lt))

module _ (g : Graph) (tails : List ℕ) where
  -- ---- the chain costs the greatest tail

  rest_costs : (j : ℕ) (chain : List ℕ) → GoesOn g tails j chain → (edges : List Edge) × LeadAlong g j chain edges × (sum_by (λ e. e.cost) edges ≡ slice_index tails j)
  rest_costs j [] on = ([], refl, sym on)
  rest_costs j (k ∷ chain) (more, first, on) =
      let (edges, along, costs) = rest_costs k chain on in
      let by = first.is in
      (by.by ∷ edges, (by.there, by.leaves, by.leads, along), omega (arith, sum_by-cons (λ (e : Edge). e.cost) by.by edges, costs, by.whole))

  pub chain_costs : (j : ℕ) (chain : List ℕ) → IsChain g tails (j ∷ chain) → (edges : List Edge) × LeadAlong g j chain edges × (sum_by (λ e. e.cost) edges ≡ greatest tails)
  chain_costs j chain (first, on) = let (edges, along, costs) = rest_costs j chain on in (edges, along, costs ∙ (first.is).1)

  -- ---- the chain is one

  pub one_rest : (j : ℕ) (first second : List ℕ) → GoesOn g tails j first → GoesOn g tails j second → first ≡ second
  one_rest j [] [] on off = refl
  one_rest j [] (k ∷ second) on (more, least, off) = absurd (omega (arith, on, more))
  one_rest j (k ∷ first) [] (more, least, on) off = absurd (omega (arith, off, more))
  one_rest j (k ∷ first) (l ∷ second) (more, least, on) (above, lowest, off) =
      let same = one_least (CarriesOn g tails j) k l least lowest in
      let rest = one_rest k first second on (subst (λ (z : ℕ). GoesOn g tails z second) (sym same) off) in
      ap (λ (z : ℕ). z ∷ first) same ∙ ap (λ (zs : List ℕ). l ∷ zs) rest

  pub one_chain : (first second : List ℕ) → IsChain g tails first → IsChain g tails second → first ≡ second
  one_chain [] [] a b = refl
  one_chain [] (j ∷ second) a (least, on) = absurd (let low = (least.is).0 in omega (arith, low, a))
  one_chain (j ∷ first) [] (least, on) b = absurd (let low = (least.is).0 in omega (arith, low, b))
  one_chain (i ∷ first) (j ∷ second) (a, on) (b, off) =
      let same = one_least (HasGreatest g tails) i j a b in
      let rest = one_rest i first second on (subst (λ (z : ℕ). GoesOn g tails z second) (sym same) off) in
      ap (λ (z : ℕ). z ∷ first) same ∙ ap (λ (zs : List ℕ). j ∷ zs) rest

  -- ---- and there is one

  carries_reported : (j k : ℕ) → IsDecided (CarriesOn g tails j k)
  carries_reported j k = ⊎_elim
      (λ (found : (e : Edge) × Contains g.edges e × Carries e). inl (record { by = found.0; there = found.1; leaves = (found.2).0; leads = (found.2).1; whole = (found.2).2 }))
      (λ (none : (e : Edge) → Contains g.edges e → Carries e → ⊥). inr (λ c. none c.by c.there (c.leaves, c.leads, c.whole)))
      (some_reported Carries each g.edges)
    where
      Carries : Edge → Type 0
      Carries e = (e.from ≡ j) × (e.to ≡ k) × (slice_index tails j ≡ e.cost + slice_index tails k)

      each : (e : Edge) → IsDecided (Carries e)
      each e = all (same_reported e.from j) (same_reported e.to k) (same_reported (slice_index tails j) (e.cost + slice_index tails k))
        where
          all : IsDecided (e.from ≡ j) → IsDecided (e.to ≡ k) → IsDecided (slice_index tails j ≡ e.cost + slice_index tails k) → IsDecided (Carries e)
          all (inl a) (inl b) (inl c) = inl (a, b, c)
          all (inr a) b c = inr (λ is. a is.0)
          all (inl a) (inr b) c = inr (λ is. b is.1)
          all (inl a) (inl b) (inr c) = inr (λ is. c is.2)

  module _ (are : AreTails g tails) (upward : (e : Edge) → Contains g.edges e → (e.from < e.to) × (e.to < length g.nodes)) where
    -- a tail above 0 is carried on
    carried : (j : ℕ) → j < length g.nodes → 0 < slice_index tails j → (k : ℕ) × CarriesOn g tails j k × (j < k) × (k < length g.nodes)
    carried j lt more = ⊎_elim
        (λ (found : (e : Edge) × Contains g.edges e × (e.from ≡ j)).
        let (e, there, leaves, whole) = (are.each j lt).reached found.0 found.1 found.2 in
        let (up, low) = upward e there in
        (e.to, record { by = e; there = there; leaves = leaves; leads = refl; whole = whole }, omega (arith, up, leaves), low))
        (λ (none : (e : Edge) → Contains g.edges e → e.from ≡ j → ⊥). absurd (let is = (are.each j lt).none none in omega (arith, is, more)))
        (some_reported (λ e. e.from ≡ j) (λ e. same_reported e.from j) g.edges)

    some_rest : (fuel j : ℕ) → j < length g.nodes → length g.nodes ≤ j + fuel → (chain : List ℕ) × GoesOn g tails j chain
    some_rest zero j lt near = absurd (omega (arith, lt, near))
    some_rest (suc fuel) j lt near = ⊎_elim
        (λ (more : 0 < slice_index tails j).
        let (k, by, up, low) = carried j lt more in
        let (l, least, le) = some_least (CarriesOn g tails j) (carries_reported j) k by in
        let on = least.is in
        let (higher, inside) = upward on.by on.there in
        let from = on.leaves in
        let to = on.leads in
        let (chain, rest) = some_rest fuel l (omega (arith, inside, to)) (omega (arith, near, higher, from, to)) in
        (l ∷ chain, (more, least, rest)))
        (λ (none : slice_index tails j ≤ 0). ([], omega (arith, none)))
        (cases_lt 0 (slice_index tails j))

    -- some place has the greatest tail
    some_greatest : (ts : List ℕ) → 0 < length ts → (i : ℕ) × (i < length ts) × (slice_index ts i ≡ greatest ts)
    some_greatest [] lt = absurd (omega (arith, lt))
    some_greatest (t ∷ []) lt = (0, omega arith, omega arith)
    some_greatest (t ∷ u ∷ ts) lt =
        let (i, inside, is) = some_greatest (u ∷ ts) (omega arith) in
        ⊎_elim
        (λ (less : t < greatest (u ∷ ts)). (suc i, omega (arith, inside), omega (arith, is, less)))
        (λ (le : greatest (u ∷ ts) ≤ t). (0, omega arith, omega (arith, le)))
        (cases_lt t (greatest (u ∷ ts)))

    pub some_chain : (chain : List ℕ) × IsChain g tails chain
    some_chain = ⊎_elim
        (λ (some : 0 < length g.nodes).
        let long = are.long in
        let (i, inside, is) = some_greatest tails (omega (arith, some, long)) in
        let (j, least, le) = some_least (HasGreatest g tails) reported i (omega (arith, inside, long), is) in
        let (chain, rest) = some_rest (length g.nodes) j (least.is).0 (omega arith) in
        (j ∷ chain, (least, rest)))
        (λ (none : length g.nodes ≤ 0). ([], omega (arith, none)))
        (cases_lt 0 (length g.nodes))
      where
        reported : (i : ℕ) → IsDecided (HasGreatest g tails i)
        reported i = go (less_reported i (length g.nodes)) (same_reported (slice_index tails i) (greatest tails))
          where
            go : IsDecided (i < length g.nodes) → IsDecided (slice_index tails i ≡ greatest tails) → IsDecided (HasGreatest g tails i)
            go (inl a) (inl b) = inl (a, b)
            go (inr a) b = inr (λ is. a is.0)
            go (inl a) (inr b) = inr (λ is. b is.1)
