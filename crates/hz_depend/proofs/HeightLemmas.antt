-- Sums by edges give heights.
use Rattle.std.proofs.Common.{◌≡◌, ℕ, zero, suc, ◌+◌, ◌-◌, ◌*◌, ◌<◌, ◌≤◌, ◌≢◌, ◌==◌, Bool, true, false, subst, ⊎_elim, List, [], ◌∷◌, length, Option, Some, None, All, Contains, refl, sym, ap, ◌∙◌, get_or, get_or-set_other, get_or-set_same, length-set, arith}
use Rattle.std.specs.Prelude.{max, unwrap_or, replicate, slice_index}
use Rattle.std.specs.List.{AllPairs}
use Rattle.std.proofs.lemmas.Bool.{cases_lt, eqb-true, eq-eqb}
use Rattle.std.proofs.lemmas.List.{length-replicate}
use Rattle.std.proofs.lemmas.List.Elements.{All-contains}
use Rattle.hz_base_model.proofs.Elements.{Contains-nil, Contains-head, Contains-tail, Contains-cons_cases}
use Rattle.hz_base_model.proofs.Ascending.{AllPairs-head, AllPairs-tail}
use Rattle.hz_block_model.specs.Dependences.Graphs.{Edge, IsHeight}
use Rattle.hz_depend.specs.Relaxing.{height_at, relaxed}
use Rattle.hz_depend.proofs.FoundLemmas.{Before}

module _ (latencies : List ℕ) where
  abbrev sum : List Edge → ℕ → Option ℕ
  sum edges i = get_or (relaxed latencies edges) i None

  abbrev height : List Edge → ℕ → ℕ
  height edges i = height_at latencies (relaxed latencies edges) i

  -- the edges lead upwards, inside the block, and none has too great a cost
  abbrev pub Upward : Edge → Type 0
  Upward e = (e.from < e.to) × (e.to < length latencies) × (e.cost ≤ 1000)

  pub length-relaxed : (edges : List Edge) → length (relaxed latencies edges) ≡ length latencies
  length-relaxed [] = length-replicate (length latencies) None
  length-relaxed (e ∷ edges) = length-set (relaxed latencies edges) e.from _ ∙ length-relaxed edges

  none_replicate : (n i : ℕ) → get_or {A = Option ℕ} (replicate n None) i None ≡ None
  none_replicate zero i = refl
  none_replicate (suc n) zero = refl
  none_replicate (suc n) (suc i) = none_replicate n i

  -- the new sum where an edge leads from
  abbrev new : Edge → List Edge → ℕ
  new e edges = max (unwrap_or (sum edges e.from) 0) (e.cost + height edges e.to)

  there : (e : Edge) (edges : List Edge) → Upward e → sum (e ∷ edges) e.from ≡ Some (new e edges)
  there e edges up = let lt : e.from < length (relaxed latencies edges) = let h = length-relaxed edges in omega arith in get_or-set_same (relaxed latencies edges) e.from (Some (new e edges)) None lt

  others : (e : Edge) (edges : List Edge) (i : ℕ) → i ≢ e.from → sum (e ∷ edges) i ≡ sum edges i
  others e edges i ne = get_or-set_other (relaxed latencies edges) e.from i (Some (new e edges)) None ne

  height_others : (e : Edge) (edges : List Edge) (i : ℕ) → i ≢ e.from → height (e ∷ edges) i ≡ height edges i
  height_others e edges i ne = ap (λ (o : Option ℕ). unwrap_or o (slice_index latencies i)) (others e edges i ne)

  -- An edge from a place whose sum is the place's.
  pub record Reaches (edges : List Edge) (i h : ℕ) : Type 0 where
    pub edge : Edge
    pub there : Contains edges edge
    pub is_from : edge.from ≡ i
    pub is : h ≡ edge.cost + height edges edge.to

  -- The sum of a place that is not less than an edge's.
  pub record Covers (edges : List Edge) (e : Edge) : Type 0 where
    pub value : ℕ
    pub is : sum edges e.from ≡ Some value
    pub least : e.cost + height edges e.to ≤ value

  -- Each sum is reached by an edge, covers all edges from its place, and is not greater than the cycles that are left.
  pub record IsSums (edges : List Edge) : Type 0 where
    pub reaches : (i h : ℕ) → sum edges i ≡ Some h → Reaches edges i h
    pub covers : (e : Edge) → Contains edges e → Covers edges e
    pub bounded : (i h : ℕ) → sum edges i ≡ Some h → h ≤ 1000 * (length latencies - i)

  no_edge : (e : Edge) → Contains [] e → Covers [] e
  no_edge e c = absurd (Contains-nil e c)

  sums_none : IsSums []
  sums_none = record {
    reaches = λ i h is. let none = none_replicate (length latencies) i in absurd (cc);
    covers = no_edge;
    bounded = λ i h is. let none = none_replicate (length latencies) i in absurd (cc);
  }

  module _ (small : (i : ℕ) → slice_index latencies i ≤ 1000) where
    -- a height is not greater than the cycles that are left
    bounded_height : (edges : List Edge) → IsSums edges → (i : ℕ) → i < length latencies → height edges i ≤ 1000 * (length latencies - i)
    bounded_height edges known i lt = go (sum edges i) refl
      where
        go : (o : Option ℕ) → sum edges i ≡ o → unwrap_or o (slice_index latencies i) ≤ 1000 * (length latencies - i)
        go None is = let h = small i in omega arith
        go (Some h) is = known.bounded i h is

    -- One more edge in front, from a place to which none of the others leads.
    module _ (e : Edge) (edges : List Edge) (up : Upward e) (above : (f : Edge) → Contains edges f → e.from < f.to) (known : IsSums edges) where
      apart : (n : ℕ) → e.from < n → n ≢ e.from
      apart n lt is = omega arith

      same_to : (f : Edge) → Contains edges f → height (e ∷ edges) f.to ≡ height edges f.to
      same_to f c = height_others e edges f.to (apart f.to (above f c))

      same_here : height (e ∷ edges) e.to ≡ height edges e.to
      same_here = height_others e edges e.to (apart e.to up.0)

      -- an edge that reached its place's sum still does, where that stands
      still : (i h : ℕ) → Reaches edges i h → Reaches (e ∷ edges) i h
      still i h r = record { edge = r.edge; there = Contains-tail e r.edge edges r.there; is_from = r.is_from; is = r.is ∙ ap (λ (n : ℕ). r.edge.cost + n) (sym (same_to r.edge r.there)) }

      by_this : Reaches (e ∷ edges) e.from (e.cost + height edges e.to)
      by_this = record { edge = e; there = Contains-head e edges; is_from = refl; is = ap (λ (n : ℕ). e.cost + n) (sym same_here) }

      -- the new sum is this edge's or the old one
      new_reached : (o : Option ℕ) → sum edges e.from ≡ o → Reaches (e ∷ edges) e.from (max (unwrap_or o 0) (e.cost + height edges e.to))
      new_reached None is = let m : max 0 (e.cost + height edges e.to) ≡ e.cost + height edges e.to = omega arith in rw m by_this
      new_reached (Some h) is = ⊎_elim
          (λ (lt : h < e.cost + height edges e.to). let m : max h (e.cost + height edges e.to) ≡ e.cost + height edges e.to = omega arith in rw m by_this)
          (λ (ge : e.cost + height edges e.to ≤ h). let m : max h (e.cost + height edges e.to) ≡ h = omega arith in rw m (still e.from h (known.reaches e.from h is)))
          (cases_lt h (e.cost + height edges e.to))

      new_bounded : (o : Option ℕ) → sum edges e.from ≡ o → max (unwrap_or o 0) (e.cost + height edges e.to) ≤ 1000 * (length latencies - e.from)
      new_bounded None is = let b = bounded_height edges known e.to up.1 in let u = up.0 in let w = up.1 in let v = up.2 in omega arith
      new_bounded (Some h) is = let b = bounded_height edges known e.to up.1 in let k = known.bounded e.from h is in let u = up.0 in let w = up.1 in let v = up.2 in omega arith

      next_reaches : (i h : ℕ) → sum (e ∷ edges) i ≡ Some h → Reaches (e ∷ edges) i h
      next_reaches i h is = go (i == e.from) refl
        where
          go : (b : Bool) → (i == e.from) ≡ b → Reaches (e ∷ edges) i h
          go true same =
              let at : i ≡ e.from = eqb-true i e.from same in
              let now : sum (e ∷ edges) i ≡ Some (new e edges) = ap (sum (e ∷ edges)) at ∙ there e edges up in
              let value : new e edges ≡ h = cc in
              rw (at, ← value) (new_reached (sum edges e.from) refl)
          go false same =
              let ne : i ≢ e.from = λ (at : i ≡ e.from). let f = eq-eqb i e.from at in absurd (cc) in
              still i h (known.reaches i h (sym (others e edges i ne) ∙ is))

      next_bounded : (i h : ℕ) → sum (e ∷ edges) i ≡ Some h → h ≤ 1000 * (length latencies - i)
      next_bounded i h is = go (i == e.from) refl
        where
          go : (b : Bool) → (i == e.from) ≡ b → h ≤ 1000 * (length latencies - i)
          go true same =
              let at : i ≡ e.from = eqb-true i e.from same in
              let now : sum (e ∷ edges) i ≡ Some (new e edges) = ap (sum (e ∷ edges)) at ∙ there e edges up in
              let value : new e edges ≡ h = cc in
              rw (at, ← value) (new_bounded (sum edges e.from) refl)
          go false same =
              let ne : i ≢ e.from = λ (at : i ≡ e.from). let f = eq-eqb i e.from at in absurd (cc) in
              known.bounded i h (sym (others e edges i ne) ∙ is)

      next_covers : (f : Edge) → Contains (e ∷ edges) f → Covers (e ∷ edges) f
      next_covers f c = ⊎_elim this old (Contains-cons_cases e f edges c)
        where
          this : e ≡ f → Covers (e ∷ edges) f
          this same = subst (Covers (e ∷ edges)) same (record { value = new e edges; is = there e edges up; least = let h = same_here in omega arith })

          old : Contains edges f → Covers (e ∷ edges) f
          old m =
              let k = known.covers f m in
              let h = same_to f m in
              let l = k.least in
              go (f.from == e.from) refl k.value k.is (omega arith)
            where
              go : (b : Bool) → (f.from == e.from) ≡ b → (v : ℕ) → sum edges f.from ≡ Some v → f.cost + height (e ∷ edges) f.to ≤ v → Covers (e ∷ edges) f
              go true same v is le =
                  let at : f.from ≡ e.from = eqb-true f.from e.from same in
                  let was : sum edges e.from ≡ Some v = ap (sum edges) (sym at) ∙ is in
                  let more : v ≤ new e edges = rw was (omega arith) in
                  record { value = new e edges; is = ap (sum (e ∷ edges)) at ∙ there e edges up; least = omega arith }
              go false same v is le =
                  let ne : f.from ≢ e.from = λ (at : f.from ≡ e.from). let g = eq-eqb f.from e.from at in absurd (cc) in
                  record { value = v; is = others e edges f.from ne ∙ is; least = le }

      sums_next : IsSums (e ∷ edges)
      sums_next = record { reaches = next_reaches; covers = next_covers; bounded = next_bounded }

    pub sums : (edges : List Edge) → All Upward edges → AllPairs Before edges → IsSums edges
    sums [] up before = sums_none
    sums (e ∷ edges) up before =
        let rest : All Upward edges = λ k d lt. up (suc k) d (omega arith) in
        sums_next e edges (up 0 e (omega arith)) (λ f c. All-contains (Before e) edges f (AllPairs-head Before e edges before) c) (sums edges rest (AllPairs-tail Before e edges before))

    pub height_bound : (edges : List Edge) → All Upward edges → AllPairs Before edges → (i : ℕ) → i < length latencies → height edges i ≤ 1000 * (length latencies - i)
    height_bound edges up before = bounded_height edges (sums edges up before)

    -- the heights that these sums give
    pub heights_are : (edges : List Edge) → All Upward edges → AllPairs Before edges → (heights : List ℕ) → ((i : ℕ) → i < length latencies → slice_index heights i ≡ height edges i) → (i : ℕ) → i < length latencies → IsHeight edges latencies heights i
    heights_are edges up before heights same i lt = record { none = no_edges (sum edges i) refl; least = at_least; reached = some_edge }
      where
        known : IsSums edges
        known = sums edges up before

        here : slice_index heights i ≡ height edges i
        here = same i lt

        there_too : (e : Edge) → Contains edges e → slice_index heights e.to ≡ height edges e.to
        there_too e c = let u : Upward e = All-contains Upward edges e up c in same e.to u.1

        no_edges : (o : Option ℕ) → sum edges i ≡ o → ((e : Edge) → Contains edges e → e.from ≡ i → ⊥) → slice_index heights i ≡ slice_index latencies i
        no_edges None is none = here ∙ ap (λ (o : Option ℕ). unwrap_or o (slice_index latencies i)) is
        no_edges (Some h) is none = let r = known.reaches i h is in absurd (none r.edge r.there r.is_from)

        -- the height of a place that an edge leads from
        value : (e : Edge) → Contains edges e → e.from ≡ i → (h : ℕ) × (sum edges i ≡ Some h) × (slice_index heights i ≡ h) × (e.cost + height edges e.to ≤ h)
        value e c from =
            let k = known.covers e c in
            let is : sum edges i ≡ Some k.value = ap (sum edges) (sym from) ∙ k.is in
            (k.value, is, here ∙ ap (λ (o : Option ℕ). unwrap_or o (slice_index latencies i)) is, k.least)

        at_least : (e : Edge) → Contains edges e → e.from ≡ i → e.cost + slice_index heights e.to ≤ slice_index heights i
        at_least e c from = let (h, is, at, le) = value e c from in let t = there_too e c in omega arith

        some_edge : (e : Edge) → Contains edges e → e.from ≡ i → (f : Edge) × Contains edges f × (f.from ≡ i) × (slice_index heights i ≡ f.cost + slice_index heights f.to)
        some_edge e c from =
            let (h, is, at, le) = value e c from in
            let r = known.reaches i h is in
            let t = there_too r.edge r.there in
            let w = r.is in
            (r.edge, r.there, r.is_from, omega arith)
