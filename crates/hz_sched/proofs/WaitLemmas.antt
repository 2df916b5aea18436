-- What instructions wait for, before and after an issue, and when they are ready.
use Rattle.std.proofs.Common.{◌≡◌, ℕ, ◌+◌, ◌≤◌, ◌==◌, ⊎_elim, Bool, true, false, ◌&&◌, not, cond, max, List, [], ◌∷◌, filter, Option, Some, None, is_some, Contains, refl, sym, ap, ◌∙◌, subst, arith}
use Rattle.std.proofs.lemmas.Bool.{eqb-true, eq-eqb}
use Rattle.hz_base_model.proofs.Elements.{Contains-nil, Contains-head, Contains-tail, Contains-cons_cases}
use Rattle.hz_block_model.specs.Dependences.Graphs.{Edge}
use Rattle.hz_block_model.specs.Scheduling.Schedules.{Graph, Slot, IsReady}
use Rattle.hz_sched.specs.Waits.{issued_at, and_issued, missing, waited, ripe, leading, ripe_from}
use Rattle.hz_sched.proofs.SlotLemmas.{slot_of_issue}

-- the edges from an instruction
abbrev pub edges_from : ℕ → List Edge → List Edge
edges_from i edges = filter (λ e. e.from == i) edges

-- ---- an issue

count_step : (b f : Bool) (o : Option ℕ) (c m n l : ℕ) → (f ≡ true → o ≡ None) → m ≡ n + l → cond (b && not (is_some o)) 1 0 + m ≡ (cond (b && not (is_some (cond f (Some c) o))) 1 0 + n) + cond f (cond b 1 0 + l) l
count_step b true (Some x) c m n l none e = let h = none refl in absurd (cc)
count_step true true None c m n l none e = omega (arith, e)
count_step false true None c m n l none e = omega (arith, e)
count_step true false None c m n l none e = omega (arith, e)
count_step true false (Some x) c m n l none e = omega (arith, e)
count_step false false o c m n l none e = omega (arith, e)

ripe_step : (b f : Bool) (o : Option ℕ) (c cost r s l : ℕ) → (f ≡ true → o ≡ None) → s ≡ max r l → max (cond b (waited (cond f (Some c) o) cost) 0) s ≡ max (max (cond b (waited o cost) 0) r) (cond f (max (cond b (c + cost) 0) l) l)
ripe_step b true (Some x) c cost r s l none e = let h = none refl in absurd (cc)
ripe_step true true None c cost r s l none e = omega (arith, e)
ripe_step false true None c cost r s l none e = omega (arith, e)
ripe_step true false None c cost r s l none e = omega (arith, e)
ripe_step true false (Some x) c cost r s l none e = omega (arith, e)
ripe_step false false o c cost r s l none e = omega (arith, e)

module _ (at : ℕ → Option ℕ) (i cycle : ℕ) (left : at i ≡ None) (j : ℕ) where
  none_there : (e : Edge) → (e.from == i) ≡ true → at e.from ≡ None
  none_there e h = ap at (eqb-true e.from i h) ∙ left

  pub missing_issued : (edges : List Edge) → missing at j edges ≡ missing (and_issued at i cycle) j edges + leading j (edges_from i edges)
  missing_issued [] = refl
  missing_issued (e ∷ edges) =
      count_step (e.to == j) (e.from == i) (at e.from) cycle (missing at j edges) (missing (and_issued at i cycle) j edges) (leading j (edges_from i edges)) (none_there e) (missing_issued edges)
      ∙ ap (λ (n : ℕ). missing (and_issued at i cycle) j (e ∷ edges) + n) (taken (e.from == i))
    where
      taken : (f : Bool) → cond f (leading j (e ∷ edges_from i edges)) (leading j (edges_from i edges)) ≡ leading j (cond f (e ∷ edges_from i edges) (edges_from i edges))
      taken true = refl
      taken false = refl

  pub ripe_issued : (edges : List Edge) → ripe (and_issued at i cycle) j edges ≡ max (ripe at j edges) (ripe_from cycle j (edges_from i edges))
  ripe_issued [] = refl
  ripe_issued (e ∷ edges) =
      ripe_step (e.to == j) (e.from == i) (at e.from) cycle e.cost (ripe at j edges) (ripe (and_issued at i cycle) j edges) (ripe_from cycle j (edges_from i edges)) (none_there e) (ripe_issued edges)
      ∙ ap (λ (n : ℕ). max (ripe at j (e ∷ edges)) n) (taken (e.from == i))
    where
      taken : (f : Bool) → cond f (ripe_from cycle j (e ∷ edges_from i edges)) (ripe_from cycle j (edges_from i edges)) ≡ ripe_from cycle j (cond f (e ∷ edges_from i edges) (edges_from i edges))
      taken true = refl
      taken false = refl

-- ---- nothing is issued

pub missing_none : (j : ℕ) (edges : List Edge) → missing (issued_at []) j edges ≡ leading j edges
missing_none j [] = refl
missing_none j (e ∷ edges) = go (e.to == j) (missing_none j edges)
  where
    go : (b : Bool) → missing (issued_at []) j edges ≡ leading j edges → cond (b && true) 1 0 + missing (issued_at []) j edges ≡ cond b 1 0 + leading j edges
    go true h = omega (arith, h)
    go false h = omega (arith, h)

pub ripe_none : (j : ℕ) (edges : List Edge) → ripe (issued_at []) j edges ≡ 0
ripe_none j [] = refl
ripe_none j (e ∷ edges) = go (e.to == j) (ripe_none j edges)
  where
    go : (b : Bool) → ripe (issued_at []) j edges ≡ 0 → max (cond b 0 0) (ripe (issued_at []) j edges) ≡ 0
    go true h = omega (arith, h)
    go false h = omega (arith, h)

-- ---- readiness

module _ (at : ℕ → Option ℕ) (cycle j : ℕ) where
  -- an edge that has been waited for
  pub waited_for : (edges : List Edge) → missing at j edges ≡ 0 → ripe at j edges ≤ cycle → (e : Edge) → Contains edges e → e.to ≡ j → (c : ℕ) × (at e.from ≡ Some c) × (c + e.cost ≤ cycle)
  waited_for [] none low e h to = absurd (Contains-nil e h)
  waited_for (f ∷ edges) none low e h to = ⊎_elim
      (λ (same : f ≡ e). go (f.to == j) (eq-eqb f.to j (ap (λ (x : Edge). x.to) same ∙ to)) (at f.from) refl none low same)
      (λ (m : Contains edges e). waited_for edges (omega (arith, none)) (omega (arith, low)) e m to)
      (Contains-cons_cases f e edges h)
    where
      go : (b : Bool) → b ≡ true → (o : Option ℕ) → at f.from ≡ o → cond (b && not (is_some o)) 1 0 + missing at j edges ≡ 0 → max (cond b (waited o f.cost) 0) (ripe at j edges) ≤ cycle → f ≡ e → (c : ℕ) × (at e.from ≡ Some c) × (c + e.cost ≤ cycle)
      go false h o is none low same = absurd (cc)
      go true h None is none low same = absurd (omega (arith, none))
      go true h (Some c) is none low same = subst (λ (x : Edge). (c : ℕ) × (at x.from ≡ Some c) × (c + x.cost ≤ cycle)) same (c, is, omega (arith, low))

  -- where all edges have been waited for
  pub all_waited : (edges : List Edge) → ((e : Edge) → Contains edges e → e.to ≡ j → (c : ℕ) × (at e.from ≡ Some c) × (c + e.cost ≤ cycle)) → (missing at j edges ≡ 0) × (ripe at j edges ≤ cycle)
  all_waited [] each = (refl, omega arith)
  all_waited (e ∷ edges) each = go (e.to == j) refl (at e.from) refl (all_waited edges (λ f m. each f (Contains-tail e f edges m)))
    where
      go : (b : Bool) → (e.to == j) ≡ b → (o : Option ℕ) → at e.from ≡ o → (missing at j edges ≡ 0) × (ripe at j edges ≤ cycle)
          → (cond (b && not (is_some o)) 1 0 + missing at j edges ≡ 0) × (max (cond b (waited o e.cost) 0) (ripe at j edges) ≤ cycle)
      go false h o is (none, low) = (omega (arith, none), omega (arith, low))
      go true h None is (none, low) = let (c, some, le) = each e (Contains-head e edges) (eqb-true e.to j h) in absurd (cc)
      go true h (Some d) is (none, low) =
          let (c, some, le) = each e (Contains-head e edges) (eqb-true e.to j h) in
          let same : c ≡ d = cc in
          (omega (arith, none), omega (arith, low, le, same))

module _ (g : Graph) (slots : List Slot) (cycle j : ℕ) where
  pub ready_there : missing (issued_at slots) j g.edges ≡ 0 → ripe (issued_at slots) j g.edges ≤ cycle → IsReady g slots cycle j
  ready_there none low e there to =
      let (c, some, le) = waited_for (issued_at slots) cycle j g.edges none low e there to in
      let (x, held, place, at) = slot_of_issue slots e.from c some in
      (x, held, place, omega (arith, le, at))

  pub ready_back : ((x : Slot) → Contains slots x → issued_at slots x.place ≡ Some x.cycle) → IsReady g slots cycle j → (missing (issued_at slots) j g.edges ≡ 0) × (ripe (issued_at slots) j g.edges ≤ cycle)
  ready_back reported ready = all_waited (issued_at slots) cycle j g.edges (λ e there to. let (x, held, place, le) = ready e there to in (x.cycle, ap (issued_at slots) (sym place) ∙ reported x held, le))
