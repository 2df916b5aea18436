-- The list of edges that is found pair by pair.
use Rattle.std.proofs.Common.{◌≡◌, ℕ, zero, suc, ◌+◌, ◌<◌, ◌≤◌, ⊎_elim, List, [], ◌∷◌, length, take, Option, Some, None, Contains, refl, sym, ap, ◌∙◌, arith}
use Rattle.std.specs.Prelude.{slice_get}
use Rattle.std.specs.List.{AllPairs}
use Rattle.std.proofs.lemmas.Bool.{cases_lt}
use Rattle.std.proofs.lemmas.Option.{slice_get_within}
use Rattle.std.proofs.lemmas.List.Elements.{Contains-append_left, Contains-append_right, Contains-append_cases}
use Rattle.hz_base_model.proofs.Elements.{Contains-nil, Contains-head, Contains-cons_cases}
use Rattle.hz_base_model.proofs.Ascending.{AllPairs-append}
use Rattle.hz_block_model.specs.Dependences.Graphs.{Edge}
use Rattle.hz_depend.specs.Held.{Held, cost_held, edge_by, found, last_of, edges_to, all_found}

-- An edge that was found to a place from an instruction that stands from another on.
pub record From (cost : ℕ → Held → Option ℕ) (i j : ℕ) (firsts : List Held) (e : Edge) : Type 0 where
  pub place : ℕ
  pub first : Held
  pub at : slice_get firsts place ≡ Some first
  pub is_from : e.from ≡ i + place
  pub is_to : e.to ≡ j
  pub is_cost : cost (i + place) first ≡ Some e.cost

-- two edges of one pair of places
abbrev pub Apart : Edge → Edge → Type 0
Apart a b = a.from ≡ b.from → a.to ≡ b.to → ⊥

-- the first leads from a place before that to which the second leads
abbrev pub Before : Edge → Edge → Type 0
Before a b = a.from < b.to

pairs_none : (R : Edge → Edge → Type 0) → AllPairs R []
pairs_none R i j d lt within = absurd (omega arith)

pairs_one : (R : Edge → Edge → Type 0) (i j : ℕ) (o : Option ℕ) → AllPairs R (edge_by i j o)
pairs_one R i j None = pairs_none R
pairs_one R i j (Some c) = λ m n d lt within. absurd (omega arith)

one_only : (i j : ℕ) (o : Option ℕ) (e : Edge) → Contains (edge_by i j o) e → (e.from ≡ i) × (e.to ≡ j) × (o ≡ Some e.cost)
one_only i j None e c = absurd (Contains-nil e c)
one_only i j (Some n) e c = ⊎_elim
    (λ (same : record { from = i; to = j; cost = n } ≡ e). (sym (ap (λ (f : Edge). f.from) same), sym (ap (λ (f : Edge). f.to) same), ap (λ (f : Edge). Some f.cost) same))
    (λ (m : Contains [] e). absurd (Contains-nil e m))
    (Contains-cons_cases (record { from = i; to = j; cost = n }) e [] c)

module _ (last : ℕ → ℕ) (cycles : Held → Held → ℕ) (j : ℕ) (s : Held) where
  abbrev cost : ℕ → Held → Option ℕ
  cost i f = cost_held last i f s cycles

  has : (i k : ℕ) (firsts : List Held) (f : Held) (c m : ℕ) → slice_get firsts k ≡ Some f → m ≡ i + k → cost m f ≡ Some c → Contains (found last cycles j s i firsts) (record { from = m; to = j; cost = c })
  has i k [] f c m at is e = absurd (cc)
  has i zero (g ∷ firsts) f c m at is e =
      let same : g ≡ f = cc in
      let place : m ≡ i = omega arith in
      let it : cost i g ≡ Some c = ap (cost i) same ∙ (ap (λ (q : ℕ). cost q f) (sym place) ∙ e) in
      Contains-append_left (edge_by i j (cost i g)) (found last cycles j s (suc i) firsts) (record { from = m; to = j; cost = c })
      (rw (it, place) (Contains-head (record { from = i; to = j; cost = c }) []))
  has i (suc k) (g ∷ firsts) f c m at is e =
      Contains-append_right (edge_by i j (cost i g)) (found last cycles j s (suc i) firsts) (record { from = m; to = j; cost = c }) (has (suc i) k firsts f c m at (omega arith) e)

  only : (i : ℕ) (firsts : List Held) (e : Edge) → Contains (found last cycles j s i firsts) e → From cost i j firsts e
  only i [] e c = absurd (Contains-nil e c)
  only i (g ∷ firsts) e c = ⊎_elim
      (λ (here : Contains (edge_by i j (cost i g)) e).
      let (from, to, is) = one_only i j (cost i g) e here in
      record { place = zero; first = g; at = refl; is_from = omega arith; is_to = to; is_cost = let z : i + zero ≡ i = omega arith in ap (λ (q : ℕ). cost q g) z ∙ is })
      (λ (there : Contains (found last cycles j s (suc i) firsts) e).
      let r = only (suc i) firsts e there in
      record {
        place = suc r.place;
        first = r.first;
        at = r.at;
        is_from = let h = r.is_from in omega arith;
        is_to = r.is_to;
        is_cost = let z : i + suc r.place ≡ suc i + r.place = omega arith in ap (λ (q : ℕ). cost q r.first) z ∙ r.is_cost;
      })
      (Contains-append_cases (edge_by i j (cost i g)) (found last cycles j s (suc i) firsts) e c)

  once : (i : ℕ) (firsts : List Held) → AllPairs Apart (found last cycles j s i firsts)
  once i [] = pairs_none Apart
  once i (g ∷ firsts) = AllPairs-append Apart (edge_by i j (cost i g)) (found last cycles j s (suc i) firsts) (pairs_one Apart i j (cost i g)) (once (suc i) firsts)
      (λ a b m n from to.
      let (is, rest) = one_only_from i j (cost i g) a m in
      let r = only (suc i) firsts b n in
      let h = r.is_from in
      absurd (omega arith))
    where
      one_only_from : (i j : ℕ) (o : Option ℕ) (e : Edge) → Contains (edge_by i j o) e → (e.from ≡ i) × (e.to ≡ j)
      one_only_from i j o e c = let (f, t, is) = one_only i j o e c in (f, t)

  before : (i : ℕ) (firsts : List Held) → i + length firsts ≤ j → AllPairs Before (found last cycles j s i firsts)
  before i [] le = pairs_none Before
  before i (g ∷ firsts) le = AllPairs-append Before (edge_by i j (cost i g)) (found last cycles j s (suc i) firsts) (pairs_one Before i j (cost i g)) (before (suc i) firsts (omega arith))
      (λ a b m n.
      let (f, t, is) = one_only i j (cost i g) a m in
      let r = only (suc i) firsts b n in
      let h = r.is_to in
      omega arith)

pub slice_get-take : {X : Type 0} (xs : List X) (n k : ℕ) → k < n → slice_get (take n xs) k ≡ slice_get xs k
slice_get-take [] zero k lt = absurd (omega arith)
slice_get-take [] (suc n) k lt = refl
slice_get-take (x ∷ xs) zero k lt = absurd (omega arith)
slice_get-take (x ∷ xs) (suc n) zero lt = refl
slice_get-take (x ∷ xs) (suc n) (suc k) lt = slice_get-take xs n k (omega arith)

pub length-take_at : {X : Type 0} (xs : List X) (n : ℕ) → length (take n xs) ≤ n
length-take_at [] zero = omega arith
length-take_at [] (suc n) = omega arith
length-take_at (x ∷ xs) zero = omega arith
length-take_at (x ∷ xs) (suc n) = let h = length-take_at xs n in omega arith

-- An edge that was found: between two instructions, at the cost of the second's dependence on the first.
pub record Found (cycles : Held → Held → ℕ) (nodes : List Held) (n : ℕ) (e : Edge) : Type 0 where
  pub first : Held
  pub second : Held
  pub at_from : slice_get nodes e.from ≡ Some first
  pub at_to : slice_get nodes e.to ≡ Some second
  pub upward : e.from < e.to
  pub inside : e.to < n
  pub is_cost : cost_held (last_of nodes e.to) e.from first second cycles ≡ Some e.cost

module _ (cycles : Held → Held → ℕ) (nodes : List Held) where
  to_has : (i j : ℕ) (o : Option Held) (f s : Held) (c : ℕ) → i < j → o ≡ Some s → slice_get nodes i ≡ Some f → cost_held (last_of nodes j) i f s cycles ≡ Some c → Contains (edges_to cycles nodes j o) (record { from = i; to = j; cost = c })
  to_has i j None f s c lt is at e = absurd (cc)
  to_has i j (Some u) f s c lt is at e =
      let same : u ≡ s = cc in
      rw same (has (last_of nodes j) cycles j s 0 i (take j nodes) f c i (slice_get-take nodes j i lt ∙ at) (omega arith) e)

  to_only : (j : ℕ) (o : Option Held) (e : Edge) → slice_get nodes j ≡ o → Contains (edges_to cycles nodes j o) e → Found cycles nodes (suc j) e
  to_only j None e is c = absurd (Contains-nil e c)
  to_only j (Some s) e is c =
      let r = only (last_of nodes j) cycles j s 0 (take j nodes) e c in
      let from : e.from ≡ r.place = let h = r.is_from in omega arith in
      let short = length-take_at nodes j in
      let lt : r.place < j = let h = slice_get_within (take j nodes) r.place r.first r.at in omega arith in
      let to : e.to ≡ j = r.is_to in
      let zero_on : zero + r.place ≡ e.from = omega arith in
      record {
        first = r.first;
        second = s;
        at_from = ap (slice_get nodes) from ∙ (sym (slice_get-take nodes j r.place lt) ∙ r.at);
        at_to = ap (slice_get nodes) to ∙ is;
        upward = omega arith;
        inside = omega arith;
        is_cost = ap (λ (q : ℕ). cost_held (last_of nodes q) e.from r.first s cycles) to ∙ (ap (λ (q : ℕ). cost_held (last_of nodes j) q r.first s cycles) (sym zero_on) ∙ r.is_cost);
      }

  to_once : (j : ℕ) (o : Option Held) → AllPairs Apart (edges_to cycles nodes j o)
  to_once j None = pairs_none Apart
  to_once j (Some s) = once (last_of nodes j) cycles j s 0 (take j nodes)

  to_before : (j : ℕ) (o : Option Held) → AllPairs Before (edges_to cycles nodes j o)
  to_before j None = pairs_none Before
  to_before j (Some s) = let short = length-take_at nodes j in before (last_of nodes j) cycles j s 0 (take j nodes) (omega arith)

  pub all_has : (n i j : ℕ) (f s : Held) (c : ℕ) → i < j → j < n → slice_get nodes i ≡ Some f → slice_get nodes j ≡ Some s → cost_held (last_of nodes j) i f s cycles ≡ Some c → Contains (all_found cycles nodes n) (record { from = i; to = j; cost = c })
  all_has zero i j f s c lt within at_i at_j e = absurd (omega arith)
  all_has (suc n) i j f s c lt within at_i at_j e = ⊎_elim
      (λ (less : j < n). Contains-append_left (all_found cycles nodes n) (edges_to cycles nodes n (slice_get nodes n)) (record { from = i; to = j; cost = c }) (all_has n i j f s c lt less at_i at_j e))
      (λ (more : n ≤ j).
      let same : n ≡ j = omega arith in
      Contains-append_right (all_found cycles nodes n) (edges_to cycles nodes n (slice_get nodes n)) (record { from = i; to = j; cost = c })
      (rw same (to_has i j (slice_get nodes j) f s c lt at_j at_i e)))
      (cases_lt j n)

  pub all_only : (n : ℕ) (e : Edge) → Contains (all_found cycles nodes n) e → Found cycles nodes n e
  all_only zero e c = absurd (Contains-nil e c)
  all_only (suc n) e c = ⊎_elim
      (λ (there : Contains (all_found cycles nodes n) e).
      let r = all_only n e there in
      record { first = r.first; second = r.second; at_from = r.at_from; at_to = r.at_to; upward = r.upward; inside = let h = r.inside in omega arith; is_cost = r.is_cost })
      (λ (here : Contains (edges_to cycles nodes n (slice_get nodes n)) e). to_only n (slice_get nodes n) e refl here)
      (Contains-append_cases (all_found cycles nodes n) (edges_to cycles nodes n (slice_get nodes n)) e c)

  -- an edge that leads to a place
  leads_to : (j : ℕ) (e : Edge) → Contains (edges_to cycles nodes j (slice_get nodes j)) e → e.to ≡ j
  leads_to j e c = go (slice_get nodes j) c
    where
      go : (o : Option Held) → Contains (edges_to cycles nodes j o) e → e.to ≡ j
      go None c' = absurd (Contains-nil e c')
      go (Some s) c' = let r = only (last_of nodes j) cycles j s 0 (take j nodes) e c' in r.is_to

  pub all_once : (n : ℕ) → AllPairs Apart (all_found cycles nodes n)
  all_once zero = pairs_none Apart
  all_once (suc n) = AllPairs-append Apart (all_found cycles nodes n) (edges_to cycles nodes n (slice_get nodes n)) (all_once n) (to_once n (slice_get nodes n))
      (λ a b m k from to.
      let r = all_only n a m in
      let h = r.inside in
      let g = leads_to n b k in
      absurd (omega arith))

  pub all_before : (n : ℕ) → AllPairs Before (all_found cycles nodes n)
  all_before zero = pairs_none Before
  all_before (suc n) = AllPairs-append Before (all_found cycles nodes n) (edges_to cycles nodes n (slice_get nodes n)) (all_before n) (to_before n (slice_get nodes n))
      (λ a b m k.
      let r = all_only n a m in
      let h = r.inside in
      let u = r.upward in
      let g = leads_to n b k in
      omega arith)
