-- Every block whose instructions have classes has a dependence graph.
use Rattle.std.proofs.Common.{◌≡◌, ◌≢◌, ℕ, zero, suc, ◌+◌, ◌<◌, ◌≤◌, ◌==◌, ◌⊎◌, inl, inr, ⊎_elim, Bool, true, false, cond, List, [], ◌∷◌, ◌++◌, length, map, All, Contains, refl, sym, ap, ◌∙◌, subst, arith}
use Rattle.std.specs.Prelude.{Ok, Result, slice_index}
use Rattle.std.specs.List.{AllPairs}
use Rattle.std.proofs.lemmas.Bool.{cases_lt, eq-eqb, ne_eqb}
use Rattle.std.proofs.lemmas.List.{length-map}
use Rattle.std.proofs.lemmas.List.Elements.{All-head, All-tail, Contains-append_left, Contains-append_right, Contains-append_cases}
use Rattle.hz_base_model.proofs.Ascending.{AllPairs-append}
use Rattle.hz_base_model.proofs.Elements.{Contains-nil, Contains-head, Contains-tail, Contains-cons_cases}
use Rattle.hz_description_model.specs.Reading.Descriptions.{Description}
use Rattle.hz_block_model.specs.Running.Blocks.{Instruction}
use Rattle.hz_block_model.specs.Dependences.Classes.{ClassFault}
use Rattle.hz_block_model.specs.Dependences.Dependences.{depends, cost, Timing}
use Rattle.hz_block_model.specs.Dependences.Graphs.{Edge, edge, IsGraph, IsHeight}
use Rattle.hz_block_model.proofs.Dependences.UpwardLaws.{upwards}
use Rattle.hz_block_model.specs.Scheduling.Schedules.{Node, Graph}
use Rattle.hz_block_model.specs.Scheduled.BlockGraphs.{class_in, latencies_in, timing_in, classes_of, IsGraphOf}
use Rattle.hz_block_model.proofs.Scheduled.GraphLaws.{HasClass}
use Rattle.hz_pipeline_model.proofs.Decidable.DecidedLaws.{IsDecided, same_reported}

-- ---- edges

abbrev edge_if : Bool → Edge → List Edge
edge_if true e = e ∷ []
edge_if false e = []

if_there : (b : Bool) (e : Edge) → b ≡ true → Contains (edge_if b e) e
if_there true e is = Contains-head e []
if_there false e is = absurd (cc)

from_if : (b : Bool) (e f : Edge) → Contains (edge_if b e) f → (b ≡ true) × (e ≡ f)
from_if true e f there = ⊎_elim (λ (same : e ≡ f). (refl, same)) (λ (none : Contains [] f). absurd (Contains-nil f none)) (Contains-cons_cases e f [] there)
from_if false e f there = absurd (Contains-nil f there)

-- edges of different places
abbrev Apart : Edge → Edge → Type 0
Apart a b = a.from ≡ b.from → a.to ≡ b.to → ⊥

if_once : (b : Bool) (e : Edge) → AllPairs Apart (edge_if b e)
if_once true e = λ i j d lt within. absurd (omega (arith, lt, within))
if_once false e = λ i j d lt within. absurd (omega (arith, lt, within))

module _ (block : List Instruction) (t : Timing) where
  -- the edges that lead to a place from those below another
  abbrev edges_into : ℕ → ℕ → List Edge
  edges_into j zero = []
  edges_into j (suc i) = edges_into j i ++ edge_if (depends block i j) (edge block t i j)

  -- the edges that lead to the places below one
  abbrev edges_below : ℕ → List Edge
  edges_below zero = []
  edges_below (suc j) = edges_below j ++ edges_into j j

  into_each : (j k i : ℕ) → i < k → depends block i j ≡ true → Contains (edges_into j k) (edge block t i j)
  into_each j zero i low is = absurd (omega arith)
  into_each j (suc k) i low is = ⊎_elim
      (λ (less : i < k). Contains-append_left (edges_into j k) (edge_if (depends block k j) (edge block t k j)) (edge block t i j) (into_each j k i less is))
      (λ (high : k ≤ i). let same : i ≡ k = omega arith in
      subst (λ (n : ℕ). Contains (edges_into j (suc k)) (edge block t n j)) (sym same)
      (Contains-append_right (edges_into j k) (edge_if (depends block k j) (edge block t k j)) (edge block t k j) (if_there (depends block k j) (edge block t k j) (ap (λ (n : ℕ). depends block n j) (sym same) ∙ is))))
      (cases_lt i k)

  into_only : (j k : ℕ) (e : Edge) → Contains (edges_into j k) e → (i : ℕ) × (i < k) × (depends block i j ≡ true) × (edge block t i j ≡ e)
  into_only j zero e there = absurd (Contains-nil e there)
  into_only j (suc k) e there = ⊎_elim
      (λ (m : Contains (edges_into j k) e). let (i, low, is, same) = into_only j k e m in (i, omega arith, is, same))
      (λ (m : Contains (edge_if (depends block k j) (edge block t k j)) e). let (is, same) = from_if (depends block k j) (edge block t k j) e m in (k, omega arith, is, same))
      (Contains-append_cases (edges_into j k) (edge_if (depends block k j) (edge block t k j)) e there)

  into_once : (j k : ℕ) → AllPairs Apart (edges_into j k)
  into_once j zero = λ a b d lt within. absurd (omega (arith, lt, within))
  into_once j (suc k) = AllPairs-append Apart (edges_into j k) (edge_if (depends block k j) (edge block t k j)) (into_once j k) (if_once (depends block k j) (edge block t k j))
      (λ a b here there from to.
      let (i, low, is, same) = into_only j k a here in
      let last = (from_if (depends block k j) (edge block t k j) b there).1 in
      let one = ap (λ (e : Edge). e.from) same in
      let other = ap (λ (e : Edge). e.from) last in
      omega (arith, one, other, from, low))

  below_each : (m i j : ℕ) → j < m → depends block i j ≡ true → Contains (edges_below m) (edge block t i j)
  below_each zero i j low is = absurd (omega arith)
  below_each (suc m) i j low is = ⊎_elim
      (λ (less : j < m). Contains-append_left (edges_below m) (edges_into m m) (edge block t i j) (below_each m i j less is))
      (λ (high : m ≤ j). let same : m ≡ j = omega arith in
      let up = (upwards block i j is).0 in
      Contains-append_right (edges_below m) (edges_into m m) (edge block t i j) (subst (λ (n : ℕ). Contains (edges_into n n) (edge block t i j)) (sym same) (into_each j j i up is)))
      (cases_lt j m)

  below_only : (m : ℕ) (e : Edge) → Contains (edges_below m) e → (i j : ℕ) × (j < m) × (i < j) × (depends block i j ≡ true) × (edge block t i j ≡ e)
  below_only zero e there = absurd (Contains-nil e there)
  below_only (suc m) e there = ⊎_elim
      (λ (k : Contains (edges_below m) e). let (i, j, low, up, is, same) = below_only m e k in (i, j, omega arith, up, is, same))
      (λ (k : Contains (edges_into m m) e). let (i, up, is, same) = into_only m m e k in (i, m, omega arith, up, is, same))
      (Contains-append_cases (edges_below m) (edges_into m m) e there)

  below_once : (m : ℕ) → AllPairs Apart (edges_below m)
  below_once zero = λ a b d lt within. absurd (omega (arith, lt, within))
  below_once (suc m) = AllPairs-append Apart (edges_below m) (edges_into m m) (below_once m) (into_once m m)
      (λ a b here there from to.
      let (i, j, low, up, is, same) = below_only m a here in
      let (k, less, also, last) = into_only m m b there in
      let one = ap (λ (e : Edge). e.to) same in
      let other = ap (λ (e : Edge). e.to) last in
      omega (arith, one, other, to, low))

  some_edges : IsGraph block t (edges_below (length block))
  some_edges = record {
    each = λ i j low within is. below_each (length block) i j within is;
    only = λ e there. let (i, j, low, up, is, same) = below_only (length block) e there in
        subst (λ (f : Edge). (f.from < f.to) × (f.to < length block) × (depends block f.from f.to ≡ true) × (f.cost ≡ cost block t f.from f.to)) same (up, low, is, refl);
    once = below_once (length block);
  }

-- ---- heights

module _ (edges : List Edge) (latency : List ℕ) where
  -- What is asked of a height, of heights by their places.
  pub record IsHeightOf (h : ℕ → ℕ) (i : ℕ) : Type 0 where
    pub none : ((e : Edge) → Contains edges e → e.from ≡ i → ⊥) → h i ≡ slice_index latency i
    pub least : (e : Edge) → Contains edges e → e.from ≡ i → e.cost + h e.to ≤ h i
    pub reached : (e : Edge) → Contains edges e → e.from ≡ i → (f : Edge) × Contains edges f × (f.from ≡ i) × (h i ≡ f.cost + h f.to)

  -- the same of heights that agree on a place and on those that its edges lead to
  height_again : (h o : ℕ → ℕ) (i : ℕ) → h i ≡ o i → ((e : Edge) → Contains edges e → e.from ≡ i → h e.to ≡ o e.to) → IsHeightOf h i → IsHeightOf o i
  height_again h o i here there is = record {
    none = λ none. sym here ∙ is.none none;
    least = λ e c from. let low = is.least e c from in let same = there e c from in omega arith;
    reached = λ e c from. let (f, inside, also, equal) = is.reached e c from in let same = there f inside also in (f, inside, also, omega arith);
  }

  -- An edge from a place that asks most.
  record IsMost (xs : List Edge) (h : ℕ → ℕ) (i : ℕ) (f : Edge) : Type 0 where
    there : Contains xs f
    from : f.from ≡ i
    most : (e : Edge) → Contains xs e → e.from ≡ i → e.cost + h e.to ≤ f.cost + h f.to

  most_of : (h : ℕ → ℕ) (i : ℕ) (xs : List Edge) → ((f : Edge) × IsMost xs h i f) ⊎ ((e : Edge) → Contains xs e → e.from ≡ i → ⊥)
  most_of h i [] = inr (λ e there from. Contains-nil e there)
  most_of h i (x ∷ xs) = go (same_reported x.from i) (most_of h i xs)
    where
      go : IsDecided (x.from ≡ i) → ((f : Edge) × IsMost xs h i f) ⊎ ((e : Edge) → Contains xs e → e.from ≡ i → ⊥) → ((f : Edge) × IsMost (x ∷ xs) h i f) ⊎ ((e : Edge) → Contains (x ∷ xs) e → e.from ≡ i → ⊥)
      go (inr other) (inr none) = inr (λ e c from. ⊎_elim
          (λ (same : x ≡ e). other (ap (λ (f : Edge). f.from) same ∙ from))
          (λ (m : Contains xs e). none e m from)
          (Contains-cons_cases x e xs c))
      go (inr other) (inl (f, is)) = inl (
        f,
        record {
          there = Contains-tail x f xs is.there;
          from = is.from;
          most = λ e c from. ⊎_elim
              (λ (same : x ≡ e). absurd (other (ap (λ (f : Edge). f.from) same ∙ from)))
              (λ (m : Contains xs e). is.most e m from)
              (Contains-cons_cases x e xs c);
        },
      )
      go (inl here) (inr none) = inl (
        x,
        record {
          there = Contains-head x xs;
          from = here;
          most = λ e c from. ⊎_elim
              (λ (same : x ≡ e). let equal = ap (λ (f : Edge). f.cost + h f.to) same in omega (arith, equal))
              (λ (m : Contains xs e). absurd (none e m from))
              (Contains-cons_cases x e xs c);
        },
      )
      go (inl here) (inl (f, is)) = ⊎_elim
          (λ (more : f.cost + h f.to < x.cost + h x.to). inl (
            x,
            record {
              there = Contains-head x xs;
              from = here;
              most = λ e c from. ⊎_elim
                  (λ (same : x ≡ e). let equal = ap (λ (f : Edge). f.cost + h f.to) same in omega (arith, equal))
                  (λ (m : Contains xs e). let low = is.most e m from in omega (arith, more, low))
                  (Contains-cons_cases x e xs c);
            },
          ))
          (λ (less : x.cost + h x.to ≤ f.cost + h f.to). inl (
            f,
            record {
              there = Contains-tail x f xs is.there;
              from = is.from;
              most = λ e c from. ⊎_elim
                  (λ (same : x ≡ e). let equal = ap (λ (f : Edge). f.cost + h f.to) same in omega (arith, equal, less))
                  (λ (m : Contains xs e). is.most e m from)
                  (Contains-cons_cases x e xs c);
            },
          ))
          (cases_lt (f.cost + h f.to) (x.cost + h x.to))

  -- one more height
  abbrev put : (ℕ → ℕ) → ℕ → ℕ → ℕ → ℕ
  put h k v i = cond (i == k) v (h i)

  put_here : (h : ℕ → ℕ) (k v : ℕ) → put h k v k ≡ v
  put_here h k v = ap (λ (b : Bool). cond b v (h k)) (eq-eqb k k refl)

  put_other : (h : ℕ → ℕ) (k v i : ℕ) → i ≢ k → put h k v i ≡ h i
  put_other h k v i ne = ap (λ (b : Bool). cond b v (h i)) (ne_eqb i k ne)

  module _ (n : ℕ) (upward : (e : Edge) → Contains edges e → (e.from < e.to) × (e.to < n)) where
    -- A height of one place, by those of the places above it.
    record IsNew (h : ℕ → ℕ) (k v : ℕ) : Type 0 where
      none : ((e : Edge) → Contains edges e → e.from ≡ k → ⊥) → v ≡ slice_index latency k
      least : (e : Edge) → Contains edges e → e.from ≡ k → e.cost + h e.to ≤ v
      reached : (e : Edge) → Contains edges e → e.from ≡ k → (f : Edge) × Contains edges f × (f.from ≡ k) × (v ≡ f.cost + h f.to)

    new_height : (h : ℕ → ℕ) (k : ℕ) → (v : ℕ) × IsNew h k v
    new_height h k = ⊎_elim
        (λ (most : (f : Edge) × IsMost edges h k f). let f = most.0 in let is = most.1 in
        (f.cost + h f.to, record { none = λ none. absurd (none f is.there is.from); least = λ e c from. is.most e c from; reached = λ e c from. (f, is.there, is.from, refl) }))
        (λ (none : (e : Edge) → Contains edges e → e.from ≡ k → ⊥).
        (slice_index latency k, record { none = λ same. refl; least = λ e c from. absurd (none e c from); reached = λ e c from. absurd (none e c from) }))
        (most_of h k edges)

    put_new : (h : ℕ → ℕ) (k v : ℕ) → IsNew h k v → IsHeightOf (put h k v) k
    put_new h k v is = record {
      none = λ none. put_here h k v ∙ is.none none;
      least = λ e c from.
          let up = (upward e c).0 in
          let same = put_other h k v e.to (λ (equal : e.to ≡ k). omega (arith, up, equal, from)) in
          let low = is.least e c from in
          omega (arith, same, low, put_here h k v);
      reached = λ e c from.
          let (f, inside, also, equal) = is.reached e c from in
          let up = (upward f inside).0 in
          let same = put_other h k v f.to (λ (again : f.to ≡ k). omega (arith, up, again, also)) in
          (f, inside, also, omega (arith, same, equal, put_here h k v));
    }

    put_above : (h : ℕ → ℕ) (k v i : ℕ) → k < i → IsHeightOf h i → IsHeightOf (put h k v) i
    put_above h k v i above is = height_again h (put h k v) i (sym (put_other h k v i (λ (same : i ≡ k). omega (arith, above, same))))
        (λ e c from. let up = (upward e c).0 in sym (put_other h k v e.to (λ (same : e.to ≡ k). omega (arith, up, from, above, same)))) is

    heights_from : (m k : ℕ) → k + m ≡ n → (h : ℕ → ℕ) × ((i : ℕ) → k ≤ i → i < n → IsHeightOf h i)
    heights_from zero k all = (λ i. 0, λ i low within. absurd (omega arith))
    heights_from (suc m) k all =
        let (h, each) = heights_from m (suc k) (omega arith) in
        let (v, is) = new_height h k in (
          put h k v,
          λ i low within. ⊎_elim
              (λ (above : k < i). put_above h k v i above (each i (omega arith) within))
              (λ (same : i ≤ k). let equal : k ≡ i = omega arith in subst (IsHeightOf (put h k v)) equal (put_new h k v is))
              (cases_lt k i),
        )

    pub some_heights : (h : ℕ → ℕ) × ((i : ℕ) → i < n → IsHeightOf h i)
    some_heights = let (h, each) = heights_from n 0 (omega arith) in (h, λ i within. each i (omega arith) within)

-- ---- nodes

abbrev nodes_from : (ℕ → ℕ) → ℕ → List ℕ → List Node
nodes_from h i [] = []
nodes_from h i (c ∷ classes) = record { class = c; height = h i } ∷ nodes_from h (suc i) classes

nodes_classes : (h : ℕ → ℕ) (i : ℕ) (classes : List ℕ) → map (λ n. n.class) (nodes_from h i classes) ≡ classes
nodes_classes h i [] = refl
nodes_classes h i (c ∷ classes) = ap (λ (cs : List ℕ). c ∷ cs) (nodes_classes h (suc i) classes)

nodes_heights : (h : ℕ → ℕ) (i : ℕ) (classes : List ℕ) (k : ℕ) → k < length classes → slice_index (map (λ n. n.height) (nodes_from h i classes)) k ≡ h (i + k)
nodes_heights h i [] k low = absurd (omega arith)
nodes_heights h i (c ∷ classes) zero low = let same : i ≡ i + 0 = omega arith in ap h same
nodes_heights h i (c ∷ classes) (suc k) low = let same : suc i + k ≡ i + suc k = omega arith in nodes_heights h (suc i) classes k (omega arith) ∙ ap h same

nodes_length : (h : ℕ → ℕ) (i : ℕ) (classes : List ℕ) → length (nodes_from h i classes) ≡ length classes
nodes_length h i [] = refl
nodes_length h i (c ∷ classes) = ap suc (nodes_length h (suc i) classes)

-- ---- graphs

abbrev good : ℕ → Result ℕ ClassFault
good class = Ok class

classes_given : (d : Description) (block : List Instruction) → All (HasClass d) block → (classes : List ℕ) × (map good classes ≡ map (class_in d) block)
classes_given d [] all = ([], refl)
classes_given d (i ∷ block) all =
    let (class, is) = All-head (HasClass d) i block all in
    let (classes, are) = classes_given d block (All-tail (HasClass d) i block all) in
    (class ∷ classes, ap (λ (r : Result ℕ ClassFault). r ∷ map good classes) (sym is) ∙ ap (λ (rs : List (Result ℕ ClassFault)). class_in d i ∷ rs) are)

pub some_graph : (d : Description) (block : List Instruction) → All (HasClass d) block → (g : Graph) × IsGraphOf d block g
some_graph d block all = (
  g,
  record {
    classes = ap (map good) same ∙ are;
    edges = subst (λ (cs : List ℕ). IsGraph block (timing_in d cs block) edges) (sym same) (some_edges block (timing_in d classes block));
    heights = λ i low. subst (λ (cs : List ℕ). IsHeight edges (map (slice_index (latencies_in d)) cs) (map (λ n. n.height) g.nodes) i) (sym same) (height_at_place i (omega (arith, low, nodes_length h 0 classes)));
  },
)
  where
    classes : List ℕ
    classes = (classes_given d block all).0

    are : map good classes ≡ map (class_in d) block
    are = (classes_given d block all).1

    edges : List Edge
    edges = edges_below block (timing_in d classes block) (length block)

    latency : List ℕ
    latency = map (slice_index (latencies_in d)) classes

    upward : (e : Edge) → Contains edges e → (e.from < e.to) × (e.to < length block)
    upward e there = let (up, inside, is, weight) = (some_edges block (timing_in d classes block)).only e there in (up, inside)

    h : ℕ → ℕ
    h = (some_heights edges latency (length block) upward).0

    many : length classes ≡ length block
    many = let one = length-map classes good in let other = length-map block (class_in d) in omega (arith, one, other, ap length are)

    g : Graph
    g = record { nodes = nodes_from h 0 classes; edges = edges }

    same : classes_of g ≡ classes
    same = nodes_classes h 0 classes

    at_place : (i : ℕ) → i < length classes → slice_index (map (λ n. n.height) g.nodes) i ≡ h i
    at_place i low = let equal : 0 + i ≡ i = omega arith in nodes_heights h 0 classes i low ∙ ap h equal

    height_at_place : (i : ℕ) → i < length classes → IsHeight edges latency (map (λ n. n.height) g.nodes) i
    height_at_place i low =
        let is = (some_heights edges latency (length block) upward).1 i (omega (arith, low, many)) in
        record {
          none = λ none. at_place i low ∙ is.none none;
          least = λ e c from.
              let least = is.least e c from in
              let (up, inside) = upward e c in
              let there = at_place e.to (omega (arith, inside, many)) in
              let here = at_place i low in
              omega (arith, there, here, least);
          reached = λ e c from.
              let (f, is_in, also, equal) = is.reached e c from in
              let (up, inside) = upward f is_in in
              let there = at_place f.to (omega (arith, inside, many)) in
              let here = at_place i low in
              (f, is_in, also, omega (arith, there, here, equal));
        }
