-- What a legal schedule of two joined graphs keeps of each, and what it leaves each context.
use Rattle.std.proofs.Common.{◌≡◌, ℕ, ◌+◌, ◌-◌, ◌<◌, ◌≤◌, ◌==◌, ◌⊎◌, ⊎_elim, Bool, true, false, cond, List, [], ◌∷◌, ◌++◌, map, filter, length, Contains, refl, sym, ap, ◌∙◌, subst, arith, zero-add}
use Rattle.std.specs.Prelude.{slice_get}
use Rattle.std.specs.List.{AllPairs, range_with_len}
use Rattle.std.proofs.lemmas.Bool.{eqb-true, lt-ltb, le-ltb, cases_lt}
use Rattle.std.proofs.lemmas.List.{length-append, map-append}
use Rattle.std.proofs.lemmas.List.Kept.{AllPairs-filter}
use Rattle.std.proofs.lemmas.List.Elements.{Contains-append_left, Contains-append_right}
use Rattle.hz_base_model.proofs.Elements.{Contains-head, Contains-tail, Contains-map, Contains-from_map, Contains-filter, Contains-from_filter}
use Rattle.hz_base_model.proofs.Ascending.{AllPairs-map}
use Rattle.hz_pipeline_model.specs.Accepting.Events.{Event}
use Rattle.hz_block_model.specs.Running.Blocks.{Instruction}
use Rattle.hz_block_model.specs.Running.States.{State, after_place, run}
use Rattle.hz_block_model.specs.Dependences.Dependences.{Timing}
use Rattle.hz_block_model.specs.Dependences.Graphs.{Edge, IsGraph}
use Rattle.hz_block_model.specs.Dependences.Orders.{IsOrder, KeepsEdges}
use Rattle.hz_block_model.proofs.Dependences.UpwardLaws.{keeps_from_edges}
use Rattle.hz_block_model.proofs.Dependences.OrderLaws.{commutes}
use Rattle.hz_block_model.specs.Scheduling.Schedules.{Graph, Slot, places, IsReady, Legal}
use Rattle.hz_block_model.proofs.Scheduling.SlotLaws.{at_place}
use Rattle.hz_measure_model.specs.TwoContexts.Joining.{raised, joined, ContextSlot, in_context, own, order_of, run_two}

-- What slots keep of a graph: each instruction stands there once, cycles don't fall, and each edge is kept.
pub record KeepsGraph (g : Graph) (slots : List Slot) : Type 0 where
  pub each : IsOrder (length g.nodes) (places slots)
  pub rising : AllPairs (λ x y. x.cycle ≤ y.cycle) slots
  pub kept : (before after : List Slot) (x : Slot) → slots ≡ before ++ x ∷ after → IsReady g before x.cycle x.place

-- No edge leads out of the graph.
pub record IsWithin (g : Graph) : Type 0 where
  pub from : (e : Edge) → Contains g.edges e → e.from < length g.nodes
  pub to : (e : Edge) → Contains g.edges e → e.to < length g.nodes

-- ---- what passes a test, mapped

module _ {A B : Type 0} (p : A → Bool) (f : A → B) where
  abbrev kept : List A → List B
  kept xs = map f (filter p xs)

  pub record KeptIn (xs : List A) (front : List B) (y : B) : Type 0 where
    pub item : A
    pub before : List A
    pub after : List A
    pub parts : xs ≡ before ++ item ∷ after
    pub passes : p item ≡ true
    pub is : f item ≡ y
    pub mapped : kept before ≡ front

  further : (z : A) (xs : List A) (front : List B) (y : B) → (b : Bool) → p z ≡ b → KeptIn xs front y → KeptIn (z ∷ xs) (cond b (f z ∷ front) front) y
  further z xs front y b e k = record {
    item = k.item;
    before = z ∷ k.before;
    after = k.after;
    parts = ap (λ (zs : List A). z ∷ zs) k.parts;
    passes = k.passes;
    is = k.is;
    mapped = mapped b e;
  }
    where
      mapped : (b : Bool) → p z ≡ b → kept (z ∷ k.before) ≡ cond b (f z ∷ front) front
      mapped true e = ap (λ (c : Bool). map f (cond c (z ∷ filter p k.before) (filter p k.before))) e ∙ ap (λ (ys : List B). f z ∷ ys) k.mapped
      mapped false e = ap (λ (c : Bool). map f (cond c (z ∷ filter p k.before) (filter p k.before))) e ∙ k.mapped

  pub before_kept : (xs : List A) (front : List B) (y : B) (beyond : List B) → kept xs ≡ front ++ y ∷ beyond → KeptIn xs front y
  before_kept [] [] y beyond e = absurd (cc)
  before_kept [] (z ∷ front) y beyond e = absurd (cc)
  before_kept (x ∷ xs) front y beyond e = go (p x) refl e (λ front e. before_kept xs front y beyond e)
    where
      here : p x ≡ true → (front : List B) → f x ∷ kept xs ≡ front ++ y ∷ beyond → ((front : List B) → kept xs ≡ front ++ y ∷ beyond → KeptIn xs front y) → KeptIn (x ∷ xs) front y
      here passes [] e later = record { item = x; before = []; after = xs; parts = refl; passes = passes; is = cc; mapped = refl }
      here passes (z ∷ front) e later =
          let tail : kept xs ≡ front ++ y ∷ beyond = cc in
          let head : f x ≡ z = cc in
          subst (λ (w : B). KeptIn (x ∷ xs) (w ∷ front) y) head (further x xs front y true passes (later front tail))

      go : (b : Bool) → p x ≡ b → map f (cond b (x ∷ filter p xs) (filter p xs)) ≡ front ++ y ∷ beyond → ((front : List B) → kept xs ≡ front ++ y ∷ beyond → KeptIn xs front y) → KeptIn (x ∷ xs) front y
      go true passes e later = here passes front e later
      go false fails e later = further x xs front y false fails (later front e)

  pub has_kept : (xs : List A) (x : A) → p x ≡ true → Contains xs x → Contains (kept xs) (f x)
  has_kept xs x passes there = Contains-map f (filter p xs) x (Contains-filter p x passes xs there)

  pub from_kept : (xs : List A) (y : B) → Contains (kept xs) y → (x : A) × Contains xs x × (p x ≡ true) × (f x ≡ y)
  from_kept xs y there =
      let (x, inside, is) = Contains-from_map f (filter p xs) y there in
      let (held, passes) = Contains-from_filter p x xs inside in
      (x, held, passes, is)

-- ---- the slots of one context

-- The slots that pass a test are those of one graph of a larger one, whose places are raised by so many.
module _ (accepts : List Event → Type 0) (g all : Graph) (n : ℕ) (p : Slot → Bool) (low : Slot → Slot)
    (cycles : (x : Slot) → (low x).cycle ≡ x.cycle) (raises : (x : Slot) → p x ≡ true → x.place ≡ n + (low x).place) (passes : (x : Slot) (i : ℕ) → i < length g.nodes → x.place ≡ n + i → p x ≡ true)
    (lowers : (x : Slot) → p x ≡ true → x.place < length all.nodes → (low x).place < length g.nodes) (room : (i : ℕ) → i < length g.nodes → n + i < length all.nodes)
    (edges : (e : Edge) → Contains g.edges e → Contains all.edges (raised n e)) (within : IsWithin g) (slots : List Slot) (legal : Legal accepts all slots) where
  abbrev lowered : List Slot → List Slot
  lowered xs = kept p low xs

  same_place : (x : Slot) (i : ℕ) → p x ≡ true → x.place ≡ n + i → (low x).place ≡ i
  same_place x i pass e = omega (arith, raises x pass, e)

  held : (i : ℕ) → i < length g.nodes → Contains (places (lowered slots)) i
  held i lt =
      let (x, there, e) = Contains-from_map (λ (x : Slot). x.place) slots (n + i) ((legal.order).each (n + i) (room i lt)) in
      let pass = passes x i lt e in
      subst (Contains (places (lowered slots))) (same_place x i pass e) (Contains-map (λ (x : Slot). x.place) (lowered slots) (low x) (has_kept p low slots x pass there))

  only : (i : ℕ) → Contains (places (lowered slots)) i → i < length g.nodes
  only i there =
      let (y, inside, e) = Contains-from_map (λ (x : Slot). x.place) (lowered slots) i there in
      let (x, held, pass, is) = from_kept p low slots y inside in
      let small = lowers x pass ((legal.order).only x.place (Contains-map (λ (x : Slot). x.place) slots x held)) in
      omega (arith, small, e, ap (λ (z : Slot). z.place) is)

  once : (before after : List ℕ) (i : ℕ) → places (lowered slots) ≡ before ++ i ∷ after → Contains before i → ⊥
  once before after i e there =
      let a = at_place (lowered slots) before after i e in
      let k = before_kept p low slots a.front a.slot a.back a.all in
      let (y, inside, place) = Contains-from_map (λ (x : Slot). x.place) a.front i (subst (λ (ps : List ℕ). Contains ps i) (sym a.places_before) there) in
      let (x, held, pass, is) = from_kept p low k.before y (subst (λ (ys : List Slot). Contains ys y) (sym k.mapped) inside) in
      let parted : places slots ≡ places k.before ++ k.item.place ∷ places k.after = ap places k.parts ∙ map-append (λ (x : Slot). x.place) k.before (k.item ∷ k.after) in
      let one = raises x pass in
      let other = raises k.item k.passes in
      let mine = ap (λ (z : Slot). z.place) is in
      let yours = ap (λ (z : Slot). z.place) k.is in
      let same : x.place ≡ k.item.place = omega (arith, one, other, mine, yours, place, a.place) in
      (legal.order).once (places k.before) (places k.after) k.item.place parted (subst (Contains (places k.before)) same (Contains-map (λ (x : Slot). x.place) k.before x held))

  ready : (before after : List Slot) (x : Slot) → lowered slots ≡ before ++ x ∷ after → IsReady g before x.cycle x.place
  ready before after x e edge there to =
      let k = before_kept p low slots before x after e in
      let up = raises k.item k.passes in
      let is = ap (λ (z : Slot). z.place) k.is in
      let when = ap (λ (z : Slot). z.cycle) k.is in
      let (y, inside, place, late) = legal.kept k.before k.after k.item k.parts (raised n edge) (edges edge there) (omega (arith, up, is, to)) in
      let pass = passes y edge.from (within.from edge there) place in
      (low y, subst (λ (ys : List Slot). Contains ys (low y)) k.mapped (has_kept p low k.before y pass inside), same_place y edge.from pass place, omega (arith, late, when, cycles k.item, cycles y))

  pub keeps_graph : KeepsGraph g (lowered slots)
  keeps_graph = record {
    each = record { each = held; only = only; once = once };
    rising = AllPairs-map (λ x y. x.cycle ≤ y.cycle) (λ x y. x.cycle ≤ y.cycle) low (λ a b le. omega (arith, le, cycles a, cycles b)) (record { place = 0; cycle = 0 }) (filter p slots) (AllPairs-filter (λ x y. x.cycle ≤ y.cycle) p slots legal.rising);
    kept = ready;
  }

-- ---- both contexts

filter_map_is : {A B : Type 0} (q : B → Bool) (f : A → B) (xs : List A) → filter q (map f xs) ≡ map f (filter (λ x. q (f x)) xs)
filter_map_is q f [] = refl
filter_map_is q f (x ∷ xs) = go (q (f x)) (filter_map_is q f xs)
  where
    go : (b : Bool) → filter q (map f xs) ≡ map f (filter (λ x. q (f x)) xs) → cond b (f x ∷ filter q (map f xs)) (filter q (map f xs)) ≡ map f (cond b (x ∷ filter (λ x. q (f x)) xs) (filter (λ x. q (f x)) xs))
    go true e = ap (λ (ys : List _). f x ∷ ys) e
    go false e = e

map_map_is : {A B C : Type 0} (g : B → C) (f : A → B) (xs : List A) → map g (map f xs) ≡ map (λ x. g (f x)) xs
map_map_is g f [] = refl
map_map_is g f (x ∷ xs) = ap (λ (ys : List _). g (f x) ∷ ys) (map_map_is g f xs)

abbrev slot_of : ContextSlot → Slot
slot_of x = record { place = x.place; cycle = x.cycle }

module _ (n : ℕ) where
  pub is_first : (x : Slot) → x.place < n → in_context n x ≡ record { context = 1; place = x.place; cycle = x.cycle }
  is_first x lt = ap (λ (b : Bool). cond b (record { context = 1; place = x.place; cycle = x.cycle }) (record { context = 2; place = x.place - n; cycle = x.cycle })) (lt-ltb x.place n lt)

  pub is_second : (x : Slot) → n ≤ x.place → in_context n x ≡ record { context = 2; place = x.place - n; cycle = x.cycle }
  is_second x le = ap (λ (b : Bool). cond b (record { context = 1; place = x.place; cycle = x.cycle }) (record { context = 2; place = x.place - n; cycle = x.cycle })) (le-ltb x.place n le)

  abbrev of : ℕ → Slot → Bool
  of c x = (in_context n x).context == c

  abbrev low : Slot → Slot
  low x = slot_of (in_context n x)

  own_is : (c : ℕ) (slots : List Slot) → own c (map (in_context n) slots) ≡ kept (of c) low slots
  own_is c slots = ap (map slot_of) (filter_map_is (λ (x : ContextSlot). x.context == c) (in_context n) slots) ∙ map_map_is slot_of (in_context n) (filter (of c) slots)

  cycle_is : (x : Slot) → (low x).cycle ≡ x.cycle
  cycle_is x = ⊎_elim (λ (lt : x.place < n). ap (λ (y : ContextSlot). y.cycle) (is_first x lt)) (λ (le : n ≤ x.place). ap (λ (y : ContextSlot). y.cycle) (is_second x le)) (cases_lt x.place n)

  first_below : (x : Slot) → of 1 x ≡ true → x.place < n
  first_below x e = ⊎_elim (λ (lt : x.place < n). lt) (λ (le : n ≤ x.place). absurd (let is = eqb-true (in_context n x).context 1 e in let two = ap (λ (y : ContextSlot). y.context) (is_second x le) in omega (arith, is, two))) (cases_lt x.place n)

  second_above : (x : Slot) → of 2 x ≡ true → n ≤ x.place
  second_above x e = ⊎_elim (λ (lt : x.place < n). absurd (let is = eqb-true (in_context n x).context 2 e in let one = ap (λ (y : ContextSlot). y.context) (is_first x lt) in omega (arith, is, one))) (λ (le : n ≤ x.place). le) (cases_lt x.place n)

  first_place : (x : Slot) → x.place < n → (low x).place ≡ x.place
  first_place x lt = ap (λ (y : ContextSlot). y.place) (is_first x lt)

  second_place : (x : Slot) → n ≤ x.place → (low x).place ≡ x.place - n
  second_place x le = ap (λ (y : ContextSlot). y.place) (is_second x le)

module _ (accepts : List Event → Type 0) (g h : Graph) (slots : List Slot) (legal : Legal accepts (joined g h) slots) where
  abbrev n : ℕ
  n = length g.nodes

  abbrev all : Graph
  all = joined g h

  many : length all.nodes ≡ length g.nodes + length h.nodes
  many = length-append g.nodes h.nodes

  pub keeps_first : IsWithin g → KeepsGraph g (own 1 (map (in_context n) slots))
  keeps_first within = subst (KeepsGraph g) (sym (own_is n 1 slots)) (keeps_graph accepts g all 0 (of n 1) (low n) (cycle_is n)
      (λ x pass. omega (arith, first_place n x (first_below n x pass)))
      (λ x i lt e. ap (λ (y : ContextSlot). y.context == 1) (is_first n x (omega (arith, e, lt))))
      (λ x pass lt. omega (arith, first_place n x (first_below n x pass), first_below n x pass))
      (λ i lt. omega (arith, lt, many))
      (λ e there. Contains-append_left g.edges (map (raised n) h.edges) (raised 0 e) (subst (Contains g.edges) (unraised e) there))
      within slots legal)
    where
      unraised : (e : Edge) → e ≡ raised 0 e
      unraised e = rw (zero-add, zero-add) refl

  pub keeps_second : IsWithin h → KeepsGraph h (own 2 (map (in_context n) slots))
  keeps_second within = subst (KeepsGraph h) (sym (own_is n 2 slots)) (keeps_graph accepts h all n (of n 2) (low n) (cycle_is n)
      (λ x pass. let le = second_above n x pass in omega (arith, second_place n x le))
      (λ x i lt e. ap (λ (y : ContextSlot). y.context == 2) (is_second n x (omega (arith, e))))
      (λ x pass lt. let le = second_above n x pass in omega (arith, second_place n x le, lt, many))
      (λ i lt. omega (arith, lt, many))
      (λ e there. Contains-append_right g.edges (map (raised n) h.edges) (raised n e) (Contains-map (raised n) h.edges e there))
      within slots legal)

-- ---- what is left

-- an order that keeps a block's graph leaves what the order of the source leaves
pub graph_kept : (block : List Instruction) (t : Timing) (g : Graph) (slots : List Slot) → IsGraph block t g.edges → length g.nodes ≡ length block → KeepsGraph g slots → (s : State) → run block (places slots) s ≡ run block (range_with_len 0 (length block)) s
graph_kept block t g slots graph long keeps s = commutes block s (places slots) (rw (sym long) keeps.each) (keeps_from_edges block t g.edges (places slots) graph edges)
  where
    edges : KeepsEdges g.edges (places slots)
    edges before after e is there =
        let a = at_place slots before after e.to is in
        let (y, inside, place, late) = keeps.kept a.front a.back a.slot a.all e there (sym a.place) in
        subst (λ (ps : List ℕ). Contains ps e.from) a.places_before (subst (Contains (places a.front)) place (Contains-map (λ (z : Slot). z.place) a.front y inside))

-- both contexts run by themselves
pub run_two_is : (first second : List Instruction) (slots : List ContextSlot) → ((x : ContextSlot) → Contains slots x → (x.context ≡ 1) ⊎ (x.context ≡ 2)) → (s t : State)
    → run_two first second (order_of slots) s t ≡ (run first (places (own 1 slots)) s, run second (places (own 2 slots)) t)
run_two_is first second [] two s t = refl
run_two_is first second (x ∷ slots) two s t = ⊎_elim
    (λ (one : x.context ≡ 1). first_step one (run_two_is first second slots rest (after_place (slice_get first x.place) s) t))
    (λ (other : x.context ≡ 2). second_step other (run_two_is first second slots rest s (after_place (slice_get second x.place) t)))
    (two x (Contains-head x slots))
  where
    rest : (y : ContextSlot) → Contains slots y → (y.context ≡ 1) ⊎ (y.context ≡ 2)
    rest y there = two y (Contains-tail x y slots there)

    first_step : x.context ≡ 1 → run_two first second (order_of slots) (after_place (slice_get first x.place) s) t ≡ (run first (places (own 1 slots)) (after_place (slice_get first x.place) s), run second (places (own 2 slots)) t)
        → run_two first second (order_of (x ∷ slots)) s t ≡ (run first (places (own 1 (x ∷ slots))) s, run second (places (own 2 (x ∷ slots))) t)
    first_step one e = rw one e

    second_step : x.context ≡ 2 → run_two first second (order_of slots) s (after_place (slice_get second x.place) t) ≡ (run first (places (own 1 slots)) s, run second (places (own 2 slots)) (after_place (slice_get second x.place) t))
        → run_two first second (order_of (x ∷ slots)) s t ≡ (run first (places (own 1 (x ∷ slots))) s, run second (places (own 2 (x ∷ slots))) t)
    second_step other e = rw other e
