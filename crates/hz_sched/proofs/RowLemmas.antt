-- Rows of successors, and of ready instructions.
use Rattle.std.proofs.Common.{◌≡◌, ◌≢◌, ℕ, ◌+◌, ◌<◌, ◌==◌, Bool, true, false, cond, max, List, [], ◌∷◌, ◌++◌, length, get_or, set, map, filter, All, refl, sym, ap, ◌∙◌, subst, arith}
use Rattle.std.specs.declared.alloc.Global.{Global}
use Rattle.std.specs.declared.vec.Vec.{Vec}
use Rattle.std.proofs.lemmas.Bool.{eqb-true, eqb-false}
use Rattle.std.proofs.lemmas.List.{length-map, length-set, map-set, map-append, get_or-set_same, get_or-set_other, get_or-map, append-nil}
use Rattle.std.proofs.lemmas.List.Elements.{All-map, All-filter}
use Rattle.hz_block_model.specs.Dependences.Graphs.{Edge}
use Rattle.hz_depend.specs.declared.parts.Edge as depend
use Rattle.hz_depend.specs.GraphShape.{edge_of}
use Rattle.std.specs.Prelude.{slice_get}
use Rattle.std.specs.List.Sorted.{IsStrictlySortedBy}
use Rattle.std.specs.BTreeSet.{BTreeSet}
use Rattle.hz_sched.specs.declared.adjacency.Successor.{Successor}
use Rattle.hz_sched.specs.Rows.{edge_to, edges_to, row_at}
use Rattle.hz_sched.specs.Waits.{leading, ripe_from}
use Rattle.hz_sched.specs.Pending.{Key, Wait, key_cmp, keys_at, one_waits, all_wait, with_head, without_head, ChangesRow}

abbrev Rows : Type 0
Rows = List (Vec Successor Global)

abbrev successor_of : depend.Edge → Successor
successor_of e = record { place = e.to; cost = e.cost }

-- a row with one more edge
pub one_added : (rows : Rows) (old new : Vec Successor Global) (edge : depend.Edge) → edge.from < length rows → old ≡ get_or rows edge.from old → new.items ≡ old.items ++ successor_of edge ∷ []
    → (i : ℕ) → row_at (set rows edge.from new) i ≡ row_at rows i ++ filter (λ e. e.from == i) (edge_of edge ∷ [])
one_added rows old new edge within is more i = go (edge.from == i) refl
  where
    items : List (List Successor)
    items = map (λ (row : Vec Successor Global). row.items) rows

    long : length items ≡ length rows
    long = length-map rows (λ (row : Vec Successor Global). row.items)

    was : get_or items edge.from [] ≡ old.items
    was = get_or-map (λ (row : Vec Successor Global). row.items) rows edge.from old [] within ∙ ap (λ (row : Vec Successor Global). row.items) (sym is)

    now : (j : ℕ) → row_at (set rows edge.from new) j ≡ map (edge_to j) (get_or (set items edge.from new.items) j [])
    now j = ap (λ (xs : List (List Successor)). map (edge_to j) (get_or xs j [])) (map-set (λ (row : Vec Successor Global). row.items) rows edge.from new)

    go : (b : Bool) → (edge.from == i) ≡ b → row_at (set rows edge.from new) i ≡ map (edge_to i) (get_or items i []) ++ cond b (edge_of edge ∷ []) []
    go true same =
        let at : edge.from ≡ i = eqb-true edge.from i same in
        let inside : edge.from < length items = omega (arith, long) in
        let there : get_or (set items edge.from new.items) edge.from [] ≡ get_or items edge.from [] ++ successor_of edge ∷ [] =
        get_or-set_same items edge.from new.items [] inside ∙ (more ∙ ap (λ (xs : List Successor). xs ++ successor_of edge ∷ []) (sym was)) in
        ap (row_at (set rows edge.from new)) (sym at)
        ∙ (now edge.from
        ∙ (ap (λ (xs : List Successor). map (edge_to edge.from) xs) there
        ∙ (map-append (edge_to edge.from) (get_or items edge.from []) (successor_of edge ∷ [])
        ∙ ap (λ (j : ℕ). map (edge_to j) (get_or items j []) ++ edge_of edge ∷ []) at)))
    go false other =
        now i
        ∙ (ap (λ (xs : List Successor). map (edge_to i) xs) (get_or-set_other items edge.from i new.items [] (λ (h : i ≡ edge.from). eqb-false edge.from i other (sym h)))
        ∙ sym (append-nil (map (edge_to i) (get_or items i []))))

-- what holds of all edges of a graph holds of those to successors
pub row_all : (P : Edge → Type 0) (place : ℕ) (row : List Successor) (edges : List depend.Edge) → map (edge_to place) row ≡ filter (λ e. e.from == place) (map edge_of edges) → All (λ e. P (edge_of e)) edges → All (λ s. P (edge_to place s)) row
row_all P place row edges is all = λ k d lt.
    let long = length-map row (edge_to place) in
    let within : k < length (map (edge_to place) row) = omega (arith, long, lt) in
    let there : All P (map (edge_to place) row) = subst (All P) (sym is) (All-filter (λ e. e.from == place) P (map edge_of edges) (All-map P edge_of edges all)) in
    subst P (get_or-map (edge_to place) row k d (edge_to place d) lt) (there k (edge_to place d) within)

-- from which instruction edges lead is no matter for those to which they lead
module _ (place : ℕ) where
  pub leading_same : (row : List Successor) (j : ℕ) → leading j (map (edge_to place) row) ≡ leading j (edges_to row)
  leading_same [] j = refl
  leading_same (s ∷ row) j = ap (λ (n : ℕ). cond (s.place == j) 1 0 + n) (leading_same row j)

  pub ripe_same : (cycle : ℕ) (row : List Successor) (j : ℕ) → ripe_from cycle j (map (edge_to place) row) ≡ ripe_from cycle j (edges_to row)
  ripe_same cycle [] j = refl
  ripe_same cycle (s ∷ row) j = ap (λ (n : ℕ). max (cond (s.place == j) (cycle + s.cost) 0) n) (ripe_same cycle row j)

  pub wait_same : (counts ripes : List ℕ) (row : List Successor) (waiting : List Wait) → all_wait counts ripes (map (edge_to place) row) waiting ≡ all_wait counts ripes (edges_to row) waiting
  wait_same counts ripes [] waiting = refl
  wait_same counts ripes (s ∷ row) waiting = wait_same counts ripes row (one_waits counts ripes s.place waiting)

-- ---- ready instructions by class

abbrev Sets : Type 0
Sets = List (BTreeSet Key)

module _ (rows : Sets) (class : ℕ) (old new : BTreeSet Key) (within : class < length rows) where
  abbrev keys : List (List Key)
  keys = map (λ (row : BTreeSet Key). row.keys) rows

  long : length keys ≡ length rows
  long = length-map rows (λ (row : BTreeSet Key). row.keys)

  -- the keys of a set that is changed
  was_there : old ≡ get_or rows class old → keys_at rows class ≡ old.keys
  was_there is = get_or-map (λ (row : BTreeSet Key). row.keys) rows class old [] within ∙ ap (λ (row : BTreeSet Key). row.keys) (sym is)

  now_at : (i : ℕ) → keys_at (set rows class new) i ≡ get_or (set keys class new.keys) i []
  now_at i = ap (λ (xs : List (List Key)). get_or xs i []) (map-set (λ (row : BTreeSet Key). row.keys) rows class new)

  now_there : keys_at (set rows class new) class ≡ new.keys
  now_there = now_at class ∙ get_or-set_same keys class new.keys [] (omega (arith, long, within))

  now_apart : (i : ℕ) → i ≢ class → keys_at (set rows class new) i ≡ keys_at rows i
  now_apart i ne = now_at i ∙ get_or-set_other keys class i new.keys [] ne

  -- one set is changed, and with it the first of its class
  pub row_changed : (row : List Key → List Key) (heads others : List Key) → old ≡ get_or rows class old → new.keys ≡ row old.keys → IsStrictlySortedBy key_cmp new.keys
      → others ≡ with_head (slice_get new.keys 0) (without_head (slice_get old.keys 0) heads) → IsStrictlySortedBy key_cmp others
      → ChangesRow class (row (keys_at rows class)) rows (set rows class new) heads others
  row_changed row heads others is changed sorted first ordered =
      let was = was_there is in
      let here : new.keys ≡ row (keys_at rows class) = changed ∙ ap row (sym was) in
      record {
        size = length-set rows class new;
        here = now_there ∙ here;
        ordered = subst (IsStrictlySortedBy key_cmp) here sorted;
        apart = now_apart;
        first = first
            ∙ (ap (λ (ks : List Key). with_head (slice_get ks 0) (without_head (slice_get old.keys 0) heads)) here
            ∙ ap (λ (ks : List Key). with_head (slice_get (row (keys_at rows class)) 0) (without_head (slice_get ks 0) heads)) (sym was));
        heads_ordered = ordered;
      }
