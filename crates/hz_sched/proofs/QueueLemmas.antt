-- The instructions that wait for no other, step by step.
use Rattle.std.proofs.Common.{◌≡◌, ◌≢◌, ℕ, zero, suc, ◌+◌, ◌<◌, ◌≤◌, ◌==◌, ◌⊎◌, inl, inr, ⊎_elim, Bool, true, false, cond, max, List, [], ◌∷◌, length, Option, Some, None, Contains, refl, sym, ap, ◌∙◌, subst, arith}
use Rattle.std.specs.Prelude.{slice_get, slice_index, nat_le, IsSome, IfSome}
use Rattle.std.specs.List.Sorted.{IsStrictlySortedBy}
use Rattle.std.specs.Ordering.{nat_cmp, ordering_then, is_eq}
use Rattle.std.specs.declared.cmp.Ordering.{Ordering}
use Rattle.std.specs.declared.cmp.Ordering.TheVariants.{Less, Equal, Greater}
use Rattle.std.specs.BTreeSet.{BTreeSet, insert_key}
use Rattle.std.specs.BTreeMap.{is_at}
use Rattle.std.specs.Set.{remove_key}
use Rattle.std.proofs.lemmas.Bool.{eqb-true, eqb-false, eq-eqb, leb-true, le-leb}
use Rattle.std.proofs.lemmas.Map.Keys.{sorted_tail}
use Rattle.hz_base_model.proofs.Elements.{Contains-nil, Contains-head, Contains-tail, Contains-cons_cases}
use Rattle.hz_block_model.specs.Dependences.Graphs.{Edge}
use Rattle.hz_block_model.specs.Scheduling.Schedules.{Graph, class_at}
use Rattle.hz_sched.specs.Waits.{issued_at, and_issued, missing, ripe, leading, ripe_from}
use Rattle.hz_sched.specs.Pending.{Key, key_cmp, key_of, Wait, wait_cmp, keys_at, ripe_front, one_waits, all_wait, free_below, without_head, with_head, ChangesRow, AreWaits, IsFree, IsWaiting, IsRipe, AreHeads, AreInRange, AreQueued, AreLater}
use Rattle.hz_sched.proofs.SlotLemmas.{same_issued, other_issued}
use Rattle.hz_sched.proofs.WaitLemmas.{edges_from, missing_issued, ripe_issued}
use Rattle.hz_sched.proofs.KeyLemmas.{insert_old, insert_only, insert_new, remove_old, remove_only, remove_gone, after_head, exact_key, same_key, equal_numbers, less_numbers, same_number}

-- ---- cycles and places

exact_wait : (x y : Wait) → wait_cmp x y ≡ Equal → x ≡ y
exact_wait x y e = go (nat_cmp x.0 y.0) refl e
  where
    go : (o : Ordering) → nat_cmp x.0 y.0 ≡ o → ordering_then o (nat_cmp x.1 y.1) ≡ Equal → x ≡ y
    go Equal h e =
        let cycles = equal_numbers x.0 y.0 h in
        let spots = equal_numbers x.1 y.1 e in
        λ i. (cycles i, spots i)
    go Less h e = absurd (cc)
    go Greater h e = absurd (cc)

same_wait : (x : Wait) → wait_cmp x x ≡ Equal
same_wait x = ap (λ (o : Ordering). ordering_then o (nat_cmp x.1 x.1)) (same_number x.0) ∙ same_number x.1

less_wait : (x y : Wait) → wait_cmp x y ≡ Less → x.0 ≤ y.0
less_wait x y e = go (nat_cmp x.0 y.0) refl e
  where
    go : (o : Ordering) → nat_cmp x.0 y.0 ≡ o → ordering_then o (nat_cmp x.1 y.1) ≡ Less → x.0 ≤ y.0
    go Less h e = let less = less_numbers x.0 y.0 h in omega arith
    go Equal h e = let same = equal_numbers x.0 y.0 h in omega arith
    go Greater h e = absurd (cc)

-- where the first has to wait longer, all have to
pub later_when : (cycle : ℕ) (ws : List Wait) → IsStrictlySortedBy wait_cmp ws → ripe_front cycle ws ≡ None → AreLater cycle ws
later_when cycle [] sorted e w h = absurd (Contains-nil w h)
later_when cycle (x ∷ ws) sorted e w h = go (nat_le x.0 cycle) refl e
  where
    go : (b : Bool) → nat_le x.0 cycle ≡ b → cond b (Some x.1) None ≡ None → cycle < w.0
    go true at e = absurd (cc)
    go false at e =
        let high : x.0 ≤ cycle → ⊥ = λ (le : x.0 ≤ cycle). let yes = le-leb x.0 cycle le in absurd (cc) in
        ⊎_elim
        (λ (f : x ≡ w). let same : x.0 ≡ w.0 = ap (λ (y : Wait). y.0) f in omega (arith, high, same))
        (λ (m : Contains ws w). let less = less_wait x w (after_head wait_cmp exact_wait same_wait x w ws sorted m) in omega (arith, high, less))
        (Contains-cons_cases x w ws h)

-- what is first has come
pub front_come : (cycle p : ℕ) (w : Wait) (ws : List Wait) → Some p ≡ ripe_front cycle (w ∷ ws) → (w.0 ≤ cycle) × (w.1 ≡ p)
front_come cycle p w ws e = go (nat_le w.0 cycle) refl e
  where
    go : (b : Bool) → nat_le w.0 cycle ≡ b → Some p ≡ cond b (Some w.1) None → (w.0 ≤ cycle) × (w.1 ≡ p)
    go true at e = (leb-true w.0 cycle at, (let same : w.1 ≡ p = cc in same))
    go false at e = absurd (cc)

-- what is first is of the graph
pub front_within : (g : Graph) (cycle p : ℕ) (ws : List Wait) (rows : List (BTreeSet Key)) (heads : List Key) → AreInRange g ws rows heads → Some p ≡ ripe_front cycle ws → p < length g.nodes
front_within g cycle p [] rows heads range e = absurd (cc)
front_within g cycle p (w ∷ ws) rows heads range e =
    let same = (front_come cycle p w ws e).1 in
    let within = range.places w (Contains-head w ws) in
    omega (arith, same, within)

-- The first that waits is taken, where its cycle has come.
pub record IsPopped (cycle p : ℕ) (keys rest : List Wait) : Type 0 where
  pub wait : Wait
  pub was : keys ≡ wait ∷ rest
  pub come : wait.0 ≤ cycle
  pub place : wait.1 ≡ p

pub popped : (cycle p : ℕ) (keys rest : List Wait) (o : Option Wait) → (0 < length keys → IsSome o) → IfSome o (λ w. keys ≡ w ∷ rest) → Some p ≡ ripe_front cycle keys → IsPopped cycle p keys rest
popped cycle p [] rest o some removal e = absurd (cc)
popped cycle p (x ∷ keys) rest None some removal e = absurd (let h = some (omega arith) in cc)
popped cycle p (x ∷ keys) rest (Some w) some removal e =
    let found = front_come cycle p w rest (e ∙ ap (ripe_front cycle) removal) in
    record { wait = w; was = removal; come = found.0; place = found.1 }

-- ---- the first of a list

pub first_there : (ks : List Key) (k : Key) → slice_get ks 0 ≡ Some k → Contains ks k
first_there [] k e = absurd (cc)
first_there (x ∷ ks) k e = let is : x ≡ k = cc in subst (Contains (x ∷ ks)) is (Contains-head x ks)

pub first_some : (ks : List Key) (k : Key) → Contains ks k → (h : Key) × (slice_get ks 0 ≡ Some h)
first_some [] k there = absurd (Contains-nil k there)
first_some (x ∷ ks) k there = (x, refl)

pub first_before : (ks : List Key) (h : Key) → IsStrictlySortedBy key_cmp ks → slice_get ks 0 ≡ Some h → (k : Key) → Contains ks k → (h ≡ k) ⊎ (key_cmp h k ≡ Less)
first_before [] h sorted e k there = absurd (cc)
first_before (x ∷ ks) h sorted e k there =
    let is : x ≡ h = cc in
    ⊎_elim
    (λ (f : x ≡ k). inl (sym is ∙ f))
    (λ (m : Contains ks k). inr (subst (λ (z : Key). key_cmp z k ≡ Less) is (after_head key_cmp exact_key same_key x k ks sorted m)))
    (Contains-cons_cases x k ks there)

not_equal : (o : Ordering) → (o ≡ Equal → ⊥) → is_eq o ≡ false
not_equal Equal ne = absurd (ne refl)
not_equal Less ne = refl
not_equal Greater ne = refl

-- another key stays where one is removed
remove_other : (k x : Key) (ks : List Key) → (k ≡ x → ⊥) → Contains ks x → Contains (remove_key (is_at (key_cmp k)) ks) x
remove_other k x ks ne h = remove_old key_cmp (is_at (key_cmp k)) ks x (not_equal (key_cmp k x) (λ (e : key_cmp k x ≡ Equal). ne (exact_key k x e))) h

without_only : (o : Option Key) (heads : List Key) (k : Key) → Contains (without_head o heads) k → Contains heads k
without_only None heads k h = h
without_only (Some b) heads k h = remove_only key_cmp (is_at (key_cmp b)) heads k h

without_gone : (o : Option Key) (heads : List Key) → IsStrictlySortedBy key_cmp heads → (k : Key) → Contains (without_head o heads) k → o ≡ Some k → ⊥
without_gone None heads sorted k h e = cc
without_gone (Some b) heads sorted k h e =
    let is : b ≡ k = cc in
    remove_gone key_cmp exact_key same_key heads k sorted (subst (λ (z : Key). Contains (remove_key (is_at (key_cmp z)) heads) k) is h)

without_old : (o : Option Key) (heads : List Key) (k : Key) → (o ≡ Some k → ⊥) → Contains heads k → Contains (without_head o heads) k
without_old None heads k ne h = h
without_old (Some b) heads k ne h = remove_other b k heads (λ (e : b ≡ k). ne (ap (λ (z : Key). Some z) e)) h

with_new : (o : Option Key) (heads : List Key) (k : Key) → o ≡ Some k → Contains (with_head o heads) k
with_new None heads k e = absurd (cc)
with_new (Some a) heads k e = let is : a ≡ k = cc in subst (λ (z : Key). Contains (insert_key key_cmp heads a) z) is (insert_new key_cmp exact_key same_key heads a)

with_old : (o : Option Key) (heads : List Key) (k : Key) → Contains heads k → Contains (with_head o heads) k
with_old None heads k h = h
with_old (Some a) heads k h = insert_old key_cmp heads a k h

with_only : (o : Option Key) (heads : List Key) (k : Key) → Contains (with_head o heads) k → (o ≡ Some k) ⊎ Contains heads k
with_only None heads k h = inr h
with_only (Some a) heads k h = ⊎_elim (λ (e : a ≡ k). inl (ap (λ (z : Key). Some z) e)) (λ (m : Contains heads k). inr m) (insert_only key_cmp heads a k h)

-- ---- a row is changed

abbrev Rows : Type 0
Rows = List (BTreeSet Key)

module _ (g : Graph) (class : ℕ) (row : List Key) (rows fresh : Rows) (heads others : List Key) (change : ChangesRow class row rows fresh heads others) where
  -- the row, or one as before
  which : (c : ℕ) (k : Key) → Contains (keys_at fresh c) k → ((c ≡ class) × Contains row k) ⊎ ((c ≢ class) × Contains (keys_at rows c) k)
  which c k h = go (c == class) refl
    where
      go : (b : Bool) → (c == class) ≡ b → ((c ≡ class) × Contains row k) ⊎ ((c ≢ class) × Contains (keys_at rows c) k)
      go true same =
          let at : c ≡ class = eqb-true c class same in
          inl (at, subst (λ (ks : List Key). Contains ks k) (ap (keys_at fresh) at ∙ change.here) h)
      go false other = let ne = eqb-false c class other in inr (ne, subst (λ (ks : List Key). Contains ks k) (change.apart c ne) h)

  row_there : (c : ℕ) (k : Key) → c ≡ class → Contains row k → Contains (keys_at fresh c) k
  row_there c k at h = subst (λ (ks : List Key). Contains ks k) (sym (ap (keys_at fresh) at ∙ change.here)) h

  apart_there : (c : ℕ) (k : Key) → c ≢ class → Contains (keys_at rows c) k → Contains (keys_at fresh c) k
  apart_there c k ne h = subst (λ (ks : List Key). Contains ks k) (sym (change.apart c ne)) h

  rows_ordered : ((c : ℕ) → IsStrictlySortedBy key_cmp (keys_at rows c)) → (c : ℕ) → IsStrictlySortedBy key_cmp (keys_at fresh c)
  rows_ordered sorted c = go (c == class) refl
    where
      go : (b : Bool) → (c == class) ≡ b → IsStrictlySortedBy key_cmp (keys_at fresh c)
      go true same = subst (IsStrictlySortedBy key_cmp) (sym (ap (keys_at fresh) (eqb-true c class same) ∙ change.here)) change.ordered
      go false other = subst (IsStrictlySortedBy key_cmp) (sym (change.apart c (eqb-false c class other))) (sorted c)

  heads_changed : ((c : ℕ) (k : Key) → Contains (keys_at rows c) k → class_at g k.1 ≡ c) → ((k : Key) → Contains row k → class_at g k.1 ≡ class) → AreHeads g (keys_at rows) heads → AreHeads g (keys_at fresh) others
  heads_changed were are h = record { ordered = change.heads_ordered; each = each; only = only }
    where
      before : Option Key
      before = slice_get (keys_at rows class) 0

      after : Option Key
      after = slice_get row 0

      inside : (k : Key) → Contains (with_head after (without_head before heads)) k → Contains others k
      inside k = subst (λ (ks : List Key). Contains ks k) (sym change.first)

      each : (c : ℕ) (k : Key) → slice_get (keys_at fresh c) 0 ≡ Some k → Contains others k
      each c k e = go (c == class) refl
        where
          go : (b : Bool) → (c == class) ≡ b → Contains others k
          go true same =
              let is : keys_at fresh c ≡ row = ap (keys_at fresh) (eqb-true c class same) ∙ change.here in
              inside k (with_new after (without_head before heads) k (ap (λ (ks : List Key). slice_get ks 0) (sym is) ∙ e))
          go false other =
              let ne = eqb-false c class other in
              let was : slice_get (keys_at rows c) 0 ≡ Some k = ap (λ (ks : List Key). slice_get ks 0) (sym (change.apart c ne)) ∙ e in
              let mine = were c k (first_there (keys_at rows c) k was) in
              let differs : before ≡ Some k → ⊥ = λ (f : before ≡ Some k). ne (sym mine ∙ were class k (first_there (keys_at rows class) k f)) in
              inside k (with_old after (without_head before heads) k (without_old before heads k differs (h.each c k was)))

      only : (k : Key) → Contains others k → slice_get (keys_at fresh (class_at g k.1)) 0 ≡ Some k
      only k there = ⊎_elim
          (λ (e : after ≡ Some k).
          let mine = are k (first_there row k e) in
          ap (λ (ks : List Key). slice_get ks 0) (ap (keys_at fresh) mine ∙ change.here) ∙ e)
          (λ (m : Contains (without_head before heads) k).
          let was = h.only k (without_only before heads k m) in
          let ne : class_at g k.1 ≢ class = λ (e : class_at g k.1 ≡ class). without_gone before heads h.ordered k m (ap (λ (c : ℕ). slice_get (keys_at rows c) 0) (sym e) ∙ was) in
          ap (λ (ks : List Key). slice_get ks 0) (change.apart (class_at g k.1) ne) ∙ was)
          (with_only after (without_head before heads) k (subst (λ (ks : List Key). Contains ks k) change.first there))

-- ---- a cycle has come

module _ (g : Graph) (w : Wait) (rest : List Wait) (class : ℕ) (key : Key) (rows fresh : Rows) (heads others : List Key)
    (change : ChangesRow class (insert_key key_cmp (keys_at rows class) key) rows fresh heads others) (classed : class ≡ class_at g w.1) where
  pub range_next : AreInRange g (w ∷ rest) rows heads → AreInRange g rest fresh others
  range_next r = record {
    places = λ x h. r.places x (Contains-tail w x rest h);
    waiting_ordered = sorted_tail wait_cmp w rest r.waiting_ordered;
    classes = λ j lt. let low = r.classes j lt in let size = change.size in omega arith;
    heads_ordered = change.heads_ordered;
  }

  pub ripened : (at : ℕ → Option ℕ) (cycle : ℕ) → key ≡ key_of g w.1 → w.0 ≤ cycle → AreQueued g at cycle (w ∷ rest) rows heads → AreQueued g at cycle rest fresh others
  ripened at cycle is come q = record {
    done = q.done;
    classes = λ j lt. let low = q.classes j lt in let size = change.size in omega arith;
    each = each;
    waiting_ordered = sorted_tail wait_cmp w rest q.waiting_ordered;
    waits = λ x h. q.waits x (Contains-tail w x rest h);
    ready_ordered = rows_ordered g class row rows fresh heads others change q.ready_ordered;
    ready = ready;
    first = heads_changed g class row rows fresh heads others change (λ c k h. (q.ready c k h).classed) (λ k h. (row_ripe k h).classed) q.first;
  }
    where
      row : List Key
      row = insert_key key_cmp (keys_at rows class) key

      front : IsWaiting g at w
      front = q.waits w (Contains-head w rest)

      ripe_key : IsRipe g at cycle class key
      ripe_key =
          let place : key.1 ≡ w.1 = ap (λ (k : Key). k.1) is in
          let early = front.waited in
          record {
            free = subst (IsFree g at) (sym place) front.free;
            waited = subst (λ (j : ℕ). ripe at j g.edges ≤ cycle) (sym place) (omega arith);
            classed = ap (class_at g) place ∙ sym classed;
            key = is ∙ ap (key_of g) (sym place);
          }

      row_ripe : (k : Key) → Contains row k → IsRipe g at cycle class k
      row_ripe k h = ⊎_elim
          (λ (e : key ≡ k). subst (IsRipe g at cycle class) e ripe_key)
          (λ (m : Contains (keys_at rows class) k). q.ready class k m)
          (insert_only key_cmp (keys_at rows class) key k h)

      ready : (c : ℕ) (k : Key) → Contains (keys_at fresh c) k → IsRipe g at cycle c k
      ready c k h = ⊎_elim
          (λ (m : (c ≡ class) × Contains row k). subst (λ (d : ℕ). IsRipe g at cycle d k) (sym m.0) (row_ripe k m.1))
          (λ (m : (c ≢ class) × Contains (keys_at rows c) k). q.ready c k m.1)
          (which g class row rows fresh heads others change c k h)

      still : (c : ℕ) (k : Key) → Contains (keys_at rows c) k → Contains (keys_at fresh c) k
      still c k h = go (c == class) refl
        where
          go : (b : Bool) → (c == class) ≡ b → Contains (keys_at fresh c) k
          go true same =
              let at = eqb-true c class same in
              row_there g class row rows fresh heads others change c k at (insert_old key_cmp (keys_at rows class) key k (subst (λ (d : ℕ). Contains (keys_at rows d) k) at h))
          go false other = apart_there g class row rows fresh heads others change c k (eqb-false c class other) h

      each : (j : ℕ) → IsFree g at j → Contains rest (ripe at j g.edges, j) ⊎ Contains (keys_at fresh (class_at g j)) (key_of g j)
      each j f = ⊎_elim
          (λ (m : Contains (w ∷ rest) (ripe at j g.edges, j)). ⊎_elim
          (λ (e : w ≡ (ripe at j g.edges, j)).
          let place : w.1 ≡ j = ap (λ (x : Wait). x.1) e in
          inr (row_there g class row rows fresh heads others change (class_at g j) (key_of g j) (ap (class_at g) (sym place) ∙ sym classed)
          (subst (Contains row) (is ∙ ap (key_of g) place) (insert_new key_cmp exact_key same_key (keys_at rows class) key))))
          (λ (n : Contains rest (ripe at j g.edges, j)). inl n)
          (Contains-cons_cases w (ripe at j g.edges, j) rest m))
          (λ (m : Contains (keys_at rows (class_at g j)) (key_of g j)). inr (still (class_at g j) (key_of g j) m))
          (q.each j f)

-- ---- which wait for their cycles

module _ (counts ripes : List ℕ) where
  abbrev wait_of : ℕ → Wait
  wait_of j = (slice_index ripes j, j)

  one_old : (j : ℕ) (ws : List Wait) (w : Wait) → Contains ws w → Contains (one_waits counts ripes j ws) w
  one_old j ws w h = go (slice_index counts j == 0)
    where
      go : (b : Bool) → Contains (cond b (insert_key wait_cmp ws (wait_of j)) ws) w
      go true = insert_old wait_cmp ws (wait_of j) w h
      go false = h

  one_new : (j : ℕ) (ws : List Wait) → slice_index counts j ≡ 0 → Contains (one_waits counts ripes j ws) (wait_of j)
  one_new j ws zero_count = go (slice_index counts j == 0) (eq-eqb (slice_index counts j) 0 zero_count)
    where
      go : (b : Bool) → b ≡ true → Contains (cond b (insert_key wait_cmp ws (wait_of j)) ws) (wait_of j)
      go true e = insert_new wait_cmp exact_wait same_wait ws (wait_of j)
      go false e = absurd (cc)

  one_only : (j : ℕ) (ws : List Wait) (w : Wait) → Contains (one_waits counts ripes j ws) w → ((slice_index counts j ≡ 0) × (wait_of j ≡ w)) ⊎ Contains ws w
  one_only j ws w h = go (slice_index counts j == 0) refl h
    where
      go : (b : Bool) → (slice_index counts j == 0) ≡ b → Contains (cond b (insert_key wait_cmp ws (wait_of j)) ws) w → ((slice_index counts j ≡ 0) × (wait_of j ≡ w)) ⊎ Contains ws w
      go true e h = ⊎_elim (λ (f : wait_of j ≡ w). inl (eqb-true (slice_index counts j) 0 e, f)) (λ (m : Contains ws w). inr m) (insert_only wait_cmp ws (wait_of j) w h)
      go false e h = inr h

  all_old : (row : List Edge) (ws : List Wait) (w : Wait) → Contains ws w → Contains (all_wait counts ripes row ws) w
  all_old [] ws w h = h
  all_old (e ∷ row) ws w h = all_old row (one_waits counts ripes e.to ws) w (one_old e.to ws w h)

  all_led : (row : List Edge) (ws : List Wait) (j : ℕ) → 0 < leading j row → slice_index counts j ≡ 0 → Contains (all_wait counts ripes row ws) (wait_of j)
  all_led [] ws j led none = absurd (omega (arith, led))
  all_led (e ∷ row) ws j led none = go (e.to == j) refl led (λ k. all_led row (one_waits counts ripes e.to ws) j k none)
    where
      go : (b : Bool) → (e.to == j) ≡ b → 0 < cond b 1 0 + leading j row → (0 < leading j row → Contains (all_wait counts ripes row (one_waits counts ripes e.to ws)) (wait_of j)) → Contains (all_wait counts ripes row (one_waits counts ripes e.to ws)) (wait_of j)
      go true same led rest =
          let at : e.to ≡ j = eqb-true e.to j same in
          all_old row (one_waits counts ripes e.to ws) (wait_of j) (subst (λ (i : ℕ). Contains (one_waits counts ripes i ws) (wait_of j)) (sym at) (one_new j ws none))
      go false other led rest = rest (omega (arith, led))

  -- one that was there, or one to which an edge leads
  all_only : (row : List Edge) (ws : List Wait) (w : Wait) → Contains (all_wait counts ripes row ws) w → ((0 < leading w.1 row) × (slice_index counts w.1 ≡ 0) × (w.0 ≡ slice_index ripes w.1)) ⊎ Contains ws w
  all_only [] ws w h = inr h
  all_only (e ∷ row) ws w h = ⊎_elim
      (λ (led : (0 < leading w.1 row) × (slice_index counts w.1 ≡ 0) × (w.0 ≡ slice_index ripes w.1)). inl (let low = led.0 in omega arith, led.1, led.2))
      (λ (m : Contains (one_waits counts ripes e.to ws) w). ⊎_elim
      (λ (new : (slice_index counts e.to ≡ 0) × (wait_of e.to ≡ w)).
      let at : e.to ≡ w.1 = ap (λ (x : Wait). x.1) new.1 in
      let one = ap (λ (b : Bool). let n : ℕ = cond b 1 0 in n) (eq-eqb e.to w.1 at) in
      inl (omega (arith, one), ap (slice_index counts) (sym at) ∙ new.0, sym (ap (λ (x : Wait). x.0) new.1) ∙ ap (slice_index ripes) at))
      (λ (old : Contains ws w). inr old)
      (one_only e.to ws w m))
      (all_only row (one_waits counts ripes e.to ws) w h)

  below_new : (n j : ℕ) → j < n → slice_index counts j ≡ 0 → Contains (free_below counts ripes n) (wait_of j)
  below_new zero j lt none = absurd (omega arith)
  below_new (suc n) j lt none = go (j == n) refl (λ k. below_new n j k none)
    where
      go : (b : Bool) → (j == n) ≡ b → (j < n → Contains (free_below counts ripes n) (wait_of j)) → Contains (one_waits counts ripes n (free_below counts ripes n)) (wait_of j)
      go true same rest =
          let at : j ≡ n = eqb-true j n same in
          subst (λ (i : ℕ). Contains (one_waits counts ripes i (free_below counts ripes n)) (wait_of j)) at (one_new j (free_below counts ripes n) none)
      go false other rest = let ne = eqb-false j n other in one_old n (free_below counts ripes n) (wait_of j) (rest (omega arith))

  below_only : (n : ℕ) (w : Wait) → Contains (free_below counts ripes n) w → (w.1 < n) × (slice_index counts w.1 ≡ 0) × (w.0 ≡ slice_index ripes w.1)
  below_only zero w h = absurd (Contains-nil w h)
  below_only (suc n) w h = ⊎_elim
      (λ (new : (slice_index counts n ≡ 0) × (wait_of n ≡ w)).
      let at : n ≡ w.1 = ap (λ (x : Wait). x.1) new.1 in
      (omega (arith, at), ap (slice_index counts) (sym at) ∙ new.0, sym (ap (λ (x : Wait). x.0) new.1) ∙ ap (slice_index ripes) at))
      (λ (m : Contains (free_below counts ripes n) w). let was = below_only n w m in (let low = was.0 in omega arith, was.1, was.2))
      (one_only n (free_below counts ripes n) w h)

-- ---- nothing is issued

sorted_nil : IsStrictlySortedBy key_cmp []
unfolding IsStrictlySortedBy
sorted_nil = tt

module _ (g : Graph) (counts ripes : List ℕ) (waits : AreWaits g (issued_at []) counts ripes) (rows : Rows) (none : (class : ℕ) → keys_at rows class ≡ []) where
  none_there : (class : ℕ) (k : Key) → Contains (keys_at rows class) k → ⊥
  none_there class k h = Contains-nil k (subst (λ (ks : List Key). Contains ks k) (none class) h)

  pub queue_start : ((j : ℕ) → j < length g.nodes → class_at g j < length rows) → (n : ℕ) → n ≡ length g.nodes → IsStrictlySortedBy wait_cmp (free_below counts ripes n) → AreQueued g (issued_at []) 0 (free_below counts ripes n) rows []
  queue_start classes n all ordered = record {
    done = λ j c e. absurd (cc);
    classes = classes;
    each = each;
    waiting_ordered = ordered;
    waits = each_waits;
    ready_ordered = λ class. subst (IsStrictlySortedBy key_cmp) (sym (none class)) sorted_nil;
    ready = λ class k h. absurd (none_there class k h);
    first = record { ordered = sorted_nil; each = λ class k e. absurd (let there = first_there (keys_at rows class) k e in none_there class k there); only = λ k h. absurd (Contains-nil k h) };
  }
    where
      each : (j : ℕ) → IsFree g (issued_at []) j → Contains (free_below counts ripes n) (ripe (issued_at []) j g.edges, j) ⊎ Contains (keys_at rows (class_at g j)) (key_of g j)
      each j f =
          let within = f.within in
          inl (subst (λ (r : ℕ). Contains (free_below counts ripes n) (r, j)) (waits.waited j refl) (below_new counts ripes n j (omega arith) (waits.counted j ∙ f.none)))

      each_waits : (w : Wait) → Contains (free_below counts ripes n) w → IsWaiting g (issued_at []) w
      each_waits w h =
          let (low, zero_count, is) = below_only counts ripes n w h in
          record {
            free = record { within = omega arith; left = refl; none = sym (waits.counted w.1) ∙ zero_count };
            waited = is ∙ waits.waited w.1 refl;
          }

-- ---- one issue

-- what edges lead to is of the graph
pub led_within : (n j : ℕ) (edges : List Edge) → ((e : Edge) → Contains edges e → e.to < n) → 0 < leading j edges → j < n
led_within n j [] within led = absurd (omega (arith, led))
led_within n j (e ∷ edges) within led = go (e.to == j) refl led (λ k. led_within n j edges (λ f h. within f (Contains-tail e f edges h)) k)
  where
    go : (b : Bool) → (e.to == j) ≡ b → 0 < cond b 1 0 + leading j edges → (0 < leading j edges → j < n) → j < n
    go true same led rest = let to = within e (Contains-head e edges) in let is = eqb-true e.to j same in omega (arith, to, is)
    go false other led rest = rest (omega (arith, led))

-- where no edge leads, none has to be waited for
unled : (cycle j : ℕ) (row : List Edge) → leading j row ≡ 0 → ripe_from cycle j row ≡ 0
unled cycle j [] e = refl
unled cycle j (f ∷ row) e = go (f.to == j) e (unled cycle j row)
  where
    go : (b : Bool) → cond b 1 0 + leading j row ≡ 0 → (leading j row ≡ 0 → ripe_from cycle j row ≡ 0) → max (cond b (cycle + f.cost) 0) (ripe_from cycle j row) ≡ 0
    go true e rest = absurd (omega (arith, e))
    go false e rest = let below = rest (omega (arith, e)) in omega (arith, below)

module _ (g : Graph) (at : ℕ → Option ℕ) (place cycle : ℕ) (waiting : List Wait) (rows : Rows) (heads : List Key)
    (q : AreQueued g at cycle waiting rows heads) (later : AreLater cycle waiting) (there : Contains (keys_at rows (class_at g place)) (key_of g place)) where
  abbrev next : ℕ → Option ℕ
  next = and_issued at place cycle

  abbrev row : List Edge
  row = edges_from place g.edges

  this : IsRipe g at cycle (class_at g place) (key_of g place)
  this = q.ready (class_at g place) (key_of g place) there

  pub was_left : at place ≡ None
  was_left = (this.free).left

  fewer : (j : ℕ) → missing at j g.edges ≡ missing next j g.edges + leading j row
  fewer j = missing_issued at place cycle was_left j g.edges

  none_now : (j : ℕ) → missing at j g.edges ≡ 0 → (missing next j g.edges ≡ 0) × (leading j row ≡ 0)
  none_now j none = let f = fewer j in (omega arith, omega arith)

  same_ripe : (j : ℕ) → missing at j g.edges ≡ 0 → ripe next j g.edges ≡ ripe at j g.edges
  same_ripe j none =
      let riper = ripe_issued at place cycle was_left j g.edges in
      let zero_from = unled cycle j row ((none_now j none).1) in
      omega arith

  -- an instruction that was free, and is another
  free_next : (j : ℕ) → j ≢ place → IsFree g at j → IsFree g next j
  free_next j ne f = record { within = f.within; left = other_issued at place cycle j ne ∙ f.left; none = (none_now j f.none).0 }

  place_apart : (j : ℕ) → next j ≡ None → j ≢ place
  place_apart j none e = let some = ap next e ∙ same_issued at place cycle in absurd (cc)

  done_next : (j c : ℕ) → next j ≡ Some c → missing next j g.edges ≡ 0
  done_next j c e = go (j == place) refl
    where
      go : (b : Bool) → (j == place) ≡ b → missing next j g.edges ≡ 0
      go true same = (none_now j (ap (λ (i : ℕ). missing at i g.edges) (eqb-true j place same) ∙ (this.free).none)).0
      go false other = (none_now j (q.done j c (sym (other_issued at place cycle j (eqb-false j place other)) ∙ e))).0

  -- an edge leads only to instructions that are left
  led_left : (j : ℕ) → 0 < leading j row → next j ≡ None
  led_left j led = go (at j) refl
    where
      apart : j ≢ place
      apart e =
          let none = (none_now place (this.free).none).1 in
          let same = ap (λ (i : ℕ). leading i row) e in
          omega (arith, led, none, same)

      go : (o : Option ℕ) → at j ≡ o → next j ≡ None
      go None e = other_issued at place cycle j apart ∙ e
      go (Some c) e = let none = (none_now j (q.done j c e)).1 in absurd (omega (arith, led, none))

  module _ (fresh : Rows) (others : List Key) (key : Key) (class : ℕ) (is : key ≡ key_of g place) (classed : class ≡ class_at g place) (change : ChangesRow class (remove_key (is_at (key_cmp key)) (keys_at rows class)) rows fresh heads others)
      (counts ripes : List ℕ) (waits : AreWaits g next counts ripes) (led_within : (j : ℕ) → 0 < leading j row → j < length g.nodes) where
    abbrev left_row : List Key
    left_row = remove_key (is_at (key_cmp key)) (keys_at rows class)

    pub issued_queue : (more : List Wait) → more ≡ all_wait counts ripes row waiting → IsStrictlySortedBy wait_cmp more → AreQueued g next cycle more fresh others
    issued_queue more all ordered = record {
      done = done_next;
      classes = λ j lt. let low = q.classes j lt in let size = change.size in omega arith;
      each = each;
      waiting_ordered = ordered;
      waits = λ w h. each_waits w (subst (λ (ws : List Wait). Contains ws w) all h);
      ready_ordered = rows_ordered g class left_row rows fresh heads others change q.ready_ordered;
      ready = ready;
      first = heads_changed g class left_row rows fresh heads others change (λ c k h. (q.ready c k h).classed) (λ k h. (q.ready class k (was k h)).classed) q.first;
    }
      where
        was : (k : Key) → Contains left_row k → Contains (keys_at rows class) k
        was k h = remove_only key_cmp (is_at (key_cmp key)) (keys_at rows class) k h

        now : (w : Wait) → Contains (all_wait counts ripes row waiting) w → Contains more w
        now w h = subst (λ (ws : List Wait). Contains ws w) (sym all) h

        -- one that is ready, and is another
        ripe_next : (c : ℕ) (k : Key) → k.1 ≢ place → IsRipe g at cycle c k → IsRipe g next cycle c k
        ripe_next c k ne r =
            let early = r.waited in
            let same = same_ripe k.1 (r.free).none in
            record { free = free_next k.1 ne r.free; waited = omega arith; classed = r.classed; key = r.key }

        ready : (c : ℕ) (k : Key) → Contains (keys_at fresh c) k → IsRipe g next cycle c k
        ready c k h = ⊎_elim
            (λ (m : (c ≡ class) × Contains left_row k).
            let r = q.ready class k (was k m.1) in
            let ne : k.1 ≢ place = λ (e : k.1 ≡ place).
            let same : k ≡ key = r.key ∙ (ap (key_of g) e ∙ sym is) in
            remove_gone key_cmp exact_key same_key (keys_at rows class) key (q.ready_ordered class) (subst (Contains left_row) same m.1) in
            subst (λ (d : ℕ). IsRipe g next cycle d k) (sym m.0) (ripe_next class k ne r))
            (λ (m : (c ≢ class) × Contains (keys_at rows c) k).
            let r = q.ready c k m.1 in
            ripe_next c k (λ (e : k.1 ≡ place). m.0 (sym r.classed ∙ (ap (class_at g) e ∙ sym classed))) r)
            (which g class left_row rows fresh heads others change c k h)

        still : (j : ℕ) → j ≢ place → Contains (keys_at rows (class_at g j)) (key_of g j) → Contains (keys_at fresh (class_at g j)) (key_of g j)
        still j ne h = go (class_at g j == class) refl
          where
            go : (b : Bool) → (class_at g j == class) ≡ b → Contains (keys_at fresh (class_at g j)) (key_of g j)
            go true same =
                let mine = eqb-true (class_at g j) class same in
                let differs : key ≡ key_of g j → ⊥ = λ (e : key ≡ key_of g j). ne (sym (ap (λ (k : Key). k.1) (sym is ∙ e))) in
                row_there g class left_row rows fresh heads others change (class_at g j) (key_of g j) mine
                (remove_other key (key_of g j) (keys_at rows class) differs (subst (λ (c : ℕ). Contains (keys_at rows c) (key_of g j)) mine h))
            go false other = apart_there g class left_row rows fresh heads others change (class_at g j) (key_of g j) (eqb-false (class_at g j) class other) h

        each : (j : ℕ) → IsFree g next j → Contains more (ripe next j g.edges, j) ⊎ Contains (keys_at fresh (class_at g j)) (key_of g j)
        each j f = go (leading j row) refl
          where
            apart : j ≢ place
            apart = place_apart j f.left

            go : (n : ℕ) → leading j row ≡ n → Contains more (ripe next j g.edges, j) ⊎ Contains (keys_at fresh (class_at g j)) (key_of g j)
            go zero e =
                let none : missing at j g.edges ≡ 0 = fewer j ∙ omega (arith, e, f.none) in
                ⊎_elim
                (λ (m : Contains waiting (ripe at j g.edges, j)).
                inl (now (ripe next j g.edges, j) (all_old counts ripes row waiting (ripe next j g.edges, j) (subst (λ (r : ℕ). Contains waiting (r, j)) (sym (same_ripe j none)) m))))
                (λ (m : Contains (keys_at rows (class_at g j)) (key_of g j)). inr (still j apart m))
                (q.each j (record { within = f.within; left = sym (other_issued at place cycle j apart) ∙ f.left; none = none }))
            go (suc n) e =
                inl (now (ripe next j g.edges, j) (subst (λ (r : ℕ). Contains (all_wait counts ripes row waiting) (r, j)) (waits.waited j f.left) (all_led counts ripes row waiting j (omega (arith, e)) (waits.counted j ∙ f.none))))

        each_waits : (w : Wait) → Contains (all_wait counts ripes row waiting) w → IsWaiting g next w
        each_waits w h = ⊎_elim
            (λ (led : (0 < leading w.1 row) × (slice_index counts w.1 ≡ 0) × (w.0 ≡ slice_index ripes w.1)).
            let left = led_left w.1 led.0 in
            record {
              free = record { within = led_within w.1 led.0; left = left; none = sym (waits.counted w.1) ∙ led.1 };
              waited = led.2 ∙ waits.waited w.1 left;
            })
            (λ (m : Contains waiting w).
            let old = q.waits w m in
            let ne : w.1 ≢ place = λ (e : w.1 ≡ place).
            let high = later w m in
            let low = this.waited in
            let same = ap (λ (i : ℕ). ripe at i g.edges) e in
            omega (arith, old.waited, high, low, same) in
            record { free = free_next w.1 ne old.free; waited = old.waited ∙ sym (same_ripe w.1 (old.free).none) })
            (all_only counts ripes row waiting w h)
