-- Writes by their numbers.
use Rattle.std.proofs.Common.{◌≡◌, ℕ, zero, suc, ◌+◌, ◌<◌, ◌≤◌, ◌==◌, Bool, true, false, ◌&&◌, cond, ⊎_elim, List, [], ◌∷◌, ◌++◌, map, length, get_or, Option, Some, None, refl, sym, ap, ◌∙◌, subst, arith}
use Rattle.std.specs.Prelude.{slice_get, slice_index_or, nat_le}
use Rattle.std.specs.Option.{option_map_or}
use Rattle.std.specs.declared.alloc.Global.{Global}
use Rattle.std.specs.declared.vec.Vec.{Vec}
use Rattle.std.specs.Ordering.{nat_cmp}
use Rattle.std.specs.BTreeMap.{BTreeMap, get, IsOrdered}
use Rattle.std.proofs.lemmas.Bool.{cases_lt, eqb-true}
use Rattle.hz_block_model.specs.Running.States.{Place, reg, cell, same_place}
use Rattle.hz_timed.specs.declared.write.Write.{Write}
use Rattle.hz_sched.specs.declared.parts.Slot.{Slot}
use Rattle.hz_timed.specs.declared.written.Written.{Written}
use Rattle.hz_timed.specs.Shape.{place_of}
use Rattle.hz_timed.specs.Writes.{last_below, passes, is_at, is_ripe_by, latest, last_ripe, held, IsIndexed}
use Rattle.hz_timed.proofs.BelowLemmas.{same_below, last_is_below, last_passes, from_there, among}

pub same_place-true : (p q : Place) → same_place p q ≡ true → p ≡ q
same_place-true (reg m) (reg n) e = ap reg (eqb-true m n e)
same_place-true (cell a) (cell b) e = ap cell (eqb-true a b e)
same_place-true (reg m) (cell b) e = absurd (cc)
same_place-true (cell a) (reg n) e = absurd (cc)

module _ {X : Type 0} where
  pub get_before : (xs : List X) (x : X) (k : ℕ) → k < length xs → slice_get (xs ++ x ∷ []) k ≡ slice_get xs k
  get_before [] x k lt = absurd (omega arith)
  get_before (y ∷ xs) x zero lt = refl
  get_before (y ∷ xs) x (suc k) lt = get_before xs x k (omega arith)

  pub get_end : (xs : List X) (x : X) → slice_get (xs ++ x ∷ []) (length xs) ≡ Some x
  get_end [] x = refl
  get_end (y ∷ xs) x = get_end xs x

  pub get_past : (xs : List X) (x : X) (k : ℕ) → length xs < k → slice_get (xs ++ x ∷ []) k ≡ None
  get_past [] x zero lt = absurd (omega arith)
  get_past [] x (suc k) lt = refl
  get_past (y ∷ xs) x zero lt = absurd (omega arith)
  get_past (y ∷ xs) x (suc k) lt = get_past xs x k (omega arith)

-- ---- the walk back

-- what is left to be found, from a write on
abbrev pub left_from : (ℕ → ℕ → ℕ) → Slot → List Write → Place → Option ℕ → Option ℕ
left_from number slot writes p = from_there (λ k. passes (is_ripe_by number slot) writes k && passes (is_at p) writes k)

-- a write passes both tests
both : (number : ℕ → ℕ → ℕ) (slot : Slot) (writes : List Write) (p : Place) (k : ℕ) → passes (λ w. is_ripe_by number slot w && is_at p w) writes k ≡ (passes (is_ripe_by number slot) writes k && passes (is_at p) writes k)
both number slot writes p k = go (slice_get writes k)
  where
    go : (o : Option Write) → option_map_or (λ w. is_ripe_by number slot w && is_at p w) o false ≡ (option_map_or (is_ripe_by number slot) o false && option_map_or (is_at p) o false)
    go (Some w) = refl
    go None = refl

pub walk_begins : (number : ℕ → ℕ → ℕ) (slot : Slot) (writes : List Write) (p : Place) → left_from number slot writes p (latest writes p) ≡ last_ripe number slot writes p
walk_begins number slot writes p =
    sym (among (passes (is_ripe_by number slot) writes) (passes (is_at p) writes) (length writes))
    ∙ sym (same_below _ _ (length writes) (λ k lt. both number slot writes p k))

-- a write at which the walk stands
module _ (number : ℕ → ℕ → ℕ) (slot : Slot) (writes : List Write) (p : Place) (k : ℕ) (w : Write) (there : slice_get writes k ≡ Some w) (at : is_at p w ≡ true) where
  first_is : (b : Bool) → is_ripe_by number slot w ≡ b → left_from number slot writes p (Some k) ≡ cond b (Some k) (last_below (λ j. passes (is_ripe_by number slot) writes j && passes (is_at p) writes j) k)
  first_is b is =
      ap (λ (o : Option Write). cond (option_map_or (is_ripe_by number slot) o false && option_map_or (is_at p) o false) (Some k) (last_below (λ j. passes (is_ripe_by number slot) writes j && passes (is_at p) writes j) k)) there
      ∙ (ap (λ (c : Bool). cond (c && is_at p w) (Some k) (last_below (λ j. passes (is_ripe_by number slot) writes j && passes (is_at p) writes j) k)) is
      ∙ go b)
    where
      go : (b : Bool) → cond (b && is_at p w) (Some k) (last_below (λ j. passes (is_ripe_by number slot) writes j && passes (is_at p) writes j) k) ≡ cond b (Some k) (last_below (λ j. passes (is_ripe_by number slot) writes j && passes (is_at p) writes j) k)
      go true = ap (λ (c : Bool). cond c (Some k) (last_below (λ j. passes (is_ripe_by number slot) writes j && passes (is_at p) writes j) k)) at
      go false = refl

  pub walk_ends : is_ripe_by number slot w ≡ true → left_from number slot writes p (Some k) ≡ Some k
  walk_ends is = first_is true is

  pub walk_goes_on : is_ripe_by number slot w ≡ false → w.before ≡ last_below (passes (is_at (place_of w.what)) writes) k → left_from number slot writes p (Some k) ≡ left_from number slot writes p w.before
  walk_goes_on is before =
      first_is false is
      ∙ (among (passes (is_ripe_by number slot) writes) (passes (is_at p) writes) k
      ∙ ap (left_from number slot writes p) (ap (λ (q : Place). last_below (passes (is_at q) writes) k) (sym (same_place-true (place_of w.what) p at)) ∙ sym before))

-- ---- one write more

module _ (writes : List Write) (w : Write) where
  passes_before : (test : Write → Bool) (k : ℕ) → k < length writes → passes test (writes ++ w ∷ []) k ≡ passes test writes k
  passes_before test k lt = ap (λ (o : Option Write). option_map_or test o false) (get_before writes w k lt)

  below_before : (test : Write → Bool) (n : ℕ) → n ≤ length writes → last_below (passes test (writes ++ w ∷ [])) n ≡ last_below (passes test writes) n
  below_before test n le = same_below _ _ n (λ k lt. passes_before test k (omega arith))

  longer : length (writes ++ w ∷ []) ≡ suc (length writes)
  longer = go writes
    where
      go : (ws : List Write) → length (ws ++ w ∷ []) ≡ suc (length ws)
      go [] = refl
      go (v ∷ ws) = ap suc (go ws)

  pub latest_more : (p : Place) → latest (writes ++ w ∷ []) p ≡ cond (is_at p w) (Some (length writes)) (latest writes p)
  latest_more p =
      ap (last_below (passes (is_at p) (writes ++ w ∷ []))) longer
      ∙ (ap (λ (o : Option Write). cond (option_map_or (is_at p) o false) (Some (length writes)) (last_below (passes (is_at p) (writes ++ w ∷ [])) (length writes))) (get_end writes w)
      ∙ ap (λ (o : Option ℕ). cond (is_at p w) (Some (length writes)) o) (below_before (is_at p) (length writes) (omega arith)))

  pub linked_more : ((k : ℕ) (v : Write) → slice_get writes k ≡ Some v → v.before ≡ last_below (passes (is_at (place_of v.what)) writes) k) → w.before ≡ latest writes (place_of w.what)
      → (k : ℕ) (v : Write) → slice_get (writes ++ w ∷ []) k ≡ Some v → v.before ≡ last_below (passes (is_at (place_of v.what)) (writes ++ w ∷ [])) k
  linked_more linked before k v at = ⊎_elim
      (λ (lt : k < length writes). linked k v (sym (get_before writes w k lt) ∙ at) ∙ sym (below_before (is_at (place_of v.what)) k (omega arith)))
      (λ (ge : length writes ≤ k). ⊎_elim
      (λ (past : length writes < k). let none = get_past writes w k past in absurd (cc))
      (λ (le : k ≤ length writes). last k (omega arith) at)
      (cases_lt (length writes) k))
      (cases_lt k (length writes))
    where
      is_w : (v : Write) → slice_get (writes ++ w ∷ []) (length writes) ≡ Some v → w ≡ v
      is_w v e = let f = get_end writes w in cc

      last : (k : ℕ) → k ≡ length writes → slice_get (writes ++ w ∷ []) k ≡ Some v → v.before ≡ last_below (passes (is_at (place_of v.what)) (writes ++ w ∷ [])) k
      last k same at =
          let same_w = is_w v (ap (slice_get (writes ++ w ∷ [])) (sym same) ∙ at) in
          ap (λ (u : Write). u.before) (sym same_w) ∙ (before ∙ (ap (λ (u : Write). latest writes (place_of u.what)) same_w
          ∙ (sym (below_before (is_at (place_of v.what)) (length writes) (omega arith)) ∙ ap (last_below (passes (is_at (place_of v.what)) (writes ++ w ∷ []))) (sym same))))

-- ---- the loop

-- Where the walk stands: what is left to be found from there is what is to be found.
pub record IsWalk (number : ℕ → ℕ → ℕ) (slot : Slot) (writes : List Write) (p : Place) (at : Option ℕ) (turn : ℕ) : Type 0 where
  pub left : left_from number slot writes p at ≡ last_ripe number slot writes p
  pub low : (k : ℕ) → at ≡ Some k → k + turn < length writes
  pub there : (k : ℕ) → at ≡ Some k → passes (is_at p) writes k ≡ true

module _ (number : ℕ → ℕ → ℕ) (slot : Slot) (writes : List Write) (p : Place) where
  pub walk_first : (at : Option ℕ) → at ≡ latest writes p → IsWalk number slot writes p at 0
  walk_first at is = record {
    left = ap (left_from number slot writes p) is ∙ walk_begins number slot writes p;
    low = λ k e. let lt = last_is_below (passes (is_at p) writes) (length writes) k (sym is ∙ e) in omega arith;
    there = λ k e. last_passes (passes (is_at p) writes) (length writes) k (sym is ∙ e);
  }

  pub walk_none : (turn : ℕ) → IsWalk number slot writes p None turn → None ≡ last_ripe number slot writes p
  walk_none turn h = h.left

  is_there : (k : ℕ) (w : Write) → slice_get writes k ≡ Some w → passes (is_at p) writes k ≡ true → is_at p w ≡ true
  is_there k w at h = ap (λ (o : Option Write). option_map_or (is_at p) o false) (sym at) ∙ h

  pub walk_found : (at : Option ℕ) (k turn : ℕ) (w : Write) → at ≡ Some k → IsWalk number slot writes p at turn → slice_get writes k ≡ Some w → is_ripe_by number slot w ≡ true → Some k ≡ last_ripe number slot writes p
  walk_found at k turn w is h found ripe = sym (walk_ends number slot writes p k w found (is_there k w found (h.there k is)) ripe) ∙ (ap (left_from number slot writes p) (sym is) ∙ h.left)

  pub walk_next : (at : Option ℕ) (k turn : ℕ) (w : Write) → at ≡ Some k → IsWalk number slot writes p at turn → slice_get writes k ≡ Some w → is_ripe_by number slot w ≡ false → w.before ≡ last_below (passes (is_at (place_of w.what)) writes) k → IsWalk number slot writes p w.before (turn + 1)
  walk_next at k turn w is h found ripe before =
      let here = is_there k w found (h.there k is) in
      let same : w.before ≡ last_below (passes (is_at p) writes) k = before ∙ ap (λ (q : Place). last_below (passes (is_at q) writes) k) (same_place-true (place_of w.what) p here) in
      let bound = h.low k is in
      record {
        left = sym (walk_goes_on number slot writes p k w found here ripe before) ∙ (ap (left_from number slot writes p) (sym is) ∙ h.left);
        low = λ j e. let lt = last_is_below (passes (is_at p) writes) k j (sym same ∙ e) in omega (arith, lt, bound);
        there = λ j e. last_passes (passes (is_at p) writes) k j (sym same ∙ e);
      }

  pub walk_over : (at : Option ℕ) (turn : ℕ) → length writes ≤ turn → IsWalk number slot writes p at turn → None ≡ last_ripe number slot writes p
  walk_over None turn le h = h.left
  walk_over (Some k) turn le h = let bound = h.low k refl in absurd (omega (arith, le, bound))

pub got : (writes : List Write) (k : ℕ) (w : Write) → k < length writes → w ≡ get_or writes k w → slice_get writes k ≡ Some w
got [] k w inside is = absurd (omega arith)
got (first ∷ writes) zero w inside is = ap (λ (x : Write). Some x) (sym is)
got (first ∷ writes) (suc k) w inside is = got writes k w (omega arith) is

-- ---- one write more

pub more_held : (writes : List Write) (w : Write) (held held' : Place → Option ℕ) (p : Place) → held p ≡ latest writes p → held' p ≡ cond (same_place (place_of w.what) p) (Some (length writes)) (held p) → held' p ≡ latest (writes ++ w ∷ []) p
more_held writes w held held' p was now =
    now ∙ (ap (λ (o : Option ℕ). cond (same_place (place_of w.what) p) (Some (length writes)) o) was ∙ sym (latest_more writes w p))

same_held : (a b : Written) → a.registers.items ≡ b.registers.items → a.cells ≡ b.cells → (p : Place) → held a p ≡ held b p
same_held a b registers cells (reg r) = ap (λ (xs : List (Option ℕ)). slice_index_or xs r None) registers
same_held a b registers cells (cell address) = ap (λ (m : BTreeMap ℕ ℕ). get nat_cmp m address) cells

-- what was held for one write more, and then that write
pub indexed_more : (old between new : Written) (w : Write) (number : ℕ) → IsIndexed old → w.before ≡ latest old.writes.items (place_of w.what) → number ≡ length old.writes.items
    → between.writes.items ≡ old.writes.items → ((p : Place) → held between p ≡ cond (same_place (place_of w.what) p) (Some number) (held old p)) → length between.registers.items ≡ 256 → IsOrdered nat_cmp between.cells
    → new.writes.items ≡ between.writes.items ++ w ∷ [] → new.registers ≡ between.registers → new.cells ≡ between.cells → IsIndexed new
indexed_more old between new w number was before many items holds size ordered pushed registers cells = record {
  linked = λ k v at.
      let all = linked_more old.writes.items w was.linked before k v (ap (λ (ws : List Write). slice_get ws k) (sym grown) ∙ at) in
      all ∙ ap (λ (ws : List Write). last_below (passes (is_at (place_of v.what)) ws) k) (sym grown);
  size = ap (λ (r : Vec (Option ℕ) Global). length r.items) registers ∙ size;
  last = λ p there.
      same_held new between (ap (λ (r : Vec (Option ℕ) Global). r.items) registers) cells p
      ∙ (more_held old.writes.items w (held old) (held between) p (was.last p there) (holds p ∙ ap (λ (n : ℕ). cond (same_place (place_of w.what) p) (Some n) (held old p)) many)
      ∙ ap (λ (ws : List Write). latest ws p) (sym grown));
  ordered = subst (λ (m : BTreeMap ℕ ℕ). IsOrdered nat_cmp m) (sym cells) ordered;
}
  where
    grown : new.writes.items ≡ old.writes.items ++ w ∷ []
    grown = pushed ∙ ap (λ (ws : List Write). ws ++ w ∷ []) items
