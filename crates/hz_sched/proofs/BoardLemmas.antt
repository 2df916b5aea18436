-- What is left, step by step.
use Rattle.std.proofs.Common.{◌≡◌, ◌≢◌, ℕ, zero, suc, ◌+◌, ◌<◌, ◌≤◌, ◌⊎◌, inl, inr, ⊎_elim, Bool, true, false, ◌&&◌, max, List, [], ◌∷◌, ◌++◌, length, map, replicate, take, Option, Some, None, is_some, All, Contains, get_or, refl, sym, ap, ◌∙◌, subst, arith}
use Rattle.std.specs.Prelude.{slice_index, nat_lt}
use Rattle.std.specs.List.{find}
use Rattle.std.specs.List.Sorted.{IsStrictlySortedBy}
use Rattle.std.specs.Option.{option_map}
use Rattle.std.specs.declared.cmp.Ordering.TheVariants.{Less}
use Rattle.std.specs.BTreeSet.{BTreeSet}
use Rattle.std.proofs.Math.Seq.{take-append_seam}
use Rattle.std.proofs.lemmas.Bool.{lt-ltb}
use Rattle.std.proofs.lemmas.List.{length-map, get_or-map}
use Rattle.std.proofs.lemmas.List.Elements.{All-map}
use Rattle.hz_pipeline_model.specs.Accepting.Events.{issue}
use Rattle.hz_pipeline_model.specs.Tables.Machines.{Machine, parts_walk, IsWalked}
use Rattle.hz_depend.specs.declared.parts.GraphInsn.{GraphInsn}
use Rattle.hz_block_model.specs.Dependences.Graphs.{Edge}
use Rattle.hz_block_model.specs.Scheduling.Schedules.{Node, Graph, Slot, class_at, height_at, GoesBefore, IsCandidate}
use Rattle.hz_sched.specs.Shape.{node_of}
use Rattle.hz_sched.specs.Waits.{issued_at, and_issued, ripe, leading, ripe_from}
use Rattle.hz_sched.specs.Pending.{Key, key_cmp, key_of, Wait, wait_cmp, keys_at, free_below, AreWaits, AreQueued, IsQueue, AreLater, may}
use Rattle.hz_sched.specs.declared.queue.Queue.{Queue}
use Rattle.hz_sched.specs.Standing.{IsAt}
use Rattle.hz_sched.proofs.SlotLemmas.{issued_none, none_issued, same_issued, other_issued}
use Rattle.hz_sched.proofs.WaitLemmas.{edges_from, missing_issued, ripe_issued, missing_none, ripe_none, ready_there, ready_back}
use Rattle.hz_sched.proofs.StandLemmas.{candidate_fits, fits_candidate}
use Rattle.hz_sched.proofs.KeyLemmas.{found_first, found_passes, none_passes, exact_key, same_key, less_key}
use Rattle.hz_sched.proofs.QueueLemmas.{first_there, first_some, first_before, queue_start}

-- ---- fields of instructions

pub height_of_node : (insns : List GraphInsn) (place : ℕ) (x : GraphInsn) → place < length insns → x ≡ get_or insns place x → x.height ≡ slice_index (map (λ n. n.height) (map node_of insns)) place
height_of_node insns place x within is =
    let long = length-map insns node_of in
    ap (λ (i : GraphInsn). i.height) is
    ∙ (ap (λ (n : Node). n.height) (sym (get_or-map node_of insns place x (node_of x) within))
    ∙ sym (get_or-map (λ (n : Node). n.height) (map node_of insns) place (node_of x) 0 (omega (arith, long, within))))

pub classes_of_nodes : (classes : ℕ) (insns : List GraphInsn) → All (λ i. i.class < classes) insns → All (λ n. n.class < classes) (map node_of insns)
classes_of_nodes classes insns all = All-map (λ n. n.class < classes) node_of insns all

-- ---- nothing is issued

zero_at : (n j : ℕ) → slice_index (replicate n 0) j ≡ 0
zero_at zero j = refl
zero_at (suc n) zero = refl
zero_at (suc n) (suc j) = zero_at n j

pub none_waited : (g : Graph) (counts ripes : List ℕ) → length counts ≡ length g.nodes → length ripes ≡ length g.nodes → ((j : ℕ) → slice_index counts j ≡ leading j g.edges) → ripes ≡ replicate (length g.nodes) 0 → AreWaits g (issued_at []) counts ripes
none_waited g counts ripes wide long counted zeros = record {
  counts_size = wide;
  ripes_size = long;
  counted = λ j. counted j ∙ sym (missing_none j g.edges);
  waited = λ j _. ap (λ (xs : List ℕ). slice_index xs j) zeros ∙ (zero_at (length g.nodes) j ∙ sym (ripe_none j g.edges));
}

-- ---- one issue

module _ (g : Graph) (at : ℕ → Option ℕ) (place cycle : ℕ) (left : at place ≡ None) where
  pub enough : (counts ripes : List ℕ) (row : List Edge) → row ≡ edges_from place g.edges → AreWaits g at counts ripes → (j : ℕ) → leading j row ≤ slice_index counts j
  enough counts ripes row is waits j =
      let split = missing_issued at place cycle left j g.edges in
      let counted = waits.counted j in
      let same = ap (leading j) is in
      omega arith

  pub waits_next : (counts ripes fresh later : List ℕ) (row : List Edge) → row ≡ edges_from place g.edges → AreWaits g at counts ripes → length fresh ≡ length counts → length later ≡ length ripes
      → ((j : ℕ) → slice_index counts j ≡ slice_index fresh j + leading j row) → ((j : ℕ) → slice_index later j ≡ max (slice_index ripes j) (ripe_from cycle j row)) → AreWaits g (and_issued at place cycle) fresh later
  waits_next counts ripes fresh later row is waits wide long fewer riper = record {
    counts_size = wide ∙ waits.counts_size;
    ripes_size = long ∙ waits.ripes_size;
    counted = λ j.
        let split = missing_issued at place cycle left j g.edges in
        let counted = waits.counted j in
        let same = ap (leading j) is in
        let f = fewer j in
        omega arith;
    waited = λ j none.
        let ne : j ≢ place = λ (e : j ≡ place). let some = ap (and_issued at place cycle) e ∙ same_issued at place cycle in absurd (cc) in
        riper j
        ∙ (ap (λ (n : ℕ). max n (ripe_from cycle j row)) (waits.waited j (sym (other_issued at place cycle j ne) ∙ none))
        ∙ (ap (λ (es : List Edge). max (ripe at j g.edges) (ripe_from cycle j es)) is
        ∙ sym (ripe_issued at place cycle left j g.edges)));
  }

-- ---- what may be issued

and_left : (a b : Bool) → (a && b) ≡ true → a ≡ true
and_left true b h = refl
and_left false b h = h

and_right : (a b : Bool) → (a && b) ≡ true → b ≡ true
and_right true b h = h
and_right false b h = absurd (cc)

and_both : (a b : Bool) → a ≡ true → b ≡ true → (a && b) ≡ true
and_both true b h k = k
and_both false b h k = h

-- what goes before one that goes before a third
goes_before : (g : Graph) (k h : Key) (j : ℕ) → k ≡ key_of g k.1 → (k ≡ h) ⊎ (key_cmp k h ≡ Less) → (h ≡ key_of g j) ⊎ (key_cmp h (key_of g j) ≡ Less) → GoesBefore g k.1 j
goes_before g k h j whole first then = go (order k h first) (order h (key_of g j) then)
  where
    order : (x y : Key) → (x ≡ y) ⊎ (key_cmp x y ≡ Less) → ((y.0).0 < (x.0).0) ⊎ (((x.0).0 ≡ (y.0).0) × (x.1 ≤ y.1))
    order x y (inl e) = let height : (x.0).0 ≡ (y.0).0 = ap (λ (k : Key). (k.0).0) e in let spot : x.1 ≡ y.1 = ap (λ (k : Key). k.1) e in inr (height, omega (arith, spot))
    order x y (inr e) = ⊎_elim
        (λ (more : (y.0).0 < (x.0).0). inl more)
        (λ (same : ((x.0).0 ≡ (y.0).0) × (x.1 < y.1)). inr (same.0, omega (arith, same.1)))
        (less_key x y e)

    height : (k.0).0 ≡ height_at g k.1
    height = ap (λ (x : Key). (x.0).0) whole

    go : ((h.0).0 < (k.0).0) ⊎ (((k.0).0 ≡ (h.0).0) × (k.1 ≤ h.1)) → (height_at g j < (h.0).0) ⊎ (((h.0).0 ≡ height_at g j) × (h.1 ≤ j)) → GoesBefore g k.1 j
    go (inl a) (inl b) = inl (omega (arith, height, a, b))
    go (inl a) (inr b) = inl (omega (arith, height, a, b.0))
    go (inr a) (inl b) = inl (omega (arith, height, a.0, b))
    go (inr a) (inr b) = inr (omega (arith, height, a.0, b.0), omega (arith, a.1, b.1))

module _ (m : Machine) (g : Graph) (slots : List Slot) (cycle : ℕ) (states : List ℕ) (at : IsAt m g slots cycle states)
    (waiting : List Wait) (rows : List (BTreeSet Key)) (heads : List Key) (q : AreQueued g (issued_at slots) cycle waiting rows heads) (later : AreLater cycle waiting) where
  abbrev test : Key → Bool
  test k = may m g states k.1

  abbrev fit : ℕ → Bool
  fit class = is_some (parts_walk m.parts states (issue class ∷ []))

  -- a candidate comes after the first of its class
  pub candidate_ready : (j : ℕ) → IsCandidate (IsWalked m) g slots cycle j → Contains (keys_at rows (class_at g j)) (key_of g j)
  candidate_ready j c =
      let (none, low) = ready_back g slots cycle j at.reported c.ready in
      ⊎_elim
      (λ (m : Contains waiting (ripe (issued_at slots) j g.edges, j)). let high = later (ripe (issued_at slots) j g.edges, j) m in absurd (omega (arith, high, low)))
      (λ (m : Contains (keys_at rows (class_at g j)) (key_of g j)). m)
      (q.each j (record { within = c.within; left = issued_none slots j c.left; none = none }))

  pub record IsHead (j : ℕ) : Type 0 where
    pub head : Key
    pub held : Contains heads head
    pub before : (head ≡ key_of g j) ⊎ (key_cmp head (key_of g j) ≡ Less)
    pub passes : test head ≡ true

  head_of : (j : ℕ) → IsCandidate (IsWalked m) g slots cycle j → IsHead j
  head_of j c =
      let there = candidate_ready j c in
      let (h, first) = first_some (keys_at rows (class_at g j)) (key_of g j) there in
      let mine = q.ready (class_at g j) h (first_there (keys_at rows (class_at g j)) h first) in
      record {
        head = h;
        held = (q.first).each (class_at g j) h first;
        before = first_before (keys_at rows (class_at g j)) h (q.ready_ordered (class_at g j)) first (key_of g j) there;
        passes = and_both (nat_lt h.1 (length g.nodes)) (fit (class_at g h.1)) (lt-ltb h.1 (length g.nodes) (mine.free).within) (ap fit mine.classed ∙ candidate_fits m g slots cycle states at j c);
      }

  ready_of : (k : Key) → Contains heads k → Contains (keys_at rows (class_at g k.1)) k
  ready_of k held = first_there (keys_at rows (class_at g k.1)) k ((q.first).only k held)

  passes_candidate : (k : Key) → Contains heads k → test k ≡ true → IsCandidate (IsWalked m) g slots cycle k.1
  passes_candidate k held passes =
      let mine = q.ready (class_at g k.1) k (ready_of k held) in
      record {
        within = (mine.free).within;
        left = none_issued slots k.1 (mine.free).left;
        ready = ready_there g slots cycle k.1 (mine.free).none mine.waited;
        fits = fits_candidate m g slots cycle states at k.1 (and_right (nat_lt k.1 (length g.nodes)) (fit (class_at g k.1)) passes);
      }

  -- none is found where none may be issued
  pub none_may : option_map (λ k. k.1) (find test heads) ≡ None → (j : ℕ) → IsCandidate (IsWalked m) g slots cycle j → ⊥
  none_may e j c = go (find test heads) refl e
    where
      go : (o : Option Key) → find test heads ≡ o → option_map (λ k. k.1) o ≡ None → ⊥
      go None is e = let h = head_of j c in none_passes test heads is h.head h.held h.passes
      go (Some k) is e = cc

  -- the one that is found is the first that may be issued
  pub first_may : (place : ℕ) → option_map (λ k. k.1) (find test heads) ≡ Some place → IsCandidate (IsWalked m) g slots cycle place × ((j : ℕ) → IsCandidate (IsWalked m) g slots cycle j → GoesBefore g place j)
  first_may place e = go (find test heads) refl e
    where
      go : (o : Option Key) → find test heads ≡ o → option_map (λ k. k.1) o ≡ Some place → IsCandidate (IsWalked m) g slots cycle place × ((j : ℕ) → IsCandidate (IsWalked m) g slots cycle j → GoesBefore g place j)
      go None is e = absurd (cc)
      go (Some k) is e =
          let same : k.1 ≡ place = cc in
          let (held, passes) = found_passes test heads k is in
          let mine = q.ready (class_at g k.1) k (ready_of k held) in
          let before : (j : ℕ) → IsCandidate (IsWalked m) g slots cycle j → GoesBefore g k.1 j = λ j c.
          let h = head_of j c in
          goes_before g k h.head j mine.key (found_first key_cmp exact_key same_key test heads k (q.first).ordered is h.head h.held h.passes) h.before in
          subst (λ (i : ℕ). IsCandidate (IsWalked m) g slots cycle i × ((j : ℕ) → IsCandidate (IsWalked m) g slots cycle j → GoesBefore g i j)) same (passes_candidate k held passes, before)

-- a slice that is written back
written : (n : ℕ) (xs ys : List ℕ) → n ≡ length xs → take n (xs ++ ys) ≡ xs
written n xs ys e = ap (λ (k : ℕ). take k (xs ++ ys)) e ∙ take-append_seam xs ys

pub both_written : (g : Graph) (at : ℕ → Option ℕ) (n k : ℕ) (fresh rest later tail : List ℕ) → n ≡ length fresh → k ≡ length later → AreWaits g at fresh later → AreWaits g at (take n (fresh ++ rest)) (take k (later ++ tail))
both_written g at n k fresh rest later tail e f h =
    subst (λ (xs : List ℕ). AreWaits g at xs (take k (later ++ tail))) (sym (written n fresh rest e)) (subst (AreWaits g at fresh) (sym (written k later tail f)) h)

-- ---- the queue of a board

-- the first instructions wait, and none is ready
pub board_queue : (g : Graph) (counts ripes seen late : List ℕ) (queue : Queue) → AreWaits g (issued_at []) counts ripes → seen ≡ counts → late ≡ ripes → ((j : ℕ) → j < length g.nodes → class_at g j < length queue.ready.items)
    → queue.waiting.keys ≡ free_below seen late (length seen) → IsStrictlySortedBy wait_cmp queue.waiting.keys → ((class : ℕ) → keys_at queue.ready.items class ≡ []) → queue.heads.keys ≡ [] → IsQueue g (issued_at []) 0 queue
board_queue g counts ripes seen late queue waits same alike classes waiting ordered none heads =
    let held : queue.waiting.keys ≡ free_below counts ripes (length counts) = waiting ∙ (ap (λ (xs : List ℕ). free_below xs late (length xs)) same ∙ ap (λ (xs : List ℕ). free_below counts xs (length counts)) alike) in
    let start = queue_start g counts ripes waits queue.ready.items none classes (length counts) waits.counts_size (subst (IsStrictlySortedBy wait_cmp) held ordered) in
    subst (λ (hs : List Key). AreQueued g (issued_at []) 0 queue.waiting.keys queue.ready.items hs) (sym heads) (subst (λ (ws : List Wait). AreQueued g (issued_at []) 0 ws queue.ready.items []) (sym held) start)
