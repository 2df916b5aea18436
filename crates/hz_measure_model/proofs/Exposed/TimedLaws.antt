-- Over a schedule that keeps every dependence an exposed pipeline leaves what the order of the source leaves.
use Rattle.std.proofs.Common.{◌≡◌, ℕ, zero, ◌+◌, ◌<◌, ◌≤◌, Bool, true, false, ◌&&◌, cond, ⊎_elim, List, [], ◌∷◌, ◌++◌, map, length, Option, Some, None, Contains, refl, sym, ap, ◌∙◌, subst, append_assoc, arith, rules}
use Rattle.std.specs.Prelude.{slice_get, IsTrue}
use Rattle.std.specs.List.{range_with_len}
use Rattle.std.proofs.Math.Path.{fun_ext}
use Rattle.std.proofs.Math.Bool.{and-false}
use Rattle.std.proofs.lemmas.Bool.{cases_lt, le-leb}
use Rattle.std.proofs.lemmas.List.{map-append}
use Rattle.std.proofs.lemmas.List.Elements.{Contains-append_left, Contains-append_right}
use Rattle.hz_base_model.proofs.Elements.{Contains-nil, Contains-head, Contains-cons_cases, Contains-map, Contains-from_map}
use Rattle.hz_block_model.specs.Running.Blocks.{Instruction}
use Rattle.hz_block_model.specs.Running.States.{Place, reg, cell, State, Store, all_stored, value_in, run}
use Rattle.hz_block_model.specs.Dependences.Accesses.{access_of, is_among}
use Rattle.hz_block_model.specs.Dependences.Dependences.{is_written, is_true, depends, Timing, cost}
use Rattle.hz_block_model.specs.Dependences.Graphs.{edge, IsGraph}
use Rattle.hz_block_model.specs.Dependences.Orders.{IsOrder}
use Rattle.hz_block_model.proofs.Dependences.StoreLaws.{touches, Hit, register_hit, cell_hit}
use Rattle.hz_block_model.proofs.Dependences.ValueLaws.{each_from, same_stores}
use Rattle.hz_block_model.proofs.Dependences.WrittenLaws.{writes, written_by}
use Rattle.hz_block_model.proofs.Dependences.SourceLaws.{contains_among, stores_at, source, given, storer_at, output_depends, anti_depends, cell_depends, register_depends}
use Rattle.hz_block_model.proofs.Dependences.DoneLaws.{not_true}
use Rattle.hz_block_model.proofs.Dependences.UpwardLaws.{upwards}
use Rattle.hz_block_model.specs.Scheduling.Schedules.{Graph, Slot, places, IsReady}
use Rattle.hz_measure_model.specs.Exposed.Exposed.{Left, newest, word_left, stores_in, is_ripe, seen, left_by, lefts_of, exposed}
use Rattle.hz_measure_model.proofs.Exposed.ApartLaws.{found_at, run_source, true_by_cell, true_by_register, true_costs}
use Rattle.hz_measure_model.proofs.Exposed.LastLaws.{stored_registers, Last, never, at, last, stays, word_of_last, onto, onto_front, in_onto, past_onto}

-- a place that is read is written by the last instruction that stores to it, which the reader truly depends on
module _ (block : List Instruction) (s : State) (k j : ℕ) (lt : k < j) (v w : Instruction) (first : slice_get block k ≡ Some v) (second : slice_get block j ≡ Some w) where
  abbrev Truly : Type 0
  Truly = (is_true (is_written block (k + 1) j) (is_written block k j) (access_of v) (access_of w) ≡ true) × (depends block k j ≡ true)

  by_register : (n q r : ℕ) → reg n ≡ reg q → reg n ≡ reg r → is_among (access_of v).registers_written q ≡ true → is_among (access_of w).registers_read r ≡ true → ((m : ℕ) → k < m → m < j → touches (given block s m) (reg n) ≡ false) → Truly
  by_register n q r eq er wrote reads none =
      let nq : q ≡ n = cc in
      let nr : r ≡ n = cc in
      let wrote_it : writes v n ≡ true = ap (writes v) (sym nq) ∙ wrote in
      let reads_it : is_among (access_of w).registers_read n ≡ true = ap (is_among (access_of w).registers_read) (sym nr) ∙ reads in
      let free : is_written block (k + 1) j n ≡ false = not_true (is_written block (k + 1) j n) (λ written.
      let u = written_by block (k + 1) j n written in
      let low : k < u.place = let h = u.low in omega arith in
      let hit : touches (given block s u.place) (reg n) ≡ true = ap (λ (o : Option Instruction). touches (stores_at o (source block s u.place)) (reg n)) u.at ∙ (stored_registers (source block s u.place) u.who.number u.who.effects n ∙ u.writes_it) in
      let miss = none u.place low u.high in
      absurd (cc)) in
      (true_by_register block s k j lt v w first second n wrote_it reads_it free, register_depends block s k j lt v w first second n wrote_it reads_it free)

  truly : (p : Place) → Hit (access_of v).registers_written (access_of v).addresses_written (source block s k) p → Hit (access_of w).registers_read (access_of w).addresses_read (source block s j) p
      → ((m : ℕ) → k < m → m < j → touches (given block s m) p ≡ false) → Truly
  truly (cell c) h r none = (true_by_cell block s k j lt v w first second c h r, cell_depends block s k j lt v w first second c h r)
  truly (reg n) (register_hit q is wrote) (register_hit r is' reads) none = by_register n q r is is' wrote reads none
  truly (reg n) (register_hit q is wrote) (cell_hit a is' c) none = absurd (cc)
  truly (reg n) (cell_hit a is c) r none = absurd (cc)

is_true_test : (b : Bool) → b ≡ true → IsTrue b
is_true_test true h = search rules
is_true_test false h = absurd (cc)

-- An earlier and a later slot: they are of different instructions, and the earlier one doesn't depend on the later.
record IsBefore (block : List Instruction) (y x : Slot) : Type 0 where
  pub differ : y.place ≡ x.place → ⊥
  pub free : depends block x.place y.place ≡ true → ⊥

module _ (block : List Instruction) (t : Timing) (g : Graph) (slots : List Slot) (s : State) (graph : IsGraph block t g.edges) (whole : IsOrder (length block) (places slots))
    (kept : (before after : List Slot) (x : Slot) → slots ≡ before ++ x ∷ after → IsReady g before x.cycle x.place) where
  beyond : (before after : List Slot) (x : Slot) (i : ℕ) → slots ≡ before ++ x ∷ after → depends block i x.place ≡ true → (y : Slot) × Contains before y × (y.place ≡ i) × (y.cycle + cost block t i x.place ≤ x.cycle)
  beyond before after x i is depending =
      let (up, inside) = upwards block i x.place (is_true_test (depends block i x.place) depending) in
      kept before after x is (edge block t i x.place) (graph.each i x.place (omega arith) inside depending) refl

  earlier : (past mid rest : List Slot) (x : Slot) → slots ≡ onto past (mid ++ x ∷ rest) → (y : Slot) → Contains past y → IsBefore block y x
  earlier [] mid rest x is y c = absurd (Contains-nil y c)
  earlier (z ∷ past) mid rest x is y c = ⊎_elim
      (λ (e : z ≡ y). subst (λ (w : Slot). IsBefore block w x) e (record { differ = differ; free = free }))
      (λ (m : Contains past y). earlier past (z ∷ mid) rest x is y m)
      (Contains-cons_cases z y past c)
    where
      front : List Slot
      front = onto past []

      split : slots ≡ (onto past [] ++ z ∷ mid) ++ x ∷ rest
      split = is ∙ (onto_front past (z ∷ (mid ++ x ∷ rest)) ∙ sym (append_assoc (onto past []) (z ∷ mid) (x ∷ rest)))

      order : places slots ≡ places (onto past [] ++ z ∷ mid) ++ x.place ∷ places rest
      order = ap places split ∙ map-append (λ (w : Slot). w.place) (onto past [] ++ z ∷ mid) (x ∷ rest)

      differ : z.place ≡ x.place → ⊥
      differ e = whole.once (places (onto past [] ++ z ∷ mid)) (places rest) x.place order
          (subst (λ (k : ℕ). Contains (places (onto past [] ++ z ∷ mid)) k) e (Contains-map (λ (w : Slot). w.place) (onto past [] ++ z ∷ mid) z (Contains-append_right (onto past []) (z ∷ mid) z (Contains-head z mid))))

      free : depends block x.place z.place ≡ true → ⊥
      free d =
          let (y', there, place, late) = beyond (onto past []) (mid ++ x ∷ rest) z x.place (is ∙ onto_front past (z ∷ (mid ++ x ∷ rest))) d in
          whole.once (places (onto past [] ++ z ∷ mid)) (places rest) x.place order
          (subst (λ (k : ℕ). Contains (places (onto past [] ++ z ∷ mid)) k) place (Contains-map (λ (w : Slot). w.place) (onto past [] ++ z ∷ mid) y' (Contains-append_left (onto past []) (z ∷ mid) y' there)))

  -- what a slot leaves where it stores what it stores in the order of the source
  abbrev gave : Slot → Left
  gave x = record { place = x.place; cycle = x.cycle; stores = given block s x.place }

  not_found : (past : List Slot) (passes : Left → Bool) (p : Place) → ((z : Slot) → Contains past z → touches (given block s z.place) p ≡ false) → newest passes (map gave past) p ≡ None
  not_found [] passes p none = refl
  not_found (z ∷ past) passes p none =
      ap (λ (b : Bool). cond (passes (gave z) && b) (Some (gave z)) (newest passes (map gave past) p)) (none z (Contains-head z past))
      ∙ (ap (λ (b : Bool). cond b (Some (gave z)) (newest passes (map gave past) p)) (and-false (passes (gave z))) ∙ not_found past passes p (λ w c. none w (Contains-tail' z w past c)))
    where
      Contains-tail' : (z w : Slot) (past : List Slot) → Contains past w → Contains (z ∷ past) w
      Contains-tail' z w past c = Contains-append_right (z ∷ []) past w c

  -- the newest that passes and stored to a place is the last in the order of the source below a place, where it passes
  found : (past rest : List Slot) → slots ≡ onto past rest → (passes : Left → Bool) (p : Place) (n k : ℕ) (y : Slot) → Contains past y → y.place ≡ k → passes (gave y) ≡ true → touches (given block s k) p ≡ true
      → ((m : ℕ) → k < m → m < n → touches (given block s m) p ≡ false) → ((z : Slot) → Contains past z → n ≤ z.place → touches (given block s z.place) p ≡ false)
      → newest passes (map gave past) p ≡ Some (gave y)
  found [] rest is passes p n k y c at_k ok hit none above = absurd (Contains-nil y c)
  found (z ∷ past) rest is passes p n k y c at_k ok hit none above = ⊎_elim
      (λ (e : z ≡ y). here e)
      (λ (m : Contains past y). further m (found past (z ∷ rest) is passes p n k y m at_k ok hit none (λ w d le. above w (Contains-append_right (z ∷ []) past w d) le)))
      (Contains-cons_cases z y past c)
    where
      hit_y : touches (given block s y.place) p ≡ true
      hit_y = ap (λ (i : ℕ). touches (given block s i) p) at_k ∙ hit

      here : z ≡ y → newest passes (map gave (z ∷ past)) p ≡ Some (gave y)
      here e =
          ap (λ (w : Slot). cond (passes (gave w) && touches (given block s w.place) p) (Some (gave w)) (newest passes (map gave past) p)) e
          ∙ (ap (λ (b : Bool). cond (b && touches (given block s y.place) p) (Some (gave y)) (newest passes (map gave past) p)) ok
          ∙ ap (λ (b : Bool). cond b (Some (gave y)) (newest passes (map gave past) p)) hit_y)

      miss : Contains past y → touches (given block s z.place) p ≡ false
      miss m = not_true (touches (given block s z.place) p) (λ t. contradiction t)
        where
          apart : IsBefore block y z
          apart = earlier past [] rest z is y m

          contradiction : touches (given block s z.place) p ≡ true → ⊥
          contradiction t = ⊎_elim
              (λ (low : z.place < k). let v = storer_at block s z.place p t in let w = storer_at block s k p hit in
              apart.free (subst (λ (i : ℕ). depends block z.place i ≡ true) (sym at_k) (output_depends block s z.place k low v.who w.who v.is w.is p v.hit w.hit)))
              (λ (ge : k ≤ z.place). ⊎_elim
              (λ (inside : z.place < n). let d = apart.differ in let lt : k < z.place = omega (arith, d) in let f = none z.place lt inside in absurd (cc))
              (λ (out : n ≤ z.place). let f = above z (Contains-head z past) out in absurd (cc))
              (cases_lt z.place n))
              (cases_lt z.place k)

      further : Contains past y → newest passes (map gave past) p ≡ Some (gave y) → newest passes (map gave (z ∷ past)) p ≡ Some (gave y)
      further m rest_is =
          ap (λ (b : Bool). cond (passes (gave z) && b) (Some (gave z)) (newest passes (map gave past) p)) (miss m)
          ∙ (ap (λ (b : Bool). cond b (Some (gave z)) (newest passes (map gave past) p)) (and-false (passes (gave z))) ∙ rest_is)

  -- a slot whose past slots stored what they store in the order of the source
  module _ (past rest : List Slot) (x : Slot) (is : slots ≡ onto past (x ∷ rest)) (w : Instruction) (there : slice_get block x.place ≡ Some w) where
    -- no past slot from its place on stores to what it reads
    later : (p : Place) → Hit (access_of w).registers_read (access_of w).addresses_read (source block s x.place) p → (z : Slot) → Contains past z → x.place ≤ z.place → touches (given block s z.place) p ≡ false
    later p read z c le =
        let apart = earlier past [] rest x is z c in
        not_true (touches (given block s z.place) p) (λ t.
        let v = storer_at block s z.place p t in
        let d = apart.differ in
        let lt : x.place < z.place = omega (arith, d) in
        apart.free (anti_depends block s x.place z.place lt w v.who there v.is p read v.hit))

    -- it sees what it reads in the order of the source
    pub sees : (p : Place) → Hit (access_of w).registers_read (access_of w).addresses_read (source block s x.place) p → seen block t.number s (map gave past) x p ≡ source block s x.place p
    sees p read = go (last block s x.place p)
      where
        go : Last block s x.place p → seen block t.number s (map gave past) x p ≡ source block s x.place p
        go (never none) =
            ap (λ (o : Option Left). word_left s o p) (not_found past (is_ripe block t.number s x) p (λ z c. ⊎_elim (λ (low : z.place < x.place). none z.place low) (λ (ge : x.place ≤ z.place). later p read z c ge) (cases_lt z.place x.place)))
            ∙ sym (stays block s zero x.place p (omega arith) (λ m low high. none m high))
        go (at k lt hit none) =
            let v = storer_at block s k p hit in
            let (truth, depending) = truly block s k x.place lt v.who w v.is there p v.hit read none in
            let (y, c, place, late) = beyond (onto past []) rest x k (is ∙ onto_front past (x ∷ rest)) depending in
            let enough = true_costs block s k x.place lt v.who w v.is there t truth in
            let number_is : t.number y.place x.place ≡ t.number k x.place = ap (λ (i : ℕ). t.number i x.place) place in
            let m : Contains past y = ⊎_elim (λ (h : Contains past y). h) (λ (h : Contains [] y). absurd (Contains-nil y h)) (in_onto past [] y c) in
            ap (λ (o : Option Left). word_left s o p) (found past (x ∷ rest) is (is_ripe block t.number s x) p x.place k y m place (le-leb (y.cycle + t.number y.place x.place) x.cycle (omega arith)) hit none (later p read))
            ∙ (ap (λ (i : ℕ). all_stored s (given block s i) p) place ∙ word_of_last block s x.place k p s lt hit none)

    -- the newest slot that stored to what it reads is ripe
    pub newest_is_ripe : (p : Place) → Hit (access_of w).registers_read (access_of w).addresses_read (source block s x.place) p → newest (λ (l : Left). true) (map gave past) p ≡ newest (is_ripe block t.number s x) (map gave past) p
    newest_is_ripe p read = go (last block s x.place p)
      where
        misses : ((m : ℕ) → m < x.place → touches (given block s m) p ≡ false) → (z : Slot) → Contains past z → touches (given block s z.place) p ≡ false
        misses none z c = ⊎_elim (λ (low : z.place < x.place). none z.place low) (λ (ge : x.place ≤ z.place). later p read z c ge) (cases_lt z.place x.place)

        go : Last block s x.place p → newest (λ (l : Left). true) (map gave past) p ≡ newest (is_ripe block t.number s x) (map gave past) p
        go (never none) = not_found past (λ (l : Left). true) p (misses none) ∙ sym (not_found past (is_ripe block t.number s x) p (misses none))
        go (at k lt hit none) =
            let v = storer_at block s k p hit in
            let (truth, depending) = truly block s k x.place lt v.who w v.is there p v.hit read none in
            let (y, c, place, late) = beyond (onto past []) rest x k (is ∙ onto_front past (x ∷ rest)) depending in
            let enough = true_costs block s k x.place lt v.who w v.is there t truth in
            let number_is : t.number y.place x.place ≡ t.number k x.place = ap (λ (i : ℕ). t.number i x.place) place in
            let m : Contains past y = ⊎_elim (λ (h : Contains past y). h) (λ (h : Contains [] y). absurd (Contains-nil y h)) (in_onto past [] y c) in
            found past (x ∷ rest) is (λ (l : Left). true) p x.place k y m place refl hit none (later p read)
            ∙ sym (found past (x ∷ rest) is (is_ripe block t.number s x) p x.place k y m place (le-leb (y.cycle + t.number y.place x.place) x.cycle (omega arith)) hit none (later p read))

    -- so it stores what it stores there
    pub again : left_by block t.number s (map gave past) x ≡ gave x
    again = ap (λ (stores : List Store). record { place = x.place; cycle = x.cycle; stores = stores })
        (ap (λ (o : Option Instruction). stores_in o (seen block t.number s (map gave past) x)) there
        ∙ (same_stores (seen block t.number s (map gave past) x) (source block s x.place) w
        (each_from _ (access_of w).registers_read (λ r c. sees (reg r) (register_hit r refl (contains_among (access_of w).registers_read r c))))
        (each_from _ (access_of w).addresses_read (λ a c. sees (cell (value_in (source block s x.place) a)) (cell_hit a refl c)))
        ∙ sym (ap (λ (o : Option Instruction). stores_at o (source block s x.place)) there)))

  -- What all slots leave: each stored what it stores in the order of the source.
  record AllLeft (past rest : List Slot) : Type 0 where
    pub all : List Slot
    pub is : slots ≡ onto all []
    pub left : lefts_of block t.number s (map gave past) rest ≡ map gave all

  inside_block : (past rest : List Slot) (x : Slot) → slots ≡ onto past (x ∷ rest) → x.place < length block
  inside_block past rest x is =
      whole.only x.place (subst (λ (xs : List Slot). Contains (places xs) x.place) (sym (is ∙ onto_front past (x ∷ rest)))
      (Contains-map (λ (w : Slot). w.place) (onto past [] ++ x ∷ rest) x (Contains-append_right (onto past []) (x ∷ rest) x (Contains-head x rest))))

  all_left : (past rest : List Slot) → slots ≡ onto past rest → AllLeft past rest
  all_left past [] is = record { all = past; is = is; left = refl }
  all_left past (x ∷ rest) is =
      let (w, there) = found_at block x.place (inside_block past rest x is) in
      let r = all_left (x ∷ past) rest is in
      record { all = r.all; is = r.is; left = ap (λ (l : Left). lefts_of block t.number s (l ∷ map gave past) rest) (again past rest x is w there) ∙ r.left }

  -- so the state is the one that the order of the source leaves
  left_as_source : (p : Place) → (exposed block t.number s slots).state p ≡ source block s (length block) p
  left_as_source p = let r = all_left [] slots refl in ap (λ (ls : List Left). word_left s (newest (λ (l : Left). true) ls p) p) r.left ∙ go r.all r.is (last block s (length block) p)
    where
      below : (past : List Slot) → slots ≡ onto past [] → (z : Slot) → Contains past z → z.place < length block
      below past is z c = whole.only z.place (Contains-map (λ (w : Slot). w.place) slots z (subst (λ (xs : List Slot). Contains xs z) (sym is) (past_onto past [] z c)))

      go : (past : List Slot) → slots ≡ onto past [] → Last block s (length block) p → word_left s (newest (λ (l : Left). true) (map gave past) p) p ≡ source block s (length block) p
      go past is (never none) =
          ap (λ (o : Option Left). word_left s o p) (not_found past (λ (l : Left). true) p (λ z c. none z.place (below past is z c)))
          ∙ sym (stays block s zero (length block) p (omega arith) (λ m low high. none m high))
      go past is (at k lt hit none) =
          let (y, c, place) = Contains-from_map (λ (w : Slot). w.place) slots k (whole.each k lt) in
          let m : Contains past y = ⊎_elim (λ (h : Contains past y). h) (λ (h : Contains [] y). absurd (Contains-nil y h)) (in_onto past [] y (subst (λ (xs : List Slot). Contains xs y) is c)) in
          ap (λ (o : Option Left). word_left s o p) (found past [] is (λ (l : Left). true) p (length block) k y m place refl hit none (λ z d le. let h = below past is z d in absurd (omega arith)))
          ∙ (ap (λ (i : ℕ). all_stored s (given block s i) p) place ∙ word_of_last block s (length block) k p s lt hit none)

  pub exposed_is_source : (exposed block t.number s slots).state ≡ run block (range_with_len 0 (length block)) s
  exposed_is_source = fun_ext left_as_source ∙ sym (run_source block s (length block) 0 ∙ ap (source block s) (let same : 0 + length block ≡ length block = omega arith in same))
