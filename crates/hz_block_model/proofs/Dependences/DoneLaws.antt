-- The state that a set of done instructions leaves, in the order of the source, and what one more makes of it.
use Rattle.std.proofs.Common.{◌≡◌, ℕ, zero, suc, ◌+◌, ◌<◌, ◌≤◌, ◌==◌, Bool, true, false, ◌||◌, cond, ⊎_elim, List, Option, Some, refl, sym, ap, ◌∙◌, arith}
use Rattle.std.specs.Prelude.{slice_get}
use Rattle.std.proofs.Math.Path.{fun_ext}
use Rattle.std.proofs.lemmas.Bool.{eqb-true, eq-eqb, cases_lt}
use Rattle.hz_block_model.specs.Running.Blocks.{Instruction}
use Rattle.hz_block_model.specs.Running.States.{Place, reg, cell, State, all_stored, value_in, stores_of, after_place}
use Rattle.hz_block_model.specs.Dependences.Accesses.{access_of, is_among}
use Rattle.hz_block_model.specs.Dependences.Dependences.{is_written, depends}
use Rattle.hz_block_model.proofs.Dependences.StoreLaws.{or_right, touches, congruent, untouched, touched, Hit, register_hit, cell_hit}
use Rattle.hz_block_model.proofs.Dependences.ValueLaws.{each_from, same_stores}
use Rattle.hz_block_model.proofs.Dependences.WrittenLaws.{writes, written_by}
use Rattle.hz_block_model.proofs.Dependences.SourceLaws.{contains_among, stores_at, source, given, storer_at, output_depends, anti_depends, cell_depends, register_depends}

-- it is false where it can't be true
pub not_true : (b : Bool) → (b ≡ true → ⊥) → b ≡ false
not_true true h = absurd (h refl)
not_true false h = refl

module _ (block : List Instruction) (s : State) where
  -- the state that the instructions below a place leave which are done
  abbrev pub made : (ℕ → Bool) → ℕ → State
  made done zero = s
  made done (suc k) = cond (done k) (all_stored (made done k) (given block s k)) (made done k)

  -- what a done instruction depends on is done
  abbrev pub Closed : (ℕ → Bool) → Type 0
  Closed done = (k j : ℕ) → depends block k j ≡ true → done j ≡ true → done k ≡ true

  skipped : (done : ℕ → Bool) (k : ℕ) → done k ≡ false → made done (suc k) ≡ made done k
  skipped done k e = ap (λ (b : Bool). cond b (all_stored (made done k) (given block s k)) (made done k)) e

  taken : (done : ℕ → Bool) (k : ℕ) → done k ≡ true → made done (suc k) ≡ all_stored (made done k) (given block s k)
  taken done k e = ap (λ (b : Bool). cond b (all_stored (made done k) (given block s k)) (made done k)) e

  at_place : {f g : State} (p : Place) → f ≡ g → f p ≡ g p
  at_place p e = ap (λ (u : State). u p) e

  -- One more instruction, which isn't done, and all that it depends on is.
  module _ (done : ℕ → Bool) (closed : Closed done) (i : ℕ) (x : Instruction) (here : slice_get block i ≡ Some x) (left : done i ≡ false) (needs : (k : ℕ) → depends block k i ≡ true → done k ≡ true) where
    not_done : (k : ℕ) → depends block i k ≡ true → done k ≡ true → ⊥
    not_done k d e = let f = closed i k d e in absurd (cc)

    -- those before it that write a register which it reads are done
    writer_done : (fuel k r : ℕ) (w : Instruction) → k < i → i ≤ k + fuel → slice_get block k ≡ Some w → writes w r ≡ true → is_among (access_of x).registers_read r ≡ true → done k ≡ true
    writer_done zero k r w lt within at wrote reads = absurd (omega arith)
    writer_done (suc fuel) k r w lt within at wrote reads = go (is_written block (k + 1) i r) refl (λ m v low high there also. writer_done fuel m r v high (omega arith) there also reads)
      where
        go : (b : Bool) → is_written block (k + 1) i r ≡ b → ((m : ℕ) (v : Instruction) → k < m → m < i → slice_get block m ≡ Some v → writes v r ≡ true → done m ≡ true) → done k ≡ true
        go false is further = needs k (register_depends block s k i lt w x at here r wrote reads is)
        go true is further =
            let v = written_by block (k + 1) i r is in
            let low : k < v.place = let h = v.low in omega arith in
            closed k v.place (output_depends block s k v.place low w v.who at v.at (reg r) (register_hit r refl wrote) (register_hit r refl v.writes_it)) (further v.place v.who low v.high v.at v.writes_it)

    -- what is stored before it to a place that it reads is done
    storer_done : (k : ℕ) (p : Place) → k < i → touches (given block s k) p ≡ true → Hit (access_of x).registers_read (access_of x).addresses_read (source block s i) p → done k ≡ true
    storer_done k (cell c) lt t read = let w = storer_at block s k (cell c) t in needs k (cell_depends block s k i lt w.who x w.is here c w.hit read)
    storer_done k (reg n) lt t (cell_hit a is c) = absurd (cc)
    storer_done k (reg n) lt t (register_hit r is among) = let w = storer_at block s k (reg n) t in go w.who w.is w.hit
      where
        go : (w : Instruction) → slice_get block k ≡ Some w → Hit (access_of w).registers_written (access_of w).addresses_written (source block s k) (reg n) → done k ≡ true
        go w at (cell_hit a is' c) = absurd (cc)
        go w at (register_hit q is' wrote) =
            let same : q ≡ r = cc in
            writer_done i k r w lt (omega arith) at (ap (writes w) (sym same) ∙ wrote) among

    before_same : (k : ℕ) (p : Place) → k ≤ i → Hit (access_of x).registers_read (access_of x).addresses_read (source block s i) p → made done k p ≡ source block s k p
    before_same zero p le read = refl
    before_same (suc k) p le read = go (done k) refl (before_same k p (omega arith) read)
      where
        go : (b : Bool) → done k ≡ b → made done k p ≡ source block s k p → made done (suc k) p ≡ source block s (suc k) p
        go true is same = at_place p (taken done k is) ∙ congruent (given block s k) (made done k) (source block s k) p same
        go false is same =
            let none = not_true (touches (given block s k) p) (λ t. let e = storer_done k p (omega arith) t read in absurd (cc)) in
            at_place p (skipped done k is) ∙ (same ∙ sym (untouched (given block s k) (source block s k) p none))

    after_same : (k : ℕ) (p : Place) → i ≤ k → Hit (access_of x).registers_read (access_of x).addresses_read (source block s i) p → made done k p ≡ made done i p
    after_same zero p le read = let same : zero ≡ i = omega arith in ap (λ (j : ℕ). made done j p) same
    after_same (suc k) p le read = ⊎_elim (λ (lt : k < i). let same : suc k ≡ i = omega arith in ap (λ (j : ℕ). made done j p) same) (λ (ge : i ≤ k). go (done k) refl ge (after_same k p ge read)) (cases_lt k i)
      where
        go : (b : Bool) → done k ≡ b → i ≤ k → made done k p ≡ made done i p → made done (suc k) p ≡ made done i p
        go false is ge same = at_place p (skipped done k is) ∙ same
        go true is ge same =
            let apart : k ≡ i → ⊥ = λ (e : k ≡ i). let f = ap done e in absurd (cc) in
            let lt : i < k = omega arith in
            let none = not_true (touches (given block s k) p) (λ t. let w = storer_at block s k p t in not_done k (anti_depends block s i k lt x w.who here w.is p read w.hit) is) in
            at_place p (taken done k is) ∙ (untouched (given block s k) (made done k) p none ∙ same)

    read_same : (n : ℕ) (p : Place) → i < n → Hit (access_of x).registers_read (access_of x).addresses_read (source block s i) p → made done n p ≡ source block s i p
    read_same n p lt read = after_same n p (omega arith) read ∙ before_same i p (omega arith) read

    -- so it stores what it stores in the order of the source
    stores_again : (n : ℕ) → i < n → stores_of x (made done n) ≡ given block s i
    stores_again n lt =
        same_stores (made done n) (source block s i) x
        (each_from _ (access_of x).registers_read (λ r c. read_same n (reg r) lt (register_hit r refl (contains_among (access_of x).registers_read r c))))
        (each_from _ (access_of x).addresses_read (λ a c. read_same n (cell (value_in (source block s i) a)) lt (cell_hit a refl c)))
        ∙ ap (λ (o : Option Instruction). stores_at o (source block s i)) (sym here)

    -- with it
    abbrev with_it : ℕ → Bool
    with_it k = done k || (i == k)

    other : (k : ℕ) → (i ≡ k → ⊥) → with_it k ≡ done k
    other k apart = go (done k) (i == k) refl
      where
        go : (a b : Bool) → (i == k) ≡ b → (a || b) ≡ a
        go true b is = refl
        go false true is = absurd (apart (eqb-true i k is))
        go false false is = refl

    below_it : (k : ℕ) → k ≤ i → made with_it k ≡ made done k
    below_it zero le = refl
    below_it (suc k) le =
        let same = below_it k (omega arith) in
        ap (λ (b : Bool). cond b (all_stored (made with_it k) (given block s k)) (made with_it k)) (other k (λ e. omega arith)) ∙ ap (λ (u : State). cond (done k) (all_stored u (given block s k)) u) same

    it_is_with : with_it i ≡ true
    it_is_with = ap (λ (b : Bool). done i || b) (eq-eqb i i refl) ∙ or_right (done i) true refl

    -- its stores come last as well
    above_it : (k : ℕ) (p : Place) → i < k → made with_it k p ≡ all_stored (made done k) (given block s i) p
    above_it zero p lt = absurd (omega arith)
    above_it (suc k) p lt = ⊎_elim (λ (more : i < k). go (done k) (touches (given block s i) p) refl refl more (above_it k p more)) (λ (le : k ≤ i). first (omega arith)) (cases_lt i k)
      where
        first : k ≡ i → made with_it (suc k) p ≡ all_stored (made done (suc k)) (given block s i) p
        first e = ap (λ (j : ℕ). made with_it (suc j) p) e ∙ (at_place p (taken with_it i it_is_with) ∙ (at_place p (ap (λ (u : State). all_stored u (given block s i)) (below_it i (omega arith)))
            ∙ (sym (at_place p (ap (λ (u : State). all_stored u (given block s i)) (skipped done i left))) ∙ ap (λ (j : ℕ). all_stored (made done (suc j)) (given block s i) p) (sym e))))

        go : (a b : Bool) → done k ≡ a → touches (given block s i) p ≡ b → i < k → made with_it k p ≡ all_stored (made done k) (given block s i) p → made with_it (suc k) p ≡ all_stored (made done (suc k)) (given block s i) p
        go false b is hit more same =
            let same_done : with_it k ≡ false = other k (λ e. omega arith) ∙ is in
            at_place p (skipped with_it k same_done) ∙ (same ∙ at_place p (ap (λ (u : State). all_stored u (given block s i)) (sym (skipped done k is))))
        go true true is hit more same =
            let same_done : with_it k ≡ true = other k (λ e. omega arith) ∙ is in
            let none = not_true (touches (given block s k) p) (λ t. let w = storer_at block s k p t in let v = storer_at block s i p hit in not_done k (output_depends block s i k more v.who w.who v.is w.is p v.hit w.hit) is) in
            at_place p (taken with_it k same_done) ∙ (untouched (given block s k) (made with_it k) p none ∙ (same ∙ (touched (given block s i) (made done k) (all_stored (made done k) (given block s k)) p hit
            ∙ at_place p (ap (λ (u : State). all_stored u (given block s i)) (sym (taken done k is))))))
        go true false is hit more same =
            let same_done : with_it k ≡ true = other k (λ e. omega arith) ∙ is in
            at_place p (taken with_it k same_done) ∙ (congruent (given block s k) (made with_it k) (made done k) p (same ∙ untouched (given block s i) (made done k) p hit)
            ∙ (sym (untouched (given block s i) (all_stored (made done k) (given block s k)) p hit) ∙ at_place p (ap (λ (u : State). all_stored u (given block s i)) (sym (taken done k is)))))

    -- the state after it
    pub one_more : (n : ℕ) → i < n → after_place (slice_get block i) (made done n) ≡ made with_it n
    one_more n lt =
        ap (λ (o : Option Instruction). after_place o (made done n)) here
        ∙ (ap (all_stored (made done n)) (stores_again n lt) ∙ fun_ext (λ p. sym (above_it n p lt)))

    pub still_closed : Closed with_it
    still_closed k j d e = go (done j) refl e
      where
        go : (b : Bool) → done j ≡ b → (b || (i == j)) ≡ true → (done k || (i == k)) ≡ true
        go true is h = ap (λ (b : Bool). b || (i == k)) (closed k j d is)
        go false is h = let same = eqb-true i j h in ap (λ (b : Bool). b || (i == k)) (needs k (ap (λ (m : ℕ). depends block k m) same ∙ d))
