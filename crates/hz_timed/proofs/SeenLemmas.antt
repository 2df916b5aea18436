-- What is found among the writes that are held is what the definitions say of what slots left.
use Rattle.std.proofs.Common.{◌≡◌, ℕ, zero, suc, ◌+◌, ◌<◌, ◌≤◌, Bool, true, false, ◌&&◌, cond, List, [], ◌∷◌, map, length, Option, Some, None, refl, sym, ap, ◌∙◌, arith}
use Rattle.std.specs.Prelude.{slice_get, nat_le}
use Rattle.std.specs.Option.{option_map, option_map_or}
use Rattle.hz_block_model.specs.Running.Blocks.{Instruction}
use Rattle.hz_block_model.specs.Running.States.{Place, same_place, State}
use Rattle.hz_block_model.specs.Scheduling.Schedules as model
use Rattle.hz_measure_model.specs.Exposed.Exposed.{Left, newest, word_left, seen, is_ripe}
use Rattle.hz_timed.specs.Notes.{Note, notes_of}
use Rattle.hz_timed.proofs.NoteLemmas.{last_of, word_of, same, Same}
use Rattle.hz_timed.proofs.NoteLemmas as notes
use Rattle.hz_timed.specs.declared.write.Write.{Write}
use Rattle.hz_sched.specs.declared.parts.Slot.{Slot}
use Rattle.hz_timed.specs.Shape.{place_of}
use Rattle.hz_timed.specs.Writes.{last_below, passes, is_at, is_ripe_by, last_ripe, word_at, written_at, note_of}
use Rattle.hz_timed.proofs.BelowLemmas.{last_is_below}

abbrev pub or_first : {X : Type 0} → Option X → Option X → Option X
or_first (Some n) other = Some n
or_first None other = other

-- the last write that passes
abbrev pub last_write : (Write → Bool) → List Write → Option Write
last_write test [] = None
last_write test (w ∷ writes) = or_first (last_write test writes) (cond (test w) (Some w) None)

-- the numbers after a first write
after_first : (test : Write → Bool) (w : Write) (writes : List Write) (n : ℕ) → last_below (passes test (w ∷ writes)) (suc n) ≡ or_first (option_map suc (last_below (passes test writes) n)) (cond (test w) (Some 0) None)
after_first test w writes zero = refl
after_first test w writes (suc n) = go (passes test writes n) (after_first test w writes n)
  where
    go : (b : Bool) → last_below (passes test (w ∷ writes)) (suc n) ≡ or_first (option_map suc (last_below (passes test writes) n)) (cond (test w) (Some 0) None)
        → cond b (Some (suc n)) (last_below (passes test (w ∷ writes)) (suc n)) ≡ or_first (option_map suc (cond b (Some n) (last_below (passes test writes) n))) (cond (test w) (Some 0) None)
    go true h = refl
    go false h = h

found : (test : Write → Bool) (writes : List Write) → written_at writes (last_below (passes test writes) (length writes)) ≡ last_write test writes
found test [] = refl
found test (w ∷ writes) =
    ap (written_at (w ∷ writes)) (after_first test w writes (length writes))
    ∙ (go (last_below (passes test writes) (length writes)) (test w) (λ k e. last_is_below (passes test writes) (length writes) k e)
    ∙ ap (λ (o : Option Write). or_first o (cond (test w) (Some w) None)) (found test writes))
  where
    there : (xs : List Write) (k : ℕ) → k < length xs → (x : Write) × (slice_get xs k ≡ Some x)
    there [] k lt = absurd (omega arith)
    there (x ∷ xs) zero lt = (x, refl)
    there (x ∷ xs) (suc k) lt = there xs k (omega arith)

    go : (o : Option ℕ) (b : Bool) → ((k : ℕ) → o ≡ Some k → k < length writes) → written_at (w ∷ writes) (or_first (option_map suc o) (cond b (Some 0) None)) ≡ or_first (written_at writes o) (cond b (Some w) None)
    go None true low = refl
    go None false low = refl
    go (Some k) b low =
        let (x, is) = there writes k (low k refl) in
        is ∙ ap (λ (o : Option Write). or_first o (cond b (Some w) None)) (sym is)

as_notes : (test : Note → Bool) (writes : List Write) → last_of test (map note_of writes) ≡ option_map note_of (last_write (λ w. test (note_of w)) writes)
as_notes test [] = refl
as_notes test (w ∷ writes) =
    ap (λ (o : Option Note). notes.or_first o (cond (test (note_of w)) (Some (note_of w)) None)) (as_notes test writes)
    ∙ go (last_write (λ (v : Write). test (note_of v)) writes) (test (note_of w))
  where
    go : (o : Option Write) (b : Bool) → notes.or_first (option_map note_of o) (cond b (Some (note_of w)) None) ≡ option_map note_of (or_first o (cond b (Some w) None))
    go (Some v) b = refl
    go None true = refl
    go None false = refl

-- What a slot finds among the writes.
module _ (block : List Instruction) (number : ℕ → ℕ → ℕ) (start : State) (writes : List Write) (lefts : List Left) (slot : Slot) (x : model.Slot) (same_place_is : x.place ≡ slot.place) (same_cycle : x.cycle ≡ slot.cycle)
    (reported : map note_of writes ≡ notes_of lefts) (p : Place) where
  abbrev ripe : ℕ → ℕ → Bool
  ripe place cycle = nat_le (cycle + number place slot.place) slot.cycle

  abbrev test : Write → Bool
  test w = is_ripe_by number slot w && is_at p w

  abbrev wanted : Option ℕ
  wanted = last_ripe number slot writes p

  -- the note that is found
  note_is : option_map note_of (written_at writes (last_ripe number slot writes p)) ≡ last_of (notes.test ripe p) (notes_of lefts)
  note_is =
      ap (option_map note_of) (found test writes)
      ∙ (sym (as_notes (notes.test ripe p) writes) ∙ ap (last_of (notes.test ripe p)) reported)

  by_slot : newest (λ l. ripe l.place l.cycle) lefts p ≡ newest (is_ripe block number start x) lefts p
  by_slot = ap (λ (q : ℕ). newest (λ l. nat_le (l.cycle + number l.place q) slot.cycle) lefts p) (sym same_place_is) ∙ ap (λ (c : ℕ). newest (λ l. nat_le (l.cycle + number l.place x.place) c) lefts p) (sym same_cycle)

  words_found : (o : Option ℕ) (d : ℕ) → ((k : ℕ) → o ≡ Some k → k < length writes) → option_map_or (word_at writes) o d ≡ word_of (option_map note_of (written_at writes o)) d
  words_found None d low = refl
  words_found (Some k) d low = go writes k (low k refl)
    where
      go : (ws : List Write) (k : ℕ) → k < length ws → word_at ws k ≡ word_of (option_map note_of (slice_get ws k)) d
      go [] k lt = absurd (omega arith)
      go (w ∷ ws) zero lt = refl
      go (w ∷ ws) (suc k) lt = go ws k (omega arith)

  pub sees_word : option_map_or (word_at writes) (last_ripe number slot writes p) (start p) ≡ seen block number start lefts x p
  sees_word =
      words_found (last_ripe number slot writes p) (start p) (λ k e. last_is_below (passes test writes) (length writes) k e)
      ∙ (ap (λ (o : Option Note). word_of o (start p)) note_is ∙ ((same ripe p lefts start).word ∙ ap (λ (o : Option Left). word_left start o p) by_slot))

  pub sees_writer : option_map (λ w. w.place) (written_at writes (last_ripe number slot writes p)) ≡ option_map (λ l. l.place) (newest (is_ripe block number start x) lefts p)
  sees_writer =
      join (written_at writes (last_ripe number slot writes p))
      ∙ (ap (option_map (λ (n : Note). n.place)) note_is ∙ ((same ripe p lefts start).place ∙ ap (option_map (λ (l : Left). l.place)) by_slot))
    where
      join : (o : Option Write) → option_map (λ w. w.place) o ≡ option_map (λ n. n.place) (option_map note_of o)
      join None = refl
      join (Some w) = refl
