-- Reads are of slots that there are, and what they see was written by instructions of slots.
use Rattle.std.proofs.Common.{◌≡◌, ℕ, ◌+◌, ◌<◌, Bool, true, false, cond, ◌&&◌, ⊎_elim, List, [], ◌∷◌, map, length, Option, Some, None, Contains, refl, sym, ap, arith}
use Rattle.std.specs.Prelude.{slice_get}
use Rattle.std.specs.Option.{option_map}
use Rattle.std.proofs.lemmas.List.Elements.{Contains-append_cases}
use Rattle.hz_base_model.proofs.Elements.{Contains-nil, Contains-head, Contains-tail, Contains-cons_cases, Contains-from_map}
use Rattle.hz_block_model.specs.Running.Blocks.{Instruction}
use Rattle.hz_block_model.specs.Running.States.{Place, State}
use Rattle.hz_block_model.specs.Scheduling.Schedules.{Slot}
use Rattle.hz_measure_model.specs.Exposed.Exposed.{Left, Read, is_stored_to, newest, reads_in, is_ripe, seen, left_by, read_by, reads_of}

-- What a list that was searched has found is one of its elements.
found_left : (passes : Left → Bool) (lefts : List Left) (p : Place) (l : Left) → newest passes lefts p ≡ Some l → Contains lefts l
found_left passes [] p l is = absurd (cc)
found_left passes (z ∷ lefts) p l is = go (passes z && is_stored_to z.stores p) is (λ e. found_left passes lefts p l e)
  where
    go : (b : Bool) → cond b (Some z) (newest passes lefts p) ≡ Some l → (newest passes lefts p ≡ Some l → Contains lefts l) → Contains (z ∷ lefts) l
    go true e further = let same : z ≡ l = cc in (0, omega arith, same)
    go false e further = Contains-tail z l lefts (further e)

place_found : (o : Option Left) (k : ℕ) → option_map (λ l. l.place) o ≡ Some k → (l : Left) × (o ≡ Some l) × (l.place ≡ k)
place_found None k is = absurd (cc)
place_found (Some l) k is = let same : l.place ≡ k = cc in (l, refl, same)

-- The slot of a read is below a count of slots, and its writer below a count of places.
pub record IsWithin (slots places : ℕ) (r : Read) : Type 0 where
  pub slot : r.slot < slots
  pub from : (k : ℕ) → r.from ≡ Some k → k < places

abbrev AllBelow : ℕ → List Left → Type 0
AllBelow count lefts = (l : Left) → Contains lefts l → l.place < count

module _ (block : List Instruction) (number : ℕ → ℕ → ℕ) (start : State) (count : ℕ) where
  one_within : (n m : ℕ) (lefts : List Left) (x : Slot) → AllBelow count lefts → n < m → (p : Place) → IsWithin m count (read_by block number start n lefts x p)
  one_within n m lefts x below lt p = record {
    slot = lt;
    from = λ k is.
        let (l, found, place) = place_found (newest (is_ripe block number start x) lefts p) k is in
        let low = below l (found_left (is_ripe block number start x) lefts p l found) in
        omega (arith, low, place);
  }

  -- a slot more
  more : (x : Slot) (lefts : List Left) → AllBelow count lefts → x.place < count → AllBelow count (left_by block number start lefts x ∷ lefts)
  more x lefts below lt l d = ⊎_elim
      (λ (e : left_by block number start lefts x ≡ l). let same : x.place ≡ l.place = ap (λ (k : Left). k.place) e in omega (arith, same, lt))
      (λ (k : Contains lefts l). below l k)
      (Contains-cons_cases (left_by block number start lefts x) l lefts d)

  pub reads_within : (n : ℕ) (lefts : List Left) (slots : List Slot) → AllBelow count lefts → ((x : Slot) → Contains slots x → x.place < count) → (m : ℕ) → n + length slots ≡ m
      → (r : Read) → Contains (reads_of block number start n lefts slots) r → IsWithin m count r
  reads_within n lefts [] below inside m end r c = absurd (Contains-nil r c)
  reads_within n lefts (x ∷ slots) below inside m end r c = ⊎_elim
      (λ (h : Contains (map (read_by block number start n lefts x) (reads_in (slice_get block x.place) (seen block number start lefts x))) r).
      let (p, among, is) = Contains-from_map (read_by block number start n lefts x) (reads_in (slice_get block x.place) (seen block number start lefts x)) r h in
      rw (sym is) (one_within n m lefts x below (omega arith) p))
      (λ (h : Contains (reads_of block number start (n + 1) (left_by block number start lefts x ∷ lefts) slots) r).
      reads_within (n + 1) (left_by block number start lefts x ∷ lefts) slots (more x lefts below (inside x (Contains-head x slots))) (λ y d. inside y (Contains-tail x y slots d)) m (omega arith) r h)
      (Contains-append_cases (map (read_by block number start n lefts x) (reads_in (slice_get block x.place) (seen block number start lefts x))) (reads_of block number start (n + 1) (left_by block number start lefts x ∷ lefts) slots) r c)
