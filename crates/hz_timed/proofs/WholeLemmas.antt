-- All slots, one after another.
use Rattle.std.proofs.Common.{◌≡◌, ℕ, zero, suc, ◌+◌, ◌<◌, ◌≤◌, ⊎_elim, List, [], ◌∷◌, ◌++◌, map, length, get_or, drop, All, Contains, Option, Some, refl, sym, ap, ◌∙◌, subst, append_assoc, arith}
use Rattle.std.specs.Prelude.{slice_get}
use Rattle.std.proofs.lemmas.List.{append-nil, drop_more, drop_all, get_or-map, length-map}
use Rattle.std.proofs.lemmas.List.Elements.{Contains-append_cases}
use Rattle.hz_base_model.proofs.Elements.{Contains-head, Contains-tail, Contains-map, Contains-from_map}
use Rattle.hz_block_model.specs.Running.Blocks.{Instruction}
use Rattle.hz_block_model.specs.Running.States as model
use Rattle.hz_block_model.specs.Scheduling.Schedules as sched
use Rattle.hz_measure_model.specs.Exposed.Exposed.{Left, Read, reads_in, seen, left_by, lefts_of, read_by, reads_of}
use Rattle.hz_timed.specs.Notes.{Note, notes_of}
use Rattle.hz_rtl.specs.declared.block.Insn.{Insn}
use Rattle.hz_timed.specs.declared.write.Write.{Write}
use Rattle.hz_sched.specs.declared.parts.Slot.{Slot}
use Rattle.hz_timed.specs.declared.evaluating.Kept.{Kept}
use Rattle.hz_timed.specs.declared.written.Written.{Written}
use Rattle.hz_rtl.specs.Shape.{instruction}
use Rattle.hz_timed.specs.Shape.{place_of}
use Rattle.hz_timed.specs.Writes.{note_of, notes_in}
use Rattle.hz_sched.specs.Shape.{slot_of}

there : {X : Type 0} (xs : List X) (k : ℕ) (d : X) → k < length xs → Contains xs (get_or xs k d)
there [] k d lt = absurd (omega arith)
there (x ∷ xs) zero d lt = Contains-head x xs
there (x ∷ xs) (suc k) d lt = Contains-tail x (get_or xs k d) xs (there xs k d (omega arith))

-- writes and those of a slot after them are of instructions of the block
pub all_within : (before after : List Write) (slot : Slot) (stores : List Kept) (count : ℕ) → slot.place < count
    → map note_of after ≡ map note_of before ++ map (λ (k : Kept). record { place = slot.place; cycle = slot.cycle; at = place_of k.what; word = k.word }) stores
    → All (λ w. w.place < count) before → All (λ w. w.place < count) after
all_within before after slot stores count lt grown all k d inside = ⊎_elim
    (λ (c : Contains (map note_of before) (note_of (get_or after k d))).
    let (w, h, e) = Contains-from_map note_of before (note_of (get_or after k d)) c in
    let same : w.place ≡ (get_or after k d).place = ap (λ (n : Note). n.place) e in
    let low : w.place < count = subst (λ (v : Write). v.place < count) h.2 (all h.0 w h.1) in
    omega (arith, same, low))
    (λ (c : Contains (map (λ (k : Kept). record { place = slot.place; cycle = slot.cycle; at = place_of k.what; word = k.word }) stores) (note_of (get_or after k d))).
    let (s, h, e) = Contains-from_map (λ (k : Kept). record { place = slot.place; cycle = slot.cycle; at = place_of k.what; word = k.word }) stores (note_of (get_or after k d)) c in
    let same : slot.place ≡ (get_or after k d).place = ap (λ (n : Note). n.place) e in
    omega (arith, same, lt))
    (Contains-append_cases (map note_of before) (map (λ (k : Kept). record { place = slot.place; cycle = slot.cycle; at = place_of k.what; word = k.word }) stores) (note_of (get_or after k d))
    (subst (λ (ns : List Note). Contains ns (note_of (get_or after k d))) grown (Contains-map note_of after (get_or after k d) (there after k d inside))))

-- What slots read so far, with what those that are left read, is all.
pub record TimedSoFar (block : List Instruction) (number : ℕ → ℕ → ℕ) (start : model.State) (slots : List sched.Slot) (written : Written) (reads : List Read) (n : ℕ) : Type 0 where
  pub lefts : List Left
  pub noted : notes_in written ≡ notes_of lefts
  pub left : lefts_of block number start lefts (drop n slots) ≡ lefts_of block number start [] slots
  pub all : reads ++ reads_of block number start n lefts (drop n slots) ≡ reads_of block number start 0 [] slots

module _ (block : List Instruction) (number : ℕ → ℕ → ℕ) (start : model.State) (slots : List sched.Slot) where
  pub timed_first : (written : Written) → notes_in written ≡ [] → TimedSoFar block number start slots written [] 0
  timed_first written none = record { lefts = []; noted = none; left = refl; all = refl }

  pub timed_more : (written written' : Written) (reads reads' : List Read) (n : ℕ) (x : sched.Slot) → n < length slots → x ≡ get_or slots n x → TimedSoFar block number start slots written reads n
      → ((lefts : List Left) → notes_in written ≡ notes_of lefts → reads' ≡ reads ++ map (read_by block number start n lefts x) (reads_in (slice_get block x.place) (seen block number start lefts x)))
      → ((lefts : List Left) → notes_in written ≡ notes_of lefts → notes_in written' ≡ notes_of (left_by block number start lefts x ∷ lefts))
      → TimedSoFar block number start slots written' reads' (n + 1)
  timed_more written written' reads reads' n x inside is h grew noted =
      let next = left_by block number start h.lefts x ∷ h.lefts in
      let found = map (read_by block number start n h.lefts x) (reads_in (slice_get block x.place) (seen block number start h.lefts x)) in
      record {
        lefts = next;
        noted = noted h.lefts h.noted;
        left = ap (lefts_of block number start h.lefts) (sym (drop_more slots n x inside ∙ ap (λ (y : sched.Slot). y ∷ drop (n + 1) slots) (sym is))) ∙ h.left;
        all =
            ap (λ (rs : List Read). rs ++ reads_of block number start (n + 1) next (drop (n + 1) slots)) (grew h.lefts h.noted)
            ∙ (append_assoc reads found (reads_of block number start (n + 1) next (drop (n + 1) slots))
            ∙ (ap (λ (xs : List sched.Slot). reads ++ reads_of block number start n h.lefts xs) (sym (drop_more slots n x inside ∙ ap (λ (y : sched.Slot). y ∷ drop (n + 1) slots) (sym is))) ∙ h.all));
      }

  pub timed_last : (written : Written) (reads : List Read) (n : ℕ) → length slots ≤ n → TimedSoFar block number start slots written reads n → reads ≡ reads_of block number start 0 [] slots
  timed_last written reads n past h =
      sym (append-nil reads) ∙ (ap (λ (xs : List sched.Slot). reads ++ reads_of block number start n h.lefts xs) (sym (drop_all n slots past)) ∙ h.all)

  pub lefts_last : (written : Written) (reads : List Read) (n : ℕ) → length slots ≤ n → TimedSoFar block number start slots written reads n → notes_in written ≡ notes_of (lefts_of block number start [] slots)
  lefts_last written reads n past h = h.noted ∙ ap notes_of (ap (lefts_of block number start h.lefts) (sym (drop_all n slots past)) ∙ h.left)

pub slot_found : (slots : List Slot) (n : ℕ) (x : Slot) → slice_get slots n ≡ Some x → (n < length (map slot_of slots)) × (slot_of x ≡ get_or (map slot_of slots) n (slot_of x))
slot_found [] n x is = absurd (cc)
slot_found (y ∷ slots) zero x is = let same : y ≡ x = cc in (omega arith, ap slot_of (sym same))
slot_found (y ∷ slots) (suc n) x is = let (lt, e) = slot_found slots n x is in (omega (arith, lt), e)
