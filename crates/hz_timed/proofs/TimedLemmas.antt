-- What one slot reads and stores, in the words of the definitions.
use Rattle.std.proofs.Common.{◌≡◌, ℕ, List, [], ◌∷◌, ◌++◌, map, Option, Some, refl, sym, ap, ◌∙◌}
use Rattle.std.specs.Prelude.{slice_get}
use Rattle.std.proofs.Math.Path.{fun_ext}
use Rattle.hz_block_model.specs.Running.Blocks.{Instruction}
use Rattle.hz_block_model.specs.Running.States as model
use Rattle.hz_measure_model.specs.Exposed.Exposed.{Left, Read, reads_in, stores_in, seen, left_by, read_by}
use Rattle.hz_timed.specs.Notes.{Note, note, notes_of}
use Rattle.hz_rtl.specs.declared.state.State.{State}
use Rattle.hz_timed.specs.declared.write.Write.{Write}
use Rattle.hz_sched.specs.declared.parts.Slot.{Slot}
use Rattle.hz_timed.specs.declared.evaluating.Kept.{Kept}
use Rattle.hz_rtl.specs.States.{words}
use Rattle.hz_timed.specs.Shape.{place_of}
use Rattle.hz_timed.specs.Writes.{note_of, seen_by}
use Rattle.hz_timed.specs.Asking.{store_of}
use Rattle.hz_timed.specs.Reads.{read_among}
use Rattle.hz_sched.specs.Shape.{slot_of}
use Rattle.hz_timed.proofs.SeenLemmas.{sees_word, sees_writer}

module _ (block : List Instruction) (number : ℕ → ℕ → ℕ) (start : State) (writes : List Write) (lefts : List Left) (slot : Slot) (i : Instruction) (here : slice_get block slot.place ≡ Some i) (reported : map note_of writes ≡ notes_of lefts) where
  seen_is : seen_by start writes number slot ≡ seen block number (words start) lefts (slot_of slot)
  seen_is = fun_ext (λ p. sees_word block number (words start) writes lefts slot (slot_of slot) refl refl reported p)

  read_is : (n : ℕ) (p : model.Place) → read_among writes number slot n p ≡ read_by block number (words start) n lefts (slot_of slot) p
  read_is n p = ap (λ (f : Option ℕ). record { slot = n; what = p; from = f }) (sees_writer block number (words start) writes lefts slot (slot_of slot) refl refl reported p)

  all_reads : (n : ℕ) (ps : List model.Place) → map (read_among writes number slot n) ps ≡ map (read_by block number (words start) n lefts (slot_of slot)) ps
  all_reads n [] = refl
  all_reads n (p ∷ ps) = join (read_is n p) (all_reads n ps)
    where
      join : {x y : Read} {xs ys : List Read} → x ≡ y → xs ≡ ys → x ∷ xs ≡ y ∷ ys
      join e f = cc

  pub reads_are : (n : ℕ) → map (read_among writes number slot n) (reads_in (Some i) (seen_by start writes number slot))
      ≡ map (read_by block number (words start) n lefts (slot_of slot)) (reads_in (slice_get block slot.place) (seen block number (words start) lefts (slot_of slot)))
  reads_are n =
      all_reads n (reads_in (Some i) (seen_by start writes number slot))
      ∙ (ap (λ (o : Option Instruction). map (read_by block number (words start) n lefts (slot_of slot)) (reads_in o (seen_by start writes number slot))) (sym here)
      ∙ ap (λ (s : model.State). map (read_by block number (words start) n lefts (slot_of slot)) (reads_in (slice_get block slot.place) s)) seen_is)

  pub notes_are : (stores : List Kept) → map store_of stores ≡ model.stores_of i (seen_by start writes number slot)
      → map note_of writes ++ map (λ (k : Kept). record { place = slot.place; cycle = slot.cycle; at = place_of k.what; word = k.word }) stores ≡ notes_of (left_by block number (words start) lefts (slot_of slot) ∷ lefts)
  notes_are stores are =
      ap (λ (ns : List Note). ns ++ map (λ (k : Kept). record { place = slot.place; cycle = slot.cycle; at = place_of k.what; word = k.word }) stores) reported
      ∙ ap (λ (ns : List Note). notes_of lefts ++ ns) (twice stores ∙ ap (map (note (left_by block number (words start) lefts (slot_of slot)))) (are ∙ left_is))
    where
      left_is : model.stores_of i (seen_by start writes number slot) ≡ stores_in (slice_get block slot.place) (seen block number (words start) lefts (slot_of slot))
      left_is =
          ap (λ (o : Option Instruction). stores_in o (seen_by start writes number slot)) (sym here)
          ∙ ap (stores_in (slice_get block slot.place)) seen_is

      twice : (ks : List Kept) → map (λ (k : Kept). record { place = slot.place; cycle = slot.cycle; at = place_of k.what; word = k.word }) ks ≡ map (note (left_by block number (words start) lefts (slot_of slot))) (map store_of ks)
      twice [] = refl
      twice (k ∷ ks) = ap (λ (ns : List Note). record { place = slot.place; cycle = slot.cycle; at = place_of k.what; word = k.word } ∷ ns) (twice ks)
