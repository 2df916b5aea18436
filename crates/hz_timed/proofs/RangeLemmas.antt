-- What is read is in range.
use Rattle.std.proofs.Common.{◌≡◌, ℕ, zero, suc, ◌+◌, ◌<◌, List, [], ◌∷◌, map, length, get_or, All, Contains, Option, Some, None, sym, ap, ◌∙◌, refl, subst, arith}
use Rattle.std.proofs.lemmas.List.{length-map}
use Rattle.hz_base_model.proofs.Elements.{Contains-nil, Contains-head, Contains-tail, Contains-map, Contains-from_map}
use Rattle.hz_block_model.specs.Running.Blocks.{Instruction}
use Rattle.hz_block_model.specs.Running.States.{State}
use Rattle.hz_block_model.specs.Scheduling.Schedules as sched
use Rattle.hz_sched.specs.declared.parts.Slot.{Slot}
use Rattle.hz_sched.specs.Shape.{slot_of, slots_of}
use Rattle.hz_measure_model.specs.Exposed.Exposed.{Left, Read, exposed}
use Rattle.hz_measure_model.proofs.Exposed.RangeLaws.{IsWithin, reads_within}
use Rattle.hz_timed.specs.declared.parts.ReadNote.{ReadNote}
use Rattle.hz_timed.specs.Shape.{read_of, IsWriter}

there : {X : Type 0} (xs : List X) (k : ℕ) (d : X) → k < length xs → Contains xs (get_or xs k d)
there [] k d lt = absurd (omega arith)
there (x ∷ xs) zero d lt = Contains-head x xs
there (x ∷ xs) (suc k) d lt = Contains-tail x (get_or xs k d) xs (there xs k d (omega arith))

as_writer : (o : Option ℕ) (n : ℕ) → ((k : ℕ) → o ≡ Some k → k < n) → IsWriter n o
as_writer None n low = tt
as_writer (Some k) n low = low k refl

module _ (block : List Instruction) (number : ℕ → ℕ → ℕ) (start : State) (slots : List Slot) (count : ℕ) (inside : All (λ x. x.place < count) slots)
    (reads : List ReadNote) (are : map read_of reads ≡ (exposed block number start (slots_of slots)).reads) where
  slot_inside : (x : sched.Slot) → Contains (slots_of slots) x → x.place < count
  slot_inside x c =
      let (s, h, e) = Contains-from_map slot_of slots x c in
      let same : s.place ≡ x.place = ap (λ (y : sched.Slot). y.place) e in
      let low : s.place < count = subst (λ (y : Slot). y.place < count) h.2 (inside h.0 s h.1) in
      omega (arith, same, low)

  read_within : (k : ℕ) (d : ReadNote) → k < length reads → IsWithin (length slots) count (read_of (get_or reads k d))
  read_within k d lt =
      reads_within block number start count 0 [] (slots_of slots) (λ l c. absurd (Contains-nil l c)) slot_inside (length slots) (let many = length-map slots slot_of in omega (arith, many)) (read_of (get_or reads k d))
      (subst (λ (rs : List Read). Contains rs (read_of (get_or reads k d))) are (Contains-map read_of reads (get_or reads k d) (there reads k d lt)))

  pub slots_in_range : All (λ r. r.slot < length slots) reads
  slots_in_range k d lt = (read_within k d lt).slot

  pub writers_in_range : All (λ r. IsWriter count r.from) reads
  writers_in_range k d lt = as_writer (get_or reads k d).from count (read_within k d lt).from
