-- Cells that are one are never apart: a read of what was written is a true dependence, and costs what such a one costs.
use Rattle.std.proofs.Common.{◌≡◌, ℕ, zero, suc, ◌+◌, ◌-◌, ◌%◌, ◌<◌, ◌≤◌, ◌==◌, Bool, true, false, cond, ◌&&◌, ◌||◌, ◌⊎◌, inl, inr, List, [], ◌∷◌, length, Option, Some, None, refl, sym, ap, ◌∙◌, arith}
use Rattle.std.specs.Prelude.{slice_get, not, max}
use Rattle.std.specs.List.{list_any, range_with_len}
use Rattle.std.proofs.lemmas.Bool.{eqb-true, eq-eqb}
use Rattle.hz_block_model.specs.Running.Operators.{plus, word_count}
use Rattle.hz_block_model.specs.Running.Blocks.{Value, register, constant, binary, Instruction}
use Rattle.hz_block_model.specs.Running.States.{reg, cell, State, all_stored, value_in, after_place, run}
use Rattle.hz_block_model.specs.Dependences.Accesses.{access_of, is_among, Based, based_of}
use Rattle.hz_block_model.specs.Dependences.Dependences.{apart_by, are_apart, may_meet, is_true, is_output, is_written, at_places, Timing, cost}
use Rattle.hz_block_model.proofs.Dependences.StoreLaws.{or_right, touches, Hit, register_hit, cell_hit}
use Rattle.hz_block_model.proofs.Dependences.WrittenLaws.{writes, written_here}
use Rattle.hz_block_model.proofs.Dependences.SourceLaws.{any_contains, among_any, stores_at, source, given}
use Rattle.hz_block_model.proofs.Dependences.DoneLaws.{not_true}
use Rattle.hz_measure_model.proofs.Exposed.LastLaws.{stored_registers, stays}

-- the instruction at a place of the block
pub found_at : (block : List Instruction) (i : ℕ) → i < length block → (x : Instruction) × (slice_get block i ≡ Some x)
found_at [] i lt = absurd (omega arith)
found_at (x ∷ block) zero lt = (x, refl)
found_at (y ∷ block) (suc i) lt = found_at block i (omega arith)

-- what a value that is a base register plus a constant is
based_value : (v : Value) (b : Based) (t : State) → based_of v ≡ Some b → (value_in t v ≡ (t (reg b.base) + b.offset) % word_count) ⊎ ((value_in t v ≡ t (reg b.base)) × (b.offset ≡ 0))
based_value (register n) b t e =
    let base : n ≡ b.base = cc in
    let offset : 0 ≡ b.offset = cc in
    inr (ap (λ (r : ℕ). t (reg r)) base, sym offset)
based_value (binary plus (register n) (constant c)) b t e =
    let base : n ≡ b.base = cc in
    let offset : c ≡ b.offset = cc in
    inl (ap (λ (r : ℕ). (t (reg r) + c) % word_count) base ∙ ap (λ (d : ℕ). (t (reg b.base) + d) % word_count) offset)
based_value _ b t e = absurd (cc)

no_sum : (z c d : ℕ) → (z + c) % word_count ≡ (z + d) % word_count → c % word_count ≡ d % word_count
no_sum z c d e = omega arith

no_step : (z d : ℕ) → z ≡ (z + d) % word_count → d % word_count ≡ 0 % word_count
no_step z d e = omega arith

false_not : (b : Bool) → not b ≡ true → b ≡ false
false_not true e = absurd (cc)
false_not false e = refl

both_true : (a b : Bool) → (a && b) ≡ true → (a ≡ true) × (b ≡ true)
both_true true b e = (refl, e)
both_true false b e = absurd (cc)

-- Two addresses are apart, and why.
record Apart (since : ℕ → Bool) (o p : Option Based) : Type 0 where
  pub left : Based
  pub right : Based
  pub left_is : o ≡ Some left
  pub right_is : p ≡ Some right
  pub same_base : left.base ≡ right.base
  pub differ : left.offset % word_count ≡ right.offset % word_count → ⊥
  pub kept : since left.base ≡ false

why_apart : (since : ℕ → Bool) (o p : Option Based) → apart_by since o p ≡ true → Apart since o p
why_apart since None p e = absurd (cc)
why_apart since (Some a) None e = absurd (cc)
why_apart since (Some a) (Some b) e =
    let (first, kept) = both_true (a.base == b.base && not (a.offset % word_count == b.offset % word_count)) (not (since a.base)) e in
    let (base, offset) = both_true (a.base == b.base) (not (a.offset % word_count == b.offset % word_count)) first in
    record {
      left = a;
      right = b;
      left_is = refl;
      right_is = refl;
      same_base = eqb-true a.base b.base base;
      differ = λ same. let no = false_not (a.offset % word_count == b.offset % word_count) offset in let yes = eq-eqb (a.offset % word_count) (b.offset % word_count) same in absurd (cc);
      kept = false_not (since a.base) kept;
    }

-- the greater of two is at least a first that counts
at_least : (b : Bool) (n m : ℕ) → b ≡ true → n ≤ max (cond b n 0) m
at_least true n m e = omega arith
at_least false n m e = absurd (cc)

module _ (block : List Instruction) (s : State) where
  -- a register that isn't written between two places has one word at both
  unwritten : (i j r : ℕ) → i ≤ j → is_written block i j r ≡ false → source block s j (reg r) ≡ source block s i (reg r)
  unwritten i j r le e = stays block s i j (reg r) le (λ m low high. not_true (touches (given block s m) (reg r)) (λ hit. go m low high (slice_get block m) refl hit))
    where
      go : (m : ℕ) → i ≤ m → m < j → (o : Option Instruction) → slice_get block m ≡ o → touches (stores_at (slice_get block m) (source block s m)) (reg r) ≡ true → ⊥
      go m low high None at hit =
          let none : touches (stores_at None (source block s m)) (reg r) ≡ true = ap (λ (o : Option Instruction). touches (stores_at o (source block s m)) (reg r)) (sym at) ∙ hit in
          absurd (cc)
      go m low high (Some x) at hit =
          let wrote : writes x r ≡ true = sym (stored_registers (source block s m) x.number x.effects r) ∙ (ap (λ (o : Option Instruction). touches (stores_at o (source block s m)) (reg r)) (sym at) ∙ hit) in
          let yes = written_here block i j m r x low high at wrote in
          absurd (cc)

  -- addresses that are apart are those of different cells
  differ_at : (i j : ℕ) (v w : Value) (a : Apart (is_written block i j) (based_of v) (based_of w)) → source block s j (reg a.right.base) ≡ source block s i (reg a.left.base) → value_in (source block s i) v ≡ value_in (source block s j) w
      → ((value_in (source block s i) v ≡ (source block s i (reg a.left.base) + a.left.offset) % word_count) ⊎ ((value_in (source block s i) v ≡ source block s i (reg a.left.base)) × (a.left.offset ≡ 0)))
      → ((value_in (source block s j) w ≡ (source block s j (reg a.right.base) + a.right.offset) % word_count) ⊎ ((value_in (source block s j) w ≡ source block s j (reg a.right.base)) × (a.right.offset ≡ 0))) → ⊥
  differ_at i j v w a word same (inl x) (inl y) = a.differ (no_sum (source block s i (reg a.left.base)) a.left.offset a.right.offset (sym x ∙ (same ∙ (y ∙ ap (λ (z : ℕ). (z + a.right.offset) % word_count) word))))
  differ_at i j v w a word same (inl x) (inr y) = a.differ (no_step (source block s i (reg a.left.base)) a.left.offset (sym word ∙ (sym y.0 ∙ (sym same ∙ x))) ∙ ap (λ (d : ℕ). d % word_count) (sym y.1))
  differ_at i j v w a word same (inr x) (inl y) = a.differ (ap (λ (d : ℕ). d % word_count) x.1 ∙ sym (no_step (source block s i (reg a.left.base)) a.right.offset (sym x.0 ∙ (same ∙ (y ∙ ap (λ (z : ℕ). (z + a.right.offset) % word_count) word)))))
  differ_at i j v w a word same (inr x) (inr y) = a.differ (ap (λ (d : ℕ). d % word_count) (x.1 ∙ sym y.1))

  cells_differ : (i j : ℕ) (v w : Value) → i ≤ j → are_apart (is_written block i j) v w ≡ true → value_in (source block s i) v ≡ value_in (source block s j) w → ⊥
  cells_differ i j v w le e same =
      let a = why_apart (is_written block i j) (based_of v) (based_of w) e in
      let word : source block s j (reg a.right.base) ≡ source block s i (reg a.left.base) = ap (λ (r : ℕ). source block s j (reg r)) (sym a.same_base) ∙ unwritten i j a.left.base le a.kept in
      differ_at i j v w a word same (based_value v a.left (source block s i) a.left_is) (based_value w a.right (source block s j) a.right_is)

  -- two places of the block, the first before the second, and their instructions
  module _ (i j : ℕ) (before : i < j) (x y : Instruction) (first : slice_get block i ≡ Some x) (second : slice_get block j ≡ Some y) where
    -- cells that are one may meet
    meet_cells : (rs qs : List ℕ) (vs ws : List Value) (c : ℕ) → Hit rs vs (source block s i) (cell c) → Hit qs ws (source block s j) (cell c) → may_meet (is_written block i j) vs ws ≡ true
    meet_cells rs qs vs ws c (register_hit r is among) k = absurd (cc)
    meet_cells rs qs vs ws c (cell_hit v is there) (register_hit q is' among) = absurd (cc)
    meet_cells rs qs vs ws c (cell_hit v is there) (cell_hit w is' there') =
        let same : value_in (source block s i) v ≡ value_in (source block s j) w = cc in
        any_contains (λ v. list_any (λ w. not (are_apart (is_written block i j) v w)) ws) vs v there (any_contains (λ w. not (are_apart (is_written block i j) v w)) ws w there' (go (are_apart (is_written block i j) v w) refl same))
      where
        go : (b : Bool) → are_apart (is_written block i j) v w ≡ b → value_in (source block s i) v ≡ value_in (source block s j) w → not b ≡ true
        go true e same = absurd (cells_differ i j v w (omega arith) e same)
        go false e same = refl

    -- the second reads a cell that the first stores to
    pub true_by_cell : (c : ℕ) → Hit (access_of x).registers_written (access_of x).addresses_written (source block s i) (cell c) → Hit (access_of y).registers_read (access_of y).addresses_read (source block s j) (cell c)
        → is_true (is_written block (i + 1) j) (is_written block i j) (access_of x) (access_of y) ≡ true
    true_by_cell c h k = or_right (list_any (λ r. is_among (access_of x).registers_written r && not (is_written block (i + 1) j r)) (access_of y).registers_read)
        (may_meet (is_written block i j) (access_of x).addresses_written (access_of y).addresses_read) (meet_cells (access_of x).registers_written (access_of y).registers_read (access_of x).addresses_written (access_of y).addresses_read c h k)

    -- the second reads a register that the first writes, and none between them
    pub true_by_register : (r : ℕ) → writes x r ≡ true → is_among (access_of y).registers_read r ≡ true → is_written block (i + 1) j r ≡ false → is_true (is_written block (i + 1) j) (is_written block i j) (access_of x) (access_of y) ≡ true
    true_by_register r w k none = ap (λ (b : Bool). b || may_meet (is_written block i j) (access_of x).addresses_written (access_of y).addresses_read)
        (among_any (access_of y).registers_read r (λ r. is_among (access_of x).registers_written r && not (is_written block (i + 1) j r)) k
        (ap (λ (b : Bool). b && not (is_written block (i + 1) j r)) w ∙ ap not none))

    -- so the cost is at least what a true dependence costs
    pub true_costs : (t : Timing) → is_true (is_written block (i + 1) j) (is_written block i j) (access_of x) (access_of y) ≡ true → t.number i j ≤ cost block t i j
    true_costs t e =
        let found : at_places is_true block i j (slice_get block i) (slice_get block j) ≡ true = ap (λ (o : Option Instruction). at_places is_true block i j o (slice_get block j)) first ∙ (ap (λ (o : Option Instruction). at_places is_true block i j (Some x) o) second ∙ e) in
        at_least (at_places is_true block i j (slice_get block i) (slice_get block j)) (t.number i j) (cond (at_places is_output block i j (slice_get block i) (slice_get block j)) (t.latency i - t.latency j) 0) found

  stored_again : (o : Option Instruction) (t : State) → after_place o t ≡ all_stored t (stores_at o t)
  stored_again None t = refl
  stored_again (Some i) t = refl

  -- what runs from one place on is the state before the place where it ends
  pub run_source : (m k : ℕ) → run block (range_with_len k m) (source block s k) ≡ source block s (k + m)
  run_source zero k = let same : k ≡ k + 0 = omega arith in ap (source block s) same
  run_source (suc m) k =
      let next : suc k ≡ k + 1 = omega arith in
      let same : (k + 1) + m ≡ k + suc m = omega arith in
      ap (run block (range_with_len (k + 1) m)) (stored_again (slice_get block k) (source block s k) ∙ ap (source block s) next) ∙ (run_source m (k + 1) ∙ ap (source block s) same)
