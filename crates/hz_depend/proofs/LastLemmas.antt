-- Last writers tell what is written from a place on.
use Rattle.std.proofs.Common.{◌≡◌, ℕ, zero, suc, ◌<◌, ◌≤◌, Bool, true, false, cond, ⊎_elim, List, map, Option, Some, None, refl, sym, ap, ◌∙◌, arith}
use Rattle.std.specs.Prelude.{slice_get, nat_lt}
use Rattle.std.specs.Option.{option_map}
use Rattle.std.proofs.Math.Path.{fun_ext}
use Rattle.std.proofs.lemmas.Bool.{cases_lt, lt-ltb, ltb-true}
use Rattle.std.proofs.lemmas.Option.{slice_get-map}
use Rattle.hz_rtl.specs.declared.block.Insn.{Insn}
use Rattle.hz_rtl.specs.Shape.{instruction}
use Rattle.hz_block_model.specs.Running.Blocks.{Instruction}
use Rattle.hz_checked.specs.declared.checked.Checked.{Checked}
use Rattle.hz_block_model.specs.Dependences.Dependences.{is_written}
use Rattle.hz_block_model.proofs.Dependences.WrittenLaws as laws
use Rattle.hz_depend.specs.Held.{Held, node_for, writes, last_of}

module _ (nodes : List Held) (r : ℕ) where
  -- none writes it from the place on that `last_of` tells
  pub none_after : (j m : ℕ) → last_of nodes j r ≤ m → m < j → writes (slice_get nodes m) r ≡ false
  none_after zero m le lt = absurd (omega arith)
  none_after (suc j) m le lt = go (writes (slice_get nodes j) r) refl le (none_after j m)
    where
      go : (b : Bool) → writes (slice_get nodes j) r ≡ b → cond b (suc j) (last_of nodes j r) ≤ m → (last_of nodes j r ≤ m → m < j → writes (slice_get nodes m) r ≡ false) → writes (slice_get nodes m) r ≡ false
      go true is le' below = absurd (omega arith)
      go false is le' below = ⊎_elim (λ (less : m < j). below le' less) (λ (more : j ≤ m). let same : m ≡ j = omega arith in ap (λ (k : ℕ). writes (slice_get nodes k) r) same ∙ is) (cases_lt m j)

  -- the one before it does
  writer_at : (j k : ℕ) → last_of nodes j r ≡ suc k → (k < j) × (writes (slice_get nodes k) r ≡ true)
  writer_at zero k e = absurd (omega arith)
  writer_at (suc j) k e = go (writes (slice_get nodes j) r) refl e (writer_at j k)
    where
      go : (b : Bool) → writes (slice_get nodes j) r ≡ b → cond b (suc j) (last_of nodes j r) ≡ suc k → (last_of nodes j r ≡ suc k → (k < j) × (writes (slice_get nodes k) r ≡ true)) → (k < suc j) × (writes (slice_get nodes k) r ≡ true)
      go true is e' below = let same : k ≡ j = omega arith in (omega arith, ap (λ (i : ℕ). writes (slice_get nodes i) r) same ∙ is)
      go false is e' below = let (lt, wrote) = below e' in (omega arith, wrote)

-- whether the instruction writes the register, if there is one
abbrev pub writes_in : Option Instruction → ℕ → Bool
writes_in (Some x) r = laws.writes x r
writes_in None r = false

written_by_one : (o : Option Instruction) (r : ℕ) → writes_in o r ≡ true → (x : Instruction) × (o ≡ Some x) × (laws.writes x r ≡ true)
written_by_one (Some x) r e = (x, refl, e)
written_by_one None r e = absurd (cc)

not_both : (b : Bool) → (b ≡ true → ⊥) → b ≡ false
not_both true h = absurd (h refl)
not_both false h = refl

module _ (checked : Checked) (insns : List Insn) where
  abbrev pub nodes_in : List Held
  nodes_in = map (node_for checked) insns

  abbrev pub block_in : List Instruction
  block_in = map instruction insns

  writes_same : (m r : ℕ) → writes (slice_get nodes_in m) r ≡ writes_in (slice_get block_in m) r
  writes_same m r = rw (slice_get-map (node_for checked) insns m, slice_get-map instruction insns m) (go (slice_get insns m))
    where
      go : (o : Option Insn) → writes (option_map (node_for checked) o) r ≡ writes_in (option_map instruction o) r
      go (Some x) = refl
      go None = refl

  last_is : (from j r : ℕ) → is_written block_in from j r ≡ nat_lt from (last_of nodes_in j r)
  last_is from j r = go (is_written block_in from j r) refl (last_of nodes_in j r) refl
    where
      go : (b : Bool) → is_written block_in from j r ≡ b → (l : ℕ) → last_of nodes_in j r ≡ l → b ≡ nat_lt from l
      go true is l e =
          let w = laws.written_by block_in from j r is in
          let does : writes (slice_get nodes_in w.place) r ≡ true = writes_same w.place r ∙ (ap (λ (o : Option Instruction). writes_in o r) w.at ∙ w.writes_it) in
          ⊎_elim
          (λ (lt : w.place < l). let low = w.low in sym (lt-ltb from l (omega arith)))
          (λ (ge : l ≤ w.place). let never = none_after nodes_in r j w.place (omega arith) w.high in absurd (cc))
          (cases_lt w.place l)
      go false is zero e = sym (not_both (nat_lt from zero) (λ b. let lt = ltb-true from zero b in absurd (omega arith)))
      go false is (suc k) e = sym (not_both (nat_lt from (suc k)) (λ b.
          let lt = ltb-true from (suc k) b in
          let (high, wrote) = writer_at nodes_in r j k e in
          let (x, at, it) = written_by_one (slice_get block_in k) r (sym (writes_same k r) ∙ wrote) in
          let there = laws.written_here block_in from j k r x (omega arith) high at it in
          absurd (cc)))

  pub last_tells : (from j : ℕ) → is_written block_in from j ≡ (λ r. nat_lt from (last_of nodes_in j r))
  last_tells from j = fun_ext (λ r. last_is from j r)
