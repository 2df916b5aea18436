-- What the instructions of a block store in the order of the source, and which of them depend on which.
use Rattle.std.proofs.Common.{◌≡◌, ℕ, zero, suc, ◌+◌, ◌%◌, ◌<◌, ◌≤◌, ◌==◌, Bool, true, false, ◌&&◌, ◌||◌, ◌⊎◌, inl, inr, ⊎_elim, List, [], ◌∷◌, Option, Some, None, Contains, refl, sym, ap, ◌∙◌, arith}
use Rattle.std.specs.Prelude.{slice_get, nat_lt, not}
use Rattle.std.specs.List.{list_any}
use Rattle.std.proofs.lemmas.Bool.{eqb-true, lt-ltb, ltb-true, ltb-false, eq-eqb}
use Rattle.hz_base_model.proofs.Elements.{Contains-nil, Contains-cons_cases}
use Rattle.hz_block_model.specs.Running.Operators.{plus, word_count}
use Rattle.hz_block_model.specs.Running.Blocks.{Value, register, constant, binary, Instruction}
use Rattle.hz_block_model.specs.Running.States.{Place, reg, cell, State, Store, all_stored, value_in, stores_of}
use Rattle.hz_block_model.specs.Dependences.Accesses.{Access, access_of, is_among, Based, based_of}
use Rattle.hz_block_model.specs.Dependences.Dependences.{apart_by, are_apart, may_meet, is_true, is_anti, is_output, is_written, at_places, depends}
use Rattle.hz_block_model.proofs.Dependences.StoreLaws.{or_right, touches, untouched, Hit, register_hit, cell_hit, store_hits}
use Rattle.hz_block_model.proofs.Dependences.WrittenLaws.{writes, written_here}

-- some element passes
pub any_contains : {A : Type 0} (p : A → Bool) (xs : List A) (x : A) → Contains xs x → p x ≡ true → list_any p xs ≡ true
any_contains p [] x c e = absurd (Contains-nil x c)
any_contains p (y ∷ xs) x c e =
    ⊎_elim
    (λ (same : y ≡ x). ap (λ (b : Bool). b || list_any p xs) (ap p same ∙ e))
    (λ (further : Contains xs x). or_right (p y) (list_any p xs) (any_contains p xs x further e))
    (Contains-cons_cases y x xs c)

pub among_any : (registers : List ℕ) (r : ℕ) (p : ℕ → Bool) → is_among registers r ≡ true → p r ≡ true → list_any p registers ≡ true
among_any [] r p e h = absurd (cc)
among_any (n ∷ registers) r p e h = go (n == r) refl e (λ further. among_any registers r p further h)
  where
    go : (b : Bool) → (n == r) ≡ b → (b || is_among registers r) ≡ true → (is_among registers r ≡ true → list_any p registers ≡ true) → (p n || list_any p registers) ≡ true
    go true is k further = ap (λ (b : Bool). b || list_any p registers) (ap p (eqb-true n r is) ∙ h)
    go false is k further = or_right (p n) (list_any p registers) (further k)

pub contains_among : (registers : List ℕ) (r : ℕ) → Contains registers r → is_among registers r ≡ true
contains_among registers r c = any_contains (λ n. n == r) registers r c (eq-eqb r r refl)

-- what an instruction stores, if there is one
abbrev pub stores_at : Option Instruction → State → List Store
stores_at None t = []
stores_at (Some i) t = stores_of i t

-- An instruction that stores to a place.
pub record Storer (found : Option Instruction) (t : State) (p : Place) : Type 0 where
  pub who : Instruction
  pub is : found ≡ Some who
  pub hit : Hit (access_of who).registers_written (access_of who).addresses_written t p

storer : (found : Option Instruction) (t : State) (p : Place) → touches (stores_at found t) p ≡ true → Storer found t p
storer None t p e = absurd (cc)
storer (Some i) t p e = record { who = i; is = refl; hit = store_hits i t p e }

-- what a value that is a base register plus a constant is
based_value : (v : Value) (b : Based) (t : State) → based_of v ≡ Some b → (value_in t v ≡ (t (reg b.base) + b.offset) % word_count) ⊎ ((value_in t v ≡ t (reg b.base)) × (b.offset ≡ 0))
based_value (register n) b t e =
    let base : n ≡ b.base = cc in
    let offset : 0 ≡ b.offset = cc in
    inr (ap (λ (r : ℕ). t (reg r)) base, sym offset)
based_value (binary plus (register n) (constant c)) b t e =
    let base : n ≡ b.base = cc in
    let offset : c ≡ b.offset = cc in
    inl (ap (λ (r : ℕ). (t (reg r) + c) % word_count) base ∙ ap (λ (d : ℕ). (t (reg b.base) + d) % word_count) offset)
based_value _ b t e = absurd (cc)

no_sum : (z c d : ℕ) → (z + c) % word_count ≡ (z + d) % word_count → c % word_count ≡ d % word_count
no_sum z c d e = omega arith

no_step : (z d : ℕ) → z ≡ (z + d) % word_count → d % word_count ≡ 0 % word_count
no_step z d e = omega arith

false_not : (b : Bool) → not b ≡ true → b ≡ false
false_not true e = absurd (cc)
false_not false e = refl

both_true : (a b : Bool) → (a && b) ≡ true → (a ≡ true) × (b ≡ true)
both_true true b e = (refl, e)
both_true false b e = absurd (cc)

-- Two addresses are apart, and why.
record Apart (since : ℕ → Bool) (o p : Option Based) : Type 0 where
  pub left : Based
  pub right : Based
  pub left_is : o ≡ Some left
  pub right_is : p ≡ Some right
  pub same_base : left.base ≡ right.base
  pub differ : left.offset % word_count ≡ right.offset % word_count → ⊥
  pub kept : since left.base ≡ false

why_apart : (since : ℕ → Bool) (o p : Option Based) → apart_by since o p ≡ true → Apart since o p
why_apart since None p e = absurd (cc)
why_apart since (Some a) None e = absurd (cc)
why_apart since (Some a) (Some b) e =
    let (first, kept) = both_true (a.base == b.base && not (a.offset % word_count == b.offset % word_count)) (not (since a.base)) e in
    let (base, offset) = both_true (a.base == b.base) (not (a.offset % word_count == b.offset % word_count)) first in
    record {
      left = a;
      right = b;
      left_is = refl;
      right_is = refl;
      same_base = eqb-true a.base b.base base;
      differ = λ same. let no = false_not (a.offset % word_count == b.offset % word_count) offset in let yes = eq-eqb (a.offset % word_count) (b.offset % word_count) same in absurd (cc);
      kept = false_not (since a.base) kept;
    }

module _ (block : List Instruction) (s : State) where
  -- the state before the instruction at a place, in the order of the source
  abbrev pub source : ℕ → State
  source zero = s
  source (suc k) = all_stored (source k) (stores_at (slice_get block k) (source k))

  -- what the instruction at a place stores then
  abbrev pub given : ℕ → List Store
  given k = stores_at (slice_get block k) (source k)

  untouched_register : (m r : ℕ) → ((x : Instruction) → slice_get block m ≡ Some x → writes x r ≡ true → ⊥) → touches (given m) (reg r) ≡ false
  untouched_register m r never = go (touches (given m) (reg r)) refl
    where
      hits : (x : Instruction) → slice_get block m ≡ Some x → Hit (access_of x).registers_written (access_of x).addresses_written (source m) (reg r) → ⊥
      hits x at (register_hit q is among) = let same : r ≡ q = cc in never x at (ap (writes x) same ∙ among)
      hits x at (cell_hit a is c) = absurd (cc)

      go : (b : Bool) → touches (given m) (reg r) ≡ b → b ≡ false
      go true is = let w = storer (slice_get block m) (source m) (reg r) is in absurd (hits w.who w.is w.hit)
      go false is = refl

  -- a register that isn't written between two places has one word at both
  stays : (i r j : ℕ) → i ≤ j → ((m : ℕ) → i ≤ m → m < j → touches (given m) (reg r) ≡ false) → source j (reg r) ≡ source i (reg r)
  stays i r zero le never = let same : zero ≡ i = omega arith in ap (λ (k : ℕ). source k (reg r)) same
  stays i r (suc j) le never = go (nat_lt j i) refl (λ low. stays i r j low (λ m a b. never m a (omega arith)))
    where
      go : (b : Bool) → nat_lt j i ≡ b → (i ≤ j → source j (reg r) ≡ source i (reg r)) → source (suc j) (reg r) ≡ source i (reg r)
      go true is further = let h = ltb-true j i is in let same : suc j ≡ i = omega arith in ap (λ (k : ℕ). source k (reg r)) same
      go false is further = let h = ltb-false j i is in untouched (given j) (source j) (reg r) (never j h (omega arith)) ∙ further h

  unwritten : (i j r : ℕ) → i ≤ j → is_written block i j r ≡ false → source j (reg r) ≡ source i (reg r)
  unwritten i j r le e =
      stays i r j le (λ m low high. untouched_register m r (λ x at w. let yes = written_here block i j m r x low high at w in absurd (cc)))

  -- addresses that are apart are those of different cells
  differ_at : (i j : ℕ) (v w : Value) (a : Apart (is_written block i j) (based_of v) (based_of w)) → source j (reg a.right.base) ≡ source i (reg a.left.base) → value_in (source i) v ≡ value_in (source j) w
      → ((value_in (source i) v ≡ (source i (reg a.left.base) + a.left.offset) % word_count) ⊎ ((value_in (source i) v ≡ source i (reg a.left.base)) × (a.left.offset ≡ 0)))
      → ((value_in (source j) w ≡ (source j (reg a.right.base) + a.right.offset) % word_count) ⊎ ((value_in (source j) w ≡ source j (reg a.right.base)) × (a.right.offset ≡ 0))) → ⊥
  differ_at i j v w a word same (inl x) (inl y) = a.differ (no_sum (source i (reg a.left.base)) a.left.offset a.right.offset (sym x ∙ (same ∙ (y ∙ ap (λ (z : ℕ). (z + a.right.offset) % word_count) word))))
  differ_at i j v w a word same (inl x) (inr y) = a.differ (no_step (source i (reg a.left.base)) a.left.offset (sym word ∙ (sym y.0 ∙ (sym same ∙ x))) ∙ ap (λ (d : ℕ). d % word_count) (sym y.1))
  differ_at i j v w a word same (inr x) (inl y) = a.differ (ap (λ (d : ℕ). d % word_count) x.1 ∙ sym (no_step (source i (reg a.left.base)) a.right.offset (sym x.0 ∙ (same ∙ (y ∙ ap (λ (z : ℕ). (z + a.right.offset) % word_count) word)))))
  differ_at i j v w a word same (inr x) (inr y) = a.differ (ap (λ (d : ℕ). d % word_count) (x.1 ∙ sym y.1))

  cells_differ : (i j : ℕ) (v w : Value) → i ≤ j → are_apart (is_written block i j) v w ≡ true → value_in (source i) v ≡ value_in (source j) w → ⊥
  cells_differ i j v w le e same =
      let a = why_apart (is_written block i j) (based_of v) (based_of w) e in
      let word : source j (reg a.right.base) ≡ source i (reg a.left.base) = ap (λ (r : ℕ). source j (reg r)) (sym a.same_base) ∙ unwritten i j a.left.base le a.kept in
      differ_at i j v w a word same (based_value v a.left (source i) a.left_is) (based_value w a.right (source j) a.right_is)

  -- two places of the block, the first before the second
  module _ (i j : ℕ) (before : i < j) where
    -- cells that are one may meet
    meet_cells : (rs qs : List ℕ) (vs ws : List Value) (c : ℕ) → Hit rs vs (source i) (cell c) → Hit qs ws (source j) (cell c) → may_meet (is_written block i j) vs ws ≡ true
    meet_cells rs qs vs ws c (register_hit r is among) k = absurd (cc)
    meet_cells rs qs vs ws c (cell_hit v is there) (register_hit q is' among) = absurd (cc)
    meet_cells rs qs vs ws c (cell_hit v is there) (cell_hit w is' there') =
        let same : value_in (source i) v ≡ value_in (source j) w = cc in
        any_contains (λ v. list_any (λ w. not (are_apart (is_written block i j) v w)) ws) vs v there (any_contains (λ w. not (are_apart (is_written block i j) v w)) ws w there' (go (are_apart (is_written block i j) v w) refl same))
      where
        go : (b : Bool) → are_apart (is_written block i j) v w ≡ b → value_in (source i) v ≡ value_in (source j) w → not b ≡ true
        go true e same = absurd (cells_differ i j v w (omega arith) e same)
        go false e same = refl

    -- one place is met by both
    cross : (rs qs : List ℕ) (vs ws : List Value) (p : Place) → Hit rs vs (source i) p → Hit qs ws (source j) p → (list_any (is_among qs) rs || may_meet (is_written block i j) vs ws) ≡ true
    cross rs qs vs ws (cell c) h k = or_right (list_any (is_among qs) rs) (may_meet (is_written block i j) vs ws) (meet_cells rs qs vs ws c h k)
    cross rs qs vs ws (reg n) (register_hit r is among) (register_hit q is' among') =
        let same : q ≡ r = cc in
        ap (λ (b : Bool). b || may_meet (is_written block i j) vs ws) (among_any rs r (is_among qs) among (ap (is_among qs) (sym same) ∙ among'))
    cross rs qs vs ws (reg n) (register_hit r is among) (cell_hit w is' there) = absurd (cc)
    cross rs qs vs ws (reg n) (cell_hit v is there) k = absurd (cc)

    module _ (x y : Instruction) (first : slice_get block i ≡ Some x) (second : slice_get block j ≡ Some y) where
      abbrev any_kind : (between since : ℕ → Bool) (f g : Access) → Bool
      any_kind between since f g = is_true between since f g || is_anti between since f g || is_output between since f g

      depend : any_kind (is_written block (i + 1) j) (is_written block i j) (access_of x) (access_of y) ≡ true → depends block i j ≡ true
      depend e =
          ap (λ (b : Bool). b && at_places any_kind block i j (slice_get block i) (slice_get block j)) (lt-ltb i j before)
          ∙ (ap (λ (o : Option Instruction). at_places any_kind block i j o (slice_get block j)) first ∙ (ap (λ (o : Option Instruction). at_places any_kind block i j (Some x) o) second ∙ e))

      pub output_depends : (p : Place) → Hit (access_of x).registers_written (access_of x).addresses_written (source i) p → Hit (access_of y).registers_written (access_of y).addresses_written (source j) p → depends block i j ≡ true
      output_depends p h k = depend (or_right (is_true (is_written block (i + 1) j) (is_written block i j) (access_of x) (access_of y) || is_anti (is_written block (i + 1) j) (is_written block i j) (access_of x) (access_of y))
          (is_output (is_written block (i + 1) j) (is_written block i j) (access_of x) (access_of y)) (cross (access_of x).registers_written (access_of y).registers_written (access_of x).addresses_written (access_of y).addresses_written p h k))

      pub anti_depends : (p : Place) → Hit (access_of x).registers_read (access_of x).addresses_read (source i) p → Hit (access_of y).registers_written (access_of y).addresses_written (source j) p → depends block i j ≡ true
      anti_depends p h k = depend (ap (λ (b : Bool). b || is_output (is_written block (i + 1) j) (is_written block i j) (access_of x) (access_of y))
          (or_right (is_true (is_written block (i + 1) j) (is_written block i j) (access_of x) (access_of y)) (is_anti (is_written block (i + 1) j) (is_written block i j) (access_of x) (access_of y))
          (cross (access_of x).registers_read (access_of y).registers_written (access_of x).addresses_read (access_of y).addresses_written p h k)))

      true_depends : is_true (is_written block (i + 1) j) (is_written block i j) (access_of x) (access_of y) ≡ true → depends block i j ≡ true
      true_depends e = depend (ap (λ (b : Bool). (b || is_anti (is_written block (i + 1) j) (is_written block i j) (access_of x) (access_of y)) || is_output (is_written block (i + 1) j) (is_written block i j) (access_of x) (access_of y)) e)

      pub cell_depends : (c : ℕ) → Hit (access_of x).registers_written (access_of x).addresses_written (source i) (cell c) → Hit (access_of y).registers_read (access_of y).addresses_read (source j) (cell c) → depends block i j ≡ true
      cell_depends c h k = true_depends (or_right (list_any (λ r. is_among (access_of x).registers_written r && not (is_written block (i + 1) j r)) (access_of y).registers_read)
          (may_meet (is_written block i j) (access_of x).addresses_written (access_of y).addresses_read) (meet_cells (access_of x).registers_written (access_of y).registers_read (access_of x).addresses_written (access_of y).addresses_read c h k))

      pub register_depends : (r : ℕ) → writes x r ≡ true → is_among (access_of y).registers_read r ≡ true → is_written block (i + 1) j r ≡ false → depends block i j ≡ true
      register_depends r w k none = true_depends (ap (λ (b : Bool). b || may_meet (is_written block i j) (access_of x).addresses_written (access_of y).addresses_read)
          (among_any (access_of y).registers_read r (λ r. is_among (access_of x).registers_written r && not (is_written block (i + 1) j r)) k
          (ap (λ (b : Bool). b && not (is_written block (i + 1) j r)) w ∙ ap not none)))

  -- an instruction that stores to a place at its turn
  pub storer_at : (k : ℕ) (p : Place) → touches (given k) p ≡ true → Storer (slice_get block k) (source k) p
  storer_at k p e = storer (slice_get block k) (source k) p e
