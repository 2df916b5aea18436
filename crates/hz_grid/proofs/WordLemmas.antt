-- What the words of a row say of its units.
use Rattle.std.proofs.Common.{◌≡◌, ℕ, ◌+◌, ◌-◌, ◌*◌, ◌/◌, ◌%◌, ◌^◌, ◌<◌, ◌≤◌, zero, suc, ◌↔◌, ◌⊎◌, inl, inr, ⊎_elim, List, [], ◌∷◌, length, get_or, set, replicate, nat_eq, bit_or, refl, sym, ap, ◌∙◌, subst, arith, get_or-set_same, get_or-set_other}
use Rattle.std.specs.Int.{bit_at, w64, trailing_zeros}
use Rattle.std.specs.Int.Bits.{bit_xor}
use Rattle.std.proofs.lemmas.Bool.{cases_lt, cases_eq}
use Rattle.std.proofs.lemmas.Nat.Bits.{bit_at-zero, bit_at_cat_low, bit_at_cat_high, bit_at_above, bit_at-lt, bit_at_xor, same_from_bits}
use Rattle.std.proofs.lemmas.List.{get_or_past}
use Rattle.std.proofs.lemmas.List.Elements.{All-head, All-tail, All-nil, All-cons}
use Rattle.hz_grid.specs.Rows.{has_unit, HasUnit, RowsMeet, IsWithin, DifferAt, HasAbove}
use Rattle.hz_grid.specs.Words.{row_of, AreWords}
use Rattle.hz_grid.proofs.Units.{HasUnit-from_bit, bit_from_HasUnit, HasUnit-zero, HasUnit-set, HasUnit-or, some_unit, same_from_units}
use Rattle.hz_grid.proofs.Differences.{first_bit-xor}

pub bit-row_of : (words : List ℕ) (unit : ℕ) → AreWords words → bit_at (row_of words) unit ≡ bit_at (get_or words (unit / 64) 0) (unit % 64)
bit-row_of [] unit small = bit_at-zero unit ∙ sym (bit_at-zero (unit % 64))
bit-row_of (word ∷ words) unit small =
    let first = All-head (λ w. w < 2 ^ 64) word words small in
    let rest = All-tail (λ w. w < 2 ^ 64) word words small in
    ⊎_elim
    (λ (lt : unit < 64).
    let at : unit / 64 ≡ 0 = omega (arith, lt) in
    let in_word : unit % 64 ≡ unit = omega (arith, lt) in
    rw (at, in_word) (bit_at_cat_low (row_of words) 64 word unit lt))
    (λ (ge : 64 ≤ unit).
    let at : unit / 64 ≡ suc ((unit - 64) / 64) = omega (arith, ge) in
    let in_word : unit % 64 ≡ (unit - 64) % 64 = omega (arith, ge) in
    rw (at, in_word) (bit_at_cat_high (row_of words) 64 word unit first ge ∙ bit-row_of words (unit - 64) rest))
    (cases_lt unit 64)

pub same_bit_unit : (a i b j : ℕ) → bit_at a i ≡ bit_at b j → HasUnit a i → HasUnit b j
same_bit_unit a i b j e h = HasUnit-from_bit b j (sym e ∙ bit_from_HasUnit a i h)

pub HasUnit-row_of : (words : List ℕ) (unit : ℕ) → AreWords words → HasUnit (row_of words) unit ↔ HasUnit (get_or words (unit / 64) 0) (unit % 64)
HasUnit-row_of words unit small =
    let e = bit-row_of words unit small in
    (same_bit_unit _ _ _ _ e, same_bit_unit _ _ _ _ (sym e))

-- a word of the list is small, and after the end it is 0
pub word_small : (words : List ℕ) (place : ℕ) → AreWords words → get_or words place 0 < 2 ^ 64
word_small [] place small = omega arith
word_small (word ∷ words) zero small = All-head (λ w. w < 2 ^ 64) word words small
word_small (word ∷ words) (suc place) small = word_small words place (All-tail (λ w. w < 2 ^ 64) word words small)

pub HasUnit-below64 : (word unit : ℕ) → word < 2 ^ 64 → HasUnit word unit → unit < 64
HasUnit-below64 word unit small h =
    ⊎_elim (λ (l : unit < 64). l) (λ (g : 64 ≤ unit). absurd (omega (arith, bit_at_above word 64 unit small g, bit_from_HasUnit word unit h))) (cases_lt unit 64)

-- a unit of a word is one of the row
pub HasUnit-of_word : (words : List ℕ) (place unit : ℕ) → AreWords words → HasUnit (get_or words place 0) unit → HasUnit (row_of words) (64 * place + unit)
HasUnit-of_word words place unit small h =
    let below = HasUnit-below64 _ unit (word_small words place small) h in
    let at : (64 * place + unit) / 64 ≡ place = omega (arith, below) in
    let in_word : (64 * place + unit) % 64 ≡ unit = omega (arith, below) in
    (HasUnit-row_of words (64 * place + unit) small).1 (rw (at, in_word) h)

pub below_words : (words : List ℕ) (unit : ℕ) → AreWords words → HasUnit (row_of words) unit → unit < 64 * length words
below_words words unit small h =
    ⊎_elim
    (λ (lt : unit / 64 < length words). omega (arith, lt))
    (λ (past : length words ≤ unit / 64).
    absurd (HasUnit-zero (unit % 64) (rw (get_or_past words (unit / 64) 0 past) at ((HasUnit-row_of words unit small).0 h))))
    (cases_lt (unit / 64) (length words))

-- ---- rows by their words

pub meet_in_a_word : (a b : List ℕ) → AreWords a → AreWords b → RowsMeet (row_of a) (row_of b) → (place : ℕ) × RowsMeet (get_or a place 0) (get_or b place 0)
meet_in_a_word a b small other_small (unit, one, two) =
    (unit / 64, (unit % 64, (HasUnit-row_of a unit small).0 one, (HasUnit-row_of b unit other_small).0 two))

pub meet_from_word : (a b : List ℕ) (place : ℕ) → AreWords a → AreWords b → RowsMeet (get_or a place 0) (get_or b place 0) → RowsMeet (row_of a) (row_of b)
meet_from_word a b place small other_small (unit, one, two) =
    (64 * place + unit, HasUnit-of_word a place unit small one, HasUnit-of_word b place unit other_small two)

-- words that do not meet in the places that both have do not meet
pub apart_from_words : (a b : List ℕ) → AreWords a → AreWords b → ((place : ℕ) → place < length a → place < length b → RowsMeet (get_or a place 0) (get_or b place 0) → ⊥) → RowsMeet (row_of a) (row_of b) → ⊥
apart_from_words a b small other_small apart meets =
    let (place, (unit, one, two)) = meet_in_a_word a b small other_small meets in
    ⊎_elim
    (λ (in_a : place < length a). ⊎_elim
    (λ (in_b : place < length b). apart place in_a in_b (unit, one, two))
    (λ (past : length b ≤ place). HasUnit-zero unit (rw (get_or_past b place 0 past) at two))
    (cases_lt place (length b)))
    (λ (past : length a ≤ place). HasUnit-zero unit (rw (get_or_past a place 0 past) at one))
    (cases_lt place (length a))

pub within_from_words : (a b : List ℕ) → AreWords a → AreWords b → ((place : ℕ) → place < length a → IsWithin (get_or a place 0) (get_or b place 0)) → IsWithin (row_of a) (row_of b)
within_from_words a b small other_small each unit h =
    let in_word = (HasUnit-row_of a unit small).0 h in
    ⊎_elim
    (λ (lt : unit / 64 < length a). (HasUnit-row_of b unit other_small).1 (each (unit / 64) lt (unit % 64) in_word))
    (λ (past : length a ≤ unit / 64). absurd (HasUnit-zero (unit % 64) (rw (get_or_past a (unit / 64) 0 past) at in_word)))
    (cases_lt (unit / 64) (length a))

pub words_within : (a b : List ℕ) (place : ℕ) → AreWords a → AreWords b → IsWithin (row_of a) (row_of b) → IsWithin (get_or a place 0) (get_or b place 0)
words_within a b place small other_small is unit h =
    let below = HasUnit-below64 _ unit (word_small a place small) h in
    let at : (64 * place + unit) / 64 ≡ place = omega (arith, below) in
    let in_word : (64 * place + unit) % 64 ≡ unit = omega (arith, below) in
    rw (at, in_word) at ((HasUnit-row_of b (64 * place + unit) other_small).0 (is (64 * place + unit) (HasUnit-of_word a place unit small h)))

-- equal rows have equal words, whatever the widths
pub words_same : (a b : List ℕ) (place : ℕ) → AreWords a → AreWords b → row_of a ≡ row_of b → get_or a place 0 ≡ get_or b place 0
words_same a b place small other_small e = same_from_units _ _ (λ unit. (
  words_within a b place small other_small (λ u h. rw (← e) h) unit,
  words_within b a place other_small small (λ u h. rw e h) unit,
))

pub same_from_words : (a b : List ℕ) → AreWords a → AreWords b → ((place : ℕ) → get_or a place 0 ≡ get_or b place 0) → row_of a ≡ row_of b
same_from_words a b small other_small each = same_from_units _ _ (λ unit. (
  λ h. (HasUnit-row_of b unit other_small).1 (rw (← each (unit / 64)) ((HasUnit-row_of a unit small).0 h)),
  λ h. (HasUnit-row_of a unit small).1 (rw (each (unit / 64)) ((HasUnit-row_of b unit other_small).0 h)),
))

-- words without a unit make no row
pub none_from_words : (words : List ℕ) → AreWords words → row_of words ≡ 0 ↔ ((unit : ℕ) → unit < 64 * length words → HasUnit (row_of words) unit → ⊥)
none_from_words words small = (
  λ e unit lt h. HasUnit-zero unit (rw e at h),
  λ without. ⊎_elim
      (λ (none : row_of words < 1). omega (arith, none))
      (λ (some : 1 ≤ row_of words).
      let (found, h) = some_unit (row_of words) (omega (arith, some)) in
      absurd (without found (below_words words found small h) h))
      (cases_lt (row_of words) 1),
)

-- ---- words that are made

pub AreWords-zeros : (count : ℕ) → AreWords (replicate count 0)
AreWords-zeros zero = All-nil (λ w. w < 2 ^ 64)
AreWords-zeros (suc count) = All-cons (λ w. w < 2 ^ 64) 0 (replicate count 0) (omega arith) (AreWords-zeros count)

pub row_of-zeros : (count : ℕ) → row_of (replicate count 0) ≡ 0
row_of-zeros zero = refl
row_of-zeros (suc count) = let e = row_of-zeros count in omega (arith, e)

pub AreWords-set : (words : List ℕ) (place word : ℕ) → AreWords words → word < 2 ^ 64 → AreWords (set words place word)
AreWords-set [] place word small lt = small
AreWords-set (w ∷ words) zero word small lt = All-cons (λ w. w < 2 ^ 64) word words lt (All-tail (λ w. w < 2 ^ 64) w words small)
AreWords-set (w ∷ words) (suc place) word small lt =
    All-cons (λ w. w < 2 ^ 64) w (set words place word) (All-head (λ w. w < 2 ^ 64) w words small) (AreWords-set words place word (All-tail (λ w. w < 2 ^ 64) w words small) lt)

pub HasUnit-added : (words : List ℕ) (unit : ℕ) → AreWords words → unit < 64 * length words → AreWords (set words (unit / 64) (bit_or (get_or words (unit / 64) 0) (1 * 2 ^ (unit % 64) % 2 ^ 64))) → (other : ℕ) → HasUnit (row_of (set words (unit / 64) (bit_or (get_or words (unit / 64) 0) (1 * 2 ^ (unit % 64) % 2 ^ 64)))) other ↔ (HasUnit (row_of words) other ⊎ (other ≡ unit))
HasUnit-added words unit small lt new_small other =
    let word = bit_or (get_or words (unit / 64) 0) (1 * 2 ^ (unit % 64) % 2 ^ 64) in
    let place : unit / 64 < length words = omega (arith, lt) in
    let new = HasUnit-row_of (set words (unit / 64) word) other new_small in
    let old = HasUnit-row_of words other small in
    ⊎_elim
    (λ (here : other / 64 ≡ unit / 64).
    let written = get_or-set_same words (unit / 64) word 0 place in
    let put = HasUnit-set (get_or words (unit / 64) 0) (unit % 64) (other % 64) (omega arith) in (
      (λ h. ⊎_elim
          (λ (k : HasUnit (get_or words (unit / 64) 0) (other % 64)). inl (old.1 (rw here k)))
          (λ (e : other % 64 ≡ unit % 64). inr (omega (arith, here, e)))
          (put.0 (rw (here, written) at (new.0 h)))),
      ⊎_elim
          (λ (h : HasUnit (row_of words) other). new.1 (rw (here, written) (put.1 (inl (rw here at (old.0 h))))))
          (λ (e : other ≡ unit). new.1 (rw (here, written) (put.1 (inr (ap (λ n. n % 64) e))))),
    ))
    (λ (apart : other / 64 ≡ unit / 64 → ⊥).
    let kept = get_or-set_other words (unit / 64) (other / 64) word 0 apart in (
      (λ h. inl (old.1 (rw kept at (new.0 h)))),
      ⊎_elim
          (λ (h : HasUnit (row_of words) other). new.1 (rw kept (old.0 h)))
          (λ (e : other ≡ unit). absurd (apart (ap (λ n. n / 64) e))),
    ))
    (cases_eq (other / 64) (unit / 64))

-- words that are joined, place by place
pub HasUnit-joined : (old others words : List ℕ) → AreWords old → AreWords others → AreWords words → ((place : ℕ) → get_or words place 0 ≡ bit_or (get_or old place 0) (get_or others place 0)) → (unit : ℕ) → HasUnit (row_of words) unit ↔ (HasUnit (row_of old) unit ⊎ HasUnit (row_of others) unit)
HasUnit-joined old others words small other_small new_small each unit =
    let new = HasUnit-row_of words unit new_small in
    let one = HasUnit-row_of old unit small in
    let other = HasUnit-row_of others unit other_small in
    let either = HasUnit-or (get_or old (unit / 64) 0) (get_or others (unit / 64) 0) (unit % 64) in (
      λ h. ⊎_elim
          (λ (k : HasUnit (get_or old (unit / 64) 0) (unit % 64)). inl (one.1 k))
          (λ (k : HasUnit (get_or others (unit / 64) 0) (unit % 64)). inr (other.1 k))
          (either.0 (rw (each (unit / 64)) at (new.0 h))),
      ⊎_elim
          (λ (h : HasUnit (row_of old) unit). new.1 (rw (each (unit / 64)) (either.1 (inl (one.0 h)))))
          (λ (h : HasUnit (row_of others) unit). new.1 (rw (each (unit / 64)) (either.1 (inr (other.0 h))))),
    )

pub or_nothing : (a : ℕ) → bit_or a 0 ≡ a
or_nothing a = same_from_units _ _ (λ unit. (
  λ h. ⊎_elim (λ (k : HasUnit a unit). k) (λ (k : HasUnit 0 unit). absurd (HasUnit-zero unit k)) ((HasUnit-or a 0 unit).0 h),
  λ h. (HasUnit-or a 0 unit).1 (inl h),
))

-- ---- the first unit in which rows differ, and units above one

abbrev has_same : List ℕ → List ℕ → ℕ → Type 0
has_same a b unit = has_unit (row_of a) unit ≡ has_unit (row_of b) unit

-- a test of a unit is that of a bit of its word
pub has_unit-row_of : (words : List ℕ) (unit : ℕ) → AreWords words → has_unit (row_of words) unit ≡ has_unit (get_or words (unit / 64) 0) (unit % 64)
unfolding has_unit
has_unit-row_of words unit small = ap (λ bit. nat_eq bit 1) (bit-row_of words unit small)

has_unit-of_word : (words : List ℕ) (place unit : ℕ) → AreWords words → unit < 64 → has_unit (row_of words) (place * 64 + unit) ≡ has_unit (get_or words place 0) unit
has_unit-of_word words place unit small below =
    let at : (place * 64 + unit) / 64 ≡ place = omega (arith, below) in
    let in_word : (place * 64 + unit) % 64 ≡ unit = omega (arith, below) in
    has_unit-row_of words (place * 64 + unit) small ∙ ap (λ p. has_unit (get_or words p 0) ((place * 64 + unit) % 64)) at ∙ ap (has_unit (get_or words place 0)) in_word

pub DifferAt-words : (a b : List ℕ) (place : ℕ) → AreWords a → AreWords b → place < 4
    → ((k : ℕ) → k < place → get_or a k 0 ≡ get_or b k 0)
    → (get_or a place 0 ≡ get_or b place 0 → ⊥)
    → DifferAt (row_of a) (row_of b) (place * 64 + trailing_zeros w64 (bit_xor (get_or a place 0) (get_or b place 0)))
DifferAt-words a b place small other_small few same differ =
    let (below, here, lower) = first_bit-xor (get_or a place 0) (get_or b place 0) (word_small a place small) (word_small b place other_small) differ in
    let bit = trailing_zeros w64 (bit_xor (get_or a place 0) (get_or b place 0)) in
    record {
      below = omega (arith, below, few);
      here = λ e. here (sym (has_unit-of_word a place bit small below) ∙ e ∙ has_unit-of_word b place bit other_small below);
      lower = λ unit lt.
          let of_a = has_unit-row_of a unit small in
          let of_b = has_unit-row_of b unit other_small in
          of_a ∙ ⊎_elim
          (λ (before : unit / 64 < place). ap (λ word. has_unit word (unit % 64)) (same (unit / 64) before))
          (λ (past : place ≤ unit / 64).
          let at : unit / 64 ≡ place = omega (arith, past, lt, below) in
          let under : unit % 64 < bit = omega (arith, past, lt, below) in
          ap (λ p. has_unit (get_or a p 0) (unit % 64)) at ∙ lower (unit % 64) under ∙ sym (ap (λ p. has_unit (get_or b p 0) (unit % 64)) at))
          (cases_lt (unit / 64) place) ∙ sym of_b;
    }

-- a later bit of the unit's word
pub above_in_word : (words : List ℕ) (unit : ℕ) → AreWords words → HasAbove (get_or words (unit / 64) 0) (unit % 64) → HasAbove (row_of words) unit
above_in_word words unit small (other, after, h) =
    let below = HasUnit-below64 _ other (word_small words (unit / 64) small) h in
    (64 * (unit / 64) + other, omega (arith, after), HasUnit-of_word words (unit / 64) other small h)

-- a bit of a later word
pub above_in_later : (words : List ℕ) (unit place : ℕ) → AreWords words → unit / 64 < place → (get_or words place 0 ≡ 0 → ⊥) → HasAbove (row_of words) unit
above_in_later words unit place small after some =
    let (found, h) = some_unit (get_or words place 0) (omega (arith, some)) in
    (64 * place + found, omega (arith, after), HasUnit-of_word words place found small h)

pub none_above : (words : List ℕ) (unit : ℕ) → AreWords words → (HasAbove (get_or words (unit / 64) 0) (unit % 64) → ⊥) → ((k : ℕ) → unit / 64 < k → get_or words k 0 ≡ 0) → HasAbove (row_of words) unit → ⊥
none_above words unit small here later (other, after, h) =
    let in_word = (HasUnit-row_of words other small).0 h in
    ⊎_elim
    (λ (beyond : unit / 64 < other / 64). HasUnit-zero (other % 64) (rw (later (other / 64) beyond) at in_word))
    (λ (most : other / 64 ≤ unit / 64).
    let at : other / 64 ≡ unit / 64 = omega (arith, after, most) in
    here (other % 64, omega (arith, after, most), subst (λ p. HasUnit (get_or words p 0) (other % 64)) at in_word))
    (cases_lt (unit / 64) (other / 64))

pub same_has_no_xor : (a b : ℕ) → a ≡ b → bit_xor a b ≡ 0
same_has_no_xor a b e = same_from_bits _ 0 (λ i.
    let x = bit_at_xor a b i in
    let same : bit_at a i ≡ bit_at b i = ap (λ n. bit_at n i) e in
    let low = bit_at-lt a i in
    let none = bit_at-zero i in
    omega arith)
