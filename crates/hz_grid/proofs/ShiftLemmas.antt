-- Numbers of a set of words, so many higher.
use Rattle.std.proofs.Common.{◌≡◌, ℕ, ◌+◌, ◌-◌, ◌*◌, ◌/◌, ◌%◌, ◌^◌, ◌<◌, ◌≤◌, ◌↔◌, inl, inr, ⊎_elim, List, length, get_or, bit_or, sym, ap, ◌∙◌, subst, arith, mod-lt, pow_pos}
use Rattle.std.specs.Int.{bit_at}
use Rattle.std.proofs.lemmas.Bool.{cases_lt}
use Rattle.std.proofs.lemmas.Nat.{shr_split, shr-shr}
use Rattle.std.proofs.lemmas.Nat.Bits.{bit_at_cat_low, bit_at_cat_high, bit_at-zero}
use Rattle.hz_grid.specs.Rows.{HasUnit}
use Rattle.hz_grid.specs.Words.{row_of, AreWords, IsRaised}
use Rattle.hz_grid.proofs.Units.{HasUnit-from_bit, bit_from_HasUnit, HasUnit-zero, HasUnit-or}
use Rattle.hz_grid.proofs.WordLemmas.{HasUnit-row_of, HasUnit-of_word, HasUnit-below64, same_bit_unit}

-- the bits below the width of a word are those of what was cut off
bit_of_low : (n w place : ℕ) → place < w → bit_at (n % 2 ^ w) place ≡ bit_at n place
bit_of_low n w place lt =
    sym (bit_at_cat_low (n / 2 ^ w) w (n % 2 ^ w) place lt) ∙ ap (λ x. bit_at x place) (shr_split n w)

plus_none : (n : ℕ) → n + 0 ≡ n
plus_none n = omega arith

-- `word << k`
pub HasUnit-up : (word k unit : ℕ) → HasUnit (word * 2 ^ k % 2 ^ 64) unit ↔ ((unit < 64) × (k ≤ unit) × HasUnit word (unit - k))
HasUnit-up word k unit = (
  λ h.
      let within : unit < 64 = HasUnit-below64 _ unit (mod-lt (word * 2 ^ k) (pow_pos 64)) h in
      let whole : bit_at (word * 2 ^ k + 0) unit ≡ 1 = ap (λ x. bit_at x unit) (plus_none (word * 2 ^ k)) ∙ sym (bit_of_low (word * 2 ^ k) 64 unit within) ∙ bit_from_HasUnit _ unit h in
      ⊎_elim
      (λ (lt : unit < k). absurd (omega (arith, bit_at-zero unit, sym (bit_at_cat_low word k 0 unit lt) ∙ whole)))
      (λ (le : k ≤ unit). (within, le, HasUnit-from_bit word (unit - k) (sym (bit_at_cat_high word k 0 unit (pow_pos k) le) ∙ whole)))
      (cases_lt unit k),
  λ h. HasUnit-from_bit _ unit (
      bit_of_low (word * 2 ^ k) 64 unit h.0
      ∙ ap (λ x. bit_at x unit) (sym (plus_none (word * 2 ^ k)))
      ∙ bit_at_cat_high word k 0 unit (pow_pos k) h.1
      ∙ bit_from_HasUnit word (unit - k) h.2),
)

-- `word >> k`
pub HasUnit-down : (word k unit : ℕ) → HasUnit (word / 2 ^ k) unit ↔ HasUnit word (k + unit)
HasUnit-down word k unit =
    let e : bit_at (word / 2 ^ k) unit ≡ bit_at word (k + unit) = ap (λ x. x % 2) (shr-shr word k unit) in
    (same_bit_unit _ _ _ _ e, same_bit_unit _ _ _ _ (sym e))

-- words before which so many more stand
pub after_none : (row more place bit : ℕ) → place < more → bit < 64 → HasUnit 0 bit ↔ IsRaised row (64 * more) (64 * place + bit)
after_none row more place bit before small = (λ h. absurd (HasUnit-zero bit h), λ h. absurd (omega (arith, h.0, before, small)))

pub after_there : (words : List ℕ) (more place bit : ℕ) → AreWords words → more ≤ place → bit < 64 → HasUnit (get_or words (place - more) 0) bit ↔ IsRaised (row_of words) (64 * more) (64 * place + bit)
after_there words more place bit are low small =
    let at : 64 * place + bit - 64 * more ≡ 64 * (place - more) + bit = omega (arith, low) in
    let word : (64 * (place - more) + bit) / 64 ≡ place - more = omega (arith, small) in
    let in_word : (64 * (place - more) + bit) % 64 ≡ bit = omega (arith, small) in (
      λ h. (omega (arith, low), rw at (HasUnit-of_word words (place - more) bit are h)),
      λ h. rw (word, in_word) at ((HasUnit-row_of words (64 * (place - more) + bit) are).0 (rw at at h.1)),
    )

-- a word of two
pub raised_bits : (here before row by whole rest place : ℕ) → before < 2 ^ 64 → 0 < rest → rest < 64 → by ≡ 64 * whole + rest
    → ((bit : ℕ) → bit < 64 → HasUnit here bit ↔ IsRaised row (64 * whole) (64 * place + bit))
    → ((bit : ℕ) → bit < 64 → HasUnit before bit ↔ IsRaised row (64 * (whole + 1)) (64 * place + bit))
    → (bit : ℕ) → bit < 64 → HasUnit (bit_or (here * 2 ^ rest % 2 ^ 64) (before / 2 ^ (64 - rest))) bit ↔ IsRaised row by (64 * place + bit)
raised_bits here before row by whole rest place little some part is in_here in_before bit small =
    let either = HasUnit-or (here * 2 ^ rest % 2 ^ 64) (before / 2 ^ (64 - rest)) bit in
    let up = HasUnit-up here rest bit in
    let down = HasUnit-down before (64 - rest) bit in (
      λ h. ⊎_elim
          (λ (k : HasUnit (here * 2 ^ rest % 2 ^ 64) bit).
          let (lt, le, held) = up.0 k in
          let (least, there) = (in_here (bit - rest) (omega (arith, lt))).0 held in
          let at : 64 * place + (bit - rest) - 64 * whole ≡ 64 * place + bit - by = omega (arith, is, le) in
          (omega (arith, is, least, le), subst (λ n. HasUnit row n) at there))
          (λ (k : HasUnit (before / 2 ^ (64 - rest)) bit).
          let held = down.0 k in
          let low = HasUnit-below64 before (64 - rest + bit) little held in
          let (least, there) = (in_before (64 - rest + bit) low).0 held in
          let at : 64 * place + (64 - rest + bit) - 64 * (whole + 1) ≡ 64 * place + bit - by = omega (arith, is, part) in
          (omega (arith, is, least, part), subst (λ n. HasUnit row n) at there))
          (either.0 h),
      λ h. ⊎_elim
          (λ (lt : bit < rest).
          let low : 64 - rest + bit < 64 = omega (arith, lt, part) in
          let at : 64 * place + bit - by ≡ 64 * place + (64 - rest + bit) - 64 * (whole + 1) = omega (arith, is, part) in
          either.1 (inr (down.1 ((in_before (64 - rest + bit) low).1 (omega (arith, is, part, h.0, lt), subst (λ n. HasUnit row n) at h.1)))))
          (λ (le : rest ≤ bit).
          let at : 64 * place + bit - by ≡ 64 * place + (bit - rest) - 64 * whole = omega (arith, is, le) in
          either.1 (inl (up.1 (small, le, (in_here (bit - rest) (omega (arith, small))).1 (omega (arith, is, h.0, le), subst (λ n. HasUnit row n) at h.1)))))
          (cases_lt bit rest),
    )

-- all words together
pub raised_row : (words raised : List ℕ) (by : ℕ) → AreWords raised → ((k : ℕ) → k < length raised → (bit : ℕ) → bit < 64 → HasUnit (get_or raised k 0) bit ↔ IsRaised (row_of words) by (64 * k + bit))
    → (unit : ℕ) → unit < 64 * length raised → HasUnit (row_of raised) unit ↔ IsRaised (row_of words) by unit
raised_row words raised by are each unit lt =
    let of_word = HasUnit-row_of raised unit are in
    let reported = each (unit / 64) (omega (arith, lt)) (unit % 64) (omega arith) in
    let at : 64 * (unit / 64) + unit % 64 ≡ unit = omega arith in
    let same = subst (λ n. HasUnit (get_or raised (unit / 64) 0) (unit % 64) ↔ IsRaised (row_of words) by n) at reported in
    (λ h. same.0 (of_word.0 h), λ h. of_word.1 (same.1 h))
