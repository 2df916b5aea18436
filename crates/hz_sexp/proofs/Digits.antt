-- The number that digits spell, digit by digit.
use Rattle.std.proofs.Common.{◌≡◌, ℕ, zero, suc, ◌+◌, ◌*◌, ◌<◌, ◌≤◌, List, [], ◌∷◌, length, take, get_or, arith, ◌^◌, refl, Some, inl, inr, subst}
use Rattle.std.specs.Prelude.{IsTrue, IsFalse, ◌==◌, not, nat_le, pos, negsuc, neg_ℤ, ℤ}
use mir.Val.{SFits}
use mir.Syntax.{w128}
use Rattle.std.specs.List.{list_all}
use Rattle.std.specs.Char.{digit_value}
use Rattle.std.specs.Str.Parse.{digits_value}
use Rattle.std.proofs.lemmas.Bool.{and_parts, leb-true, cases_Bool, eqb-true, le-ltb, ltb-true}
use Rattle.std.proofs.lemmas.Int.Digits.{digits_value_more}
use Rattle.std.proofs.lemmas.Str.{digit_value_digit}
use Rattle.std.proofs.lemmas.Str.Parse.{digits_value-take-le}
use Rattle.hz_base_model.specs.Forms.Forms.{is_digit, is_digits, integer_of, is_in_range}

digit_at : (bytes : List ℕ) (k : ℕ) → IsTrue (list_all is_digit bytes) → k < length bytes → IsTrue (is_digit (get_or bytes k 0))
digit_at [] k all h = absurd (omega arith)
digit_at (b ∷ bytes) zero all h = (and_parts _ _ all).0
digit_at (b ∷ bytes) (suc k) all h = digit_at bytes k (and_parts _ _ all).1 (omega arith)

digit_of : (bytes : List ℕ) (k : ℕ) → IsTrue (is_digits bytes) → k < length bytes → IsTrue (is_digit (get_or bytes k 0))
digit_of bytes k h within = digit_at bytes k (and_parts (not (length bytes == 0)) (list_all is_digit bytes) h).1 within

-- one digit more, and what it adds
pub record More (bytes : List ℕ) (k : ℕ) : Type 0 where
  pub low : 48 ≤ get_or bytes k 0
  pub value : digits_value 10 (take (k + 1) bytes) + 48 ≡ digits_value 10 (take k bytes) * 10 + get_or bytes k 0
  pub within : digits_value 10 (take (k + 1) bytes) ≤ digits_value 10 bytes

pub value_more : (bytes : List ℕ) (k : ℕ) → IsTrue (is_digits bytes) → k < length bytes → More bytes k
value_more bytes k all h =
    let digit = get_or bytes k 0 in
    let both : IsTrue (nat_le 48 digit) × IsTrue (nat_le digit 57) = and_parts _ _ (digit_of bytes k all h) in
    let low : 48 ≤ digit = leb-true 48 digit both.0 in
    let high : digit ≤ 57 = leb-true digit 57 both.1 in
    let value : digit_value digit + 48 ≡ digit = digit_value_digit digit (low, high) in
    record {
      low = low;
      value = rw (digits_value_more 10 bytes k h) (omega arith);
      within = digits_value-take-le 10 bytes (k + 1) (omega arith);
    }

-- a word of a minus and digits
pub minus_value : (bytes : List ℕ) → IsTrue (is_digits bytes) → integer_of (45 ∷ bytes) ≡ Some (neg_ℤ (pos (digits_value 10 bytes)))
minus_value bytes h = rw h refl

-- a word of digits
pub plain_value : (word : List ℕ) → IsTrue (is_digits word) → integer_of word ≡ Some (pos (digits_value 10 word))
plain_value [] h = absurd (cc)
plain_value (b ∷ bytes) h = elim (cases_Bool (b == 45)) [
  | inl e ↦ let P : ℕ → Type 0 = λ n. IsTrue (is_digit n) in
      let clash : P 45 = subst P (eqb-true b 45 e) (digit_of (b ∷ bytes) 0 h (omega arith)) in absurd (cc)
  | inr e ↦ rw (e, h) refl
]

pub below_range : (n : ℕ) → 2 ^ 63 < n → IsFalse (is_in_range (neg_ℤ (pos n)))
below_range zero h = absurd (omega arith)
below_range (suc n) h = le-ltb n (2 ^ 63) (omega arith)

pub above_range : (n : ℕ) → (n < 2 ^ 64 → ⊥) → IsFalse (is_in_range (pos n))
above_range n h = le-ltb n (2 ^ 64) (omega arith)

-- a number in the range fits 128 bits
pub range_fits : (z : ℤ) → IsTrue (is_in_range z) → SFits w128 z
range_fits (pos n) h = let small : n < 2 ^ 64 = ltb-true n (2 ^ 64) h in record { sfits = omega arith }
range_fits (negsuc n) h = let small : n < 2 ^ 63 = ltb-true n (2 ^ 63) h in record { sfits = omega arith }
