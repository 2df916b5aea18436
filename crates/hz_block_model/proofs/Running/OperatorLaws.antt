-- What operators compute, in the words of arithmetic.
use Rattle.std.proofs.Common.{◌≡◌, ℕ, zero, suc, ◌+◌, ◌-◌, ◌*◌, ◌/◌, ◌%◌, ◌^◌, ◌<◌, ◌≤◌, ⊎_elim, Bool, true, false, cond, ltb, pos, negsuc, ◌+ℤ◌, ◌*ℤ◌, ◌<ℤ◌, refl, arith}
use Rattle.std.proofs.lemmas.Int.{ints}
use Rattle.std.proofs.lemmas.Nat.{pow_pos}
use Rattle.std.proofs.lemmas.Bool.{cases_lt, lt-ltb, le-ltb, eqb-false}
use Rattle.std.specs.Prelude.{◌==◌, not, nat_lt}
use Rattle.std.specs.Int.Bits.{and_lt, or_lt, xor_lt}
use Rattle.hz_block_model.specs.Running.Operators.{word_count, truth, sign, factor, BinaryOperator, plus, minus, mult, udiv, umod, conjunction, disjunction, exclusive, ashift, lshiftrt, ashiftrt, eq, ne, ltu, lt, binary_word}
use Rattle.hz_block_model.specs.Running.Signed.{signed, IsWordOf, IsSignedFloor}

-- a number modulo 2 ^ 64
pub word_of_number : (n : ℕ) → IsWordOf n (n % word_count)
word_of_number n = record { short = omega arith; turns = n / word_count; is = omega arith }

-- a number of places modulo 64
places_are : (b turns : ℕ) → b < 64 → (b + 64 * turns) % 64 ≡ b
places_are b turns h = omega (arith, h)

pub shifted_left : (a b turns : ℕ) → b < 64 → IsWordOf (a * 2 ^ b) (binary_word ashift a (b + 64 * turns))
shifted_left a b turns h = rw (places_are b turns h) (word_of_number (a * 2 ^ b))

-- the floor by cases of the sign
floor_above : (a p : ℕ) → 0 < p → IsSignedFloor (pos a) p (pos (a / p))
floor_above a p h = record { not_above = omega (arith, ints); next_above = omega (arith, ints) }

next_below : (r c p : ℕ) → r * p ≤ c → negsuc c <ℤ ((negsuc r +ℤ pos 1) *ℤ pos p)
next_below zero c p h = omega (arith, ints)
next_below (suc r) c p h =
    let one_more : (negsuc (suc r) +ℤ pos 1) ≡ negsuc r = omega (arith, ints) in
    rw one_more (omega (arith, ints, h))

floor_below : (c p : ℕ) → 0 < p → IsSignedFloor (negsuc c) p (negsuc (c / p))
floor_below c p h = record { not_above = omega (arith, ints); next_above = next_below (c / p) c p (omega (arith, h)) }

signed_low : (a : ℕ) → a < 2 ^ 63 → signed a ≡ pos a
signed_low a h = rw (lt-ltb a (2 ^ 63) h) refl

signed_high : (c : ℕ) → c < 2 ^ 63 → signed (2 ^ 64 - 1 - c) ≡ negsuc c
signed_high c h =
    let back : 2 ^ 64 - 1 - (2 ^ 64 - 1 - c) ≡ c = omega (arith, h) in
    rw (le-ltb (2 ^ 64 - 1 - c) (2 ^ 63) (omega (arith, h)), back) refl

quotient_low : (c p : ℕ) → 0 < p → c / p ≤ c
quotient_low c p h = omega (arith, h)

pub shifted_signed : (a b turns : ℕ) → a < 2 ^ 64 → b < 64 → IsSignedFloor (signed a) (2 ^ b) (signed (binary_word ashiftrt a (b + 64 * turns)))
shifted_signed a b turns word h = rw (places_are b turns h) (⊎_elim low high (cases_lt a (2 ^ 63)))
  where
    low : a < 2 ^ 63 → IsSignedFloor (signed a) (2 ^ b) (signed (cond (ltb a (2 ^ 63)) (a / 2 ^ b) (2 ^ 64 - 1 - (2 ^ 64 - 1 - a) / 2 ^ b)))
    low k =
        let less = quotient_low a (2 ^ b) (pow_pos b) in
        rw (lt-ltb a (2 ^ 63) k, signed_low (a / 2 ^ b) (omega (arith, less, k))) (floor_above a (2 ^ b) (pow_pos b))

    high : 2 ^ 63 ≤ a → IsSignedFloor (signed a) (2 ^ b) (signed (cond (ltb a (2 ^ 63)) (a / 2 ^ b) (2 ^ 64 - 1 - (2 ^ 64 - 1 - a) / 2 ^ b)))
    high k =
        let less = quotient_low (2 ^ 64 - 1 - a) (2 ^ b) (pow_pos b) in
        rw (le-ltb a (2 ^ 63) k, signed_high ((2 ^ 64 - 1 - a) / 2 ^ b) (omega (arith, less, k))) (floor_below (2 ^ 64 - 1 - a) (2 ^ b) (pow_pos b))

-- every operator gives a word
truth_low : (t : Bool) → truth t < 2 ^ 64
truth_low true = omega arith
truth_low false = omega arith

pub gives_word : (operator : BinaryOperator) (a b : ℕ) → a < 2 ^ 64 → b < 2 ^ 64 → binary_word operator a b < 2 ^ 64
gives_word plus a b h k = omega arith
gives_word minus a b h k = omega arith
gives_word mult a b h k = omega arith
gives_word udiv a b h k = by_none (b == 0) refl
  where
    by_none : (t : Bool) → (b == 0) ≡ t → cond t (word_count - 1) (a / b) < 2 ^ 64
    by_none true e = omega arith
    by_none false e = let some = eqb-false b 0 e in let less = quotient_low a b (omega (arith, some)) in omega (arith, less, h)
gives_word umod a b h k = by_none (b == 0) refl
  where
    by_none : (t : Bool) → (b == 0) ≡ t → cond t a (a % b) < 2 ^ 64
    by_none true e = h
    by_none false e = let some = eqb-false b 0 e in omega (arith, some, h, k)
gives_word conjunction a b h k = and_lt 64 a b h k
gives_word disjunction a b h k = or_lt 64 a b h k
gives_word exclusive a b h k = xor_lt 64 a b h k
gives_word ashift a b h k = omega arith
gives_word lshiftrt a b h k = let less = quotient_low a (factor b) (pow_pos (b % 64)) in omega (arith, less, h)
gives_word ashiftrt a b h k = by_sign (ltb a sign)
  where
    by_sign : (t : Bool) → cond t (a / factor b) (word_count - 1 - (word_count - 1 - a) / factor b) < 2 ^ 64
    by_sign true = let less = quotient_low a (factor b) (pow_pos (b % 64)) in omega (arith, less, h)
    by_sign false = omega arith
gives_word eq a b h k = truth_low (a == b)
gives_word ne a b h k = truth_low (not (a == b))
gives_word ltu a b h k = truth_low (nat_lt a b)
gives_word lt a b h k = truth_low (nat_lt ((a + sign) % word_count) ((b + sign) % word_count))
