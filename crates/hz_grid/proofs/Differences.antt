-- The first unit in which two rows differ, and units above one.
use Rattle.std.proofs.Common.{◌≡◌, ◌≢◌, ℕ, ◌+◌, ◌-◌, ◌/◌, ◌%◌, ◌^◌, ◌<◌, ◌≤◌, suc, ◌↔◌, IsTrue, nat_lt, nat_eq, sym, ap, ◌∙◌, subst, arith, ⊎_elim}
use Rattle.std.specs.Int.{bit_at, w64, trailing_zeros}
use Rattle.std.specs.Int.Bits.{bit_xor}
use Rattle.std.proofs.lemmas.Bool.{cases_lt, cases_eq}
use Rattle.std.proofs.lemmas.Bool.Decides.{nat_tests}
use Rattle.std.proofs.lemmas.Nat.{pow-add, xor_lt}
use Rattle.std.proofs.Math.Nat.{div-div-eq-div-mul}
use Rattle.std.proofs.lemmas.Nat.Bits.{bit_at_xor, bit_at-zero, bit_at-lt, bit_at-suc, bit_at_above, bit_at-trailing_zeros, same_from_bits}
use Rattle.hz_grid.specs.Rows.{has_unit, HasAbove}
use Rattle.hz_grid.proofs.Units.{HasUnit-from_bit, bit_from_HasUnit, some_unit}

same_unit : (a b unit : ℕ) → bit_at a unit ≡ bit_at b unit → has_unit a unit ≡ has_unit b unit
unfolding has_unit
same_unit a b unit e = ap (λ bit. nat_eq bit 1) e

same_bit : (a b unit : ℕ) → has_unit a unit ≡ has_unit b unit → bit_at a unit ≡ bit_at b unit
same_bit a b unit e =
    let small = bit_at-lt a unit in
    let other_small = bit_at-lt b unit in
    ⊎_elim
    (λ (one : bit_at a unit ≡ 1). one ∙ sym (bit_from_HasUnit b unit (subst IsTrue e (HasUnit-from_bit a unit one))))
    (λ (none : bit_at a unit ≢ 1). ⊎_elim
    (λ (one : bit_at b unit ≡ 1). absurd (none (bit_from_HasUnit a unit (subst IsTrue (sym e) (HasUnit-from_bit b unit one)))))
    (λ (other : bit_at b unit ≢ 1). omega arith)
    (cases_eq (bit_at b unit) 1))
    (cases_eq (bit_at a unit) 1)

-- rows that aren't equal differ in a bit
xor_some : (a b : ℕ) → a ≢ b → 0 < bit_xor a b
xor_some a b differ =
    ⊎_elim
    (λ (e : bit_xor a b ≡ 0). absurd (differ (same_from_bits a b (λ unit.
    let x = bit_at_xor a b unit in
    let z : bit_at (bit_xor a b) unit ≡ 0 = ap (λ n. bit_at n unit) e ∙ bit_at-zero unit in
    let small = bit_at-lt a unit in
    let other_small = bit_at-lt b unit in
    omega arith))))
    (λ (n : bit_xor a b ≢ 0). omega arith)
    (cases_eq (bit_xor a b) 0)

-- the first bit in which two words differ
pub first_bit-xor : (a b : ℕ) → a < 2 ^ 64 → b < 2 ^ 64 → a ≢ b → (trailing_zeros w64 (bit_xor a b) < 64) × (has_unit a (trailing_zeros w64 (bit_xor a b)) ≢ has_unit b (trailing_zeros w64 (bit_xor a b))) × ((lower : ℕ) → lower < trailing_zeros w64 (bit_xor a b) → has_unit a lower ≡ has_unit b lower)
first_bit-xor a b small other_small differ =
    let found = bit_at-trailing_zeros w64 (bit_xor a b) (xor_some a b differ) (xor_lt 64 a b small other_small) in
    let place = trailing_zeros w64 (bit_xor a b) in (
      found.0,
      (λ same.
          let e = same_bit a b place same in
          let x = bit_at_xor a b place in
          let one = found.1 in
          let bound = bit_at-lt a place in
          omega arith),
      λ lower lt. same_unit a b lower (
          let x = bit_at_xor a b lower in
          let none = found.2 lower lt in
          let bound = bit_at-lt a lower in
          let other_bound = bit_at-lt b lower in
          omega arith),
    )

bit_at_shifted : (n unit i : ℕ) → bit_at (n / 2 ^ unit) i ≡ bit_at n (unit + i)
bit_at_shifted n unit i = ap (λ m. m % 2) (div-div-eq-div-mul n (2 ^ unit) (2 ^ i) ∙ ap (λ p. n / p) (sym (pow-add 2 unit i)))

pub HasAbove-shifted : (row unit : ℕ) → IsTrue (nat_lt 1 (row / 2 ^ unit)) ↔ HasAbove row unit
HasAbove-shifted row unit = (
  λ t.
      let above : 1 < row / 2 ^ unit = grind (arith, nat_tests) in
      let found = some_unit (row / 2 ^ unit / 2) (omega arith) in
      let bit = bit_from_HasUnit (row / 2 ^ unit / 2) found.0 found.1 in
      (unit + suc found.0, omega arith, HasUnit-from_bit row (unit + suc found.0) (sym (bit_at_shifted row unit (suc found.0)) ∙ bit_at-suc (row / 2 ^ unit) found.0 ∙ bit)),
  λ h.
      let place : unit + (h.0 - unit) ≡ h.0 = omega (arith, h.1) in
      let bit : bit_at (row / 2 ^ unit) (h.0 - unit) ≡ 1 = bit_at_shifted row unit (h.0 - unit) ∙ ap (bit_at row) place ∙ bit_from_HasUnit row h.0 h.2 in
      ⊎_elim
      (λ (lt : 1 < row / 2 ^ unit). grind (arith, nat_tests))
      (λ (le : row / 2 ^ unit ≤ 1). absurd (omega (arith, bit, bit_at_above (row / 2 ^ unit) 1 (h.0 - unit) (omega arith) (omega (arith, h.1)))))
      (cases_lt 1 (row / 2 ^ unit)),
)

pub above_from_shift : (row unit : ℕ) → 1 < row / 2 ^ unit → HasAbove row unit
above_from_shift row unit lt = (HasAbove-shifted row unit).0 (grind (arith, nat_tests))

pub shift_from_above : (row unit : ℕ) → row / 2 ^ unit ≤ 1 → HasAbove row unit → ⊥
shift_from_above row unit le h = let above : 1 < row / 2 ^ unit = grind (arith, nat_tests, (HasAbove-shifted row unit).1 h) in omega arith
