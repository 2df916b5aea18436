-- What the bits of a row say of its units.
use Rattle.std.proofs.Common.{◌≡◌, ◌≢◌, ℕ, ◌<◌, ◌≤◌, ◌*◌, ◌/◌, ◌%◌, ◌^◌, zero, suc, ◌↔◌, ◌⊎◌, inl, inr, ⊎_elim, IsTrue, nat_eq, not, bit_and, bit_or, sym, ap, ◌∙◌, arith, eq-eqb}
use Rattle.std.specs.Int.{bit_at, w64}
use Rattle.std.proofs.lemmas.Bool.{eqb-true, cases_eq, cases_lt}
use Rattle.std.proofs.lemmas.Nat.Bits.{bit_at-zero, bit_at-lt, bit_at_or, bit_at_and, bit_at_above, bit_at-suc, bit_at_lowest, bit_at_set_same, bit_at_set_other, same_from_bits, shr_and_one}
use Rattle.std.proofs.lemmas.Nat.{or_lt}
use Rattle.std.proofs.lemmas.Bool.Decides.{nat_tests}
use Rattle.hz_grid.specs.Rows.{has_unit, HasUnit, RowsMeet, IsWithin}

pub HasUnit-from_bit : (row unit : ℕ) → bit_at row unit ≡ 1 → HasUnit row unit
unfolding has_unit
HasUnit-from_bit row unit e = eq-eqb _ _ e

pub bit_from_HasUnit : (row unit : ℕ) → HasUnit row unit → bit_at row unit ≡ 1
unfolding has_unit
bit_from_HasUnit row unit h = eqb-true _ _ h

-- a bit is 1 or 0
bit_cases : (row unit : ℕ) → (HasUnit row unit × (bit_at row unit ≡ 1)) ⊎ ((HasUnit row unit → ⊥) × (bit_at row unit ≡ 0))
bit_cases row unit =
    let small = bit_at-lt row unit in
    ⊎_elim
    (λ (e : bit_at row unit ≡ 1). inl (HasUnit-from_bit row unit e, e))
    (λ (n : bit_at row unit ≢ 1). inr (λ h. n (bit_from_HasUnit row unit h), omega arith))
    (cases_eq (bit_at row unit) 1)

pub HasUnit-zero : (unit : ℕ) → HasUnit 0 unit → ⊥
HasUnit-zero unit h = omega (arith, bit_from_HasUnit 0 unit h, bit_at-zero unit)

pub HasUnit-or : (a b unit : ℕ) → HasUnit (bit_or a b) unit ↔ (HasUnit a unit ⊎ HasUnit b unit)
HasUnit-or a b unit =
    let e = bit_at_or a b unit in
    let either : HasUnit a unit ⊎ HasUnit b unit → HasUnit (bit_or a b) unit =
    ⊎_elim
    (λ (h : HasUnit a unit). HasUnit-from_bit _ _ (omega (arith, bit_from_HasUnit a unit h, bit_at-lt b unit)))
    (λ (h : HasUnit b unit). HasUnit-from_bit _ _ (omega (arith, bit_from_HasUnit b unit h, bit_at-lt a unit))) in (
      λ h. elim (bit_cases a unit) [
        | inl l ↦ inl l.0
        | inr l ↦ inr (HasUnit-from_bit b unit (omega (arith, bit_from_HasUnit _ _ h, l.1)))
      ],
      either,
    )

pub HasUnit-and : (a b unit : ℕ) → HasUnit (bit_and a b) unit ↔ (HasUnit a unit × HasUnit b unit)
HasUnit-and a b unit =
    let e = bit_at_and a b unit in (
      λ h. (HasUnit-from_bit a unit (omega (arith, bit_from_HasUnit _ _ h, bit_at-lt a unit, bit_at-lt b unit)), HasUnit-from_bit b unit (omega (arith, bit_from_HasUnit _ _ h, bit_at-lt a unit, bit_at-lt b unit))),
      λ h. HasUnit-from_bit _ _ (omega (arith, bit_from_HasUnit _ _ h.0, bit_from_HasUnit _ _ h.1)),
    )

-- a row has units below its width alone
pub HasUnit-below : (row unit : ℕ) → row < 2 ^ 64 → HasUnit row unit → unit < 64
HasUnit-below row unit small h =
    ⊎_elim (λ (l : unit < 64). l) (λ (g : 64 ≤ unit). absurd (omega (arith, bit_at_above row 64 unit small g, bit_from_HasUnit row unit h))) (cases_lt unit 64)

-- rows with the same units are equal
pub same_from_units : (a b : ℕ) → ((unit : ℕ) → HasUnit a unit ↔ HasUnit b unit) → a ≡ b
same_from_units a b h = same_from_bits a b (λ unit.
    elim (bit_cases a unit) [
      | inl l ↦ l.1 ∙ sym (bit_from_HasUnit b unit ((h unit).0 l.0))
      | inr l ↦ elim (bit_cases b unit) [
        | inl r ↦ absurd (l.0 ((h unit).1 r.0))
        | inr r ↦ l.1 ∙ sym r.1
      ]
    ])

-- a row that isn't 0 has a unit
some_unit_within : (fuel row : ℕ) → row ≤ fuel → 0 < row → (unit : ℕ) × (bit_at row unit ≡ 1)
some_unit_within zero row small some = absurd (omega arith)
some_unit_within (suc fuel) row small some =
    ⊎_elim
    (λ (e : row % 2 ≡ 1). (0, bit_at_lowest row ∙ e))
    (λ (n : row % 2 ≢ 1).
    let above = some_unit_within fuel (row / 2) (omega arith) (omega arith) in
    (suc above.0, bit_at-suc row above.0 ∙ above.1))
    (cases_eq (row % 2) 1)

pub some_unit : (row : ℕ) → 0 < row → (unit : ℕ) × HasUnit row unit
some_unit row some =
    let found = some_unit_within row row (omega arith) some in
    (found.0, HasUnit-from_bit row found.0 found.1)

-- ---- the calls

pub HasUnit-set : (row k unit : ℕ) → k < 64 → HasUnit (bit_or row (1 * 2 ^ k % 2 ^ 64)) unit ↔ (HasUnit row unit ⊎ (unit ≡ k))
HasUnit-set row k unit small = (
  λ h. ⊎_elim
      (λ (e : unit ≡ k). inr e)
      (λ (n : unit ≢ k). inl (HasUnit-from_bit row unit (sym (bit_at_set_other w64 row k small unit n) ∙ bit_from_HasUnit _ unit h)))
      (cases_eq unit k),
  ⊎_elim
      (λ (h : HasUnit row unit). (HasUnit-or row _ unit).1 (inl h))
      (λ (e : unit ≡ k). HasUnit-from_bit _ unit (ap (λ u. bit_at (bit_or row (1 * 2 ^ k % 2 ^ 64)) u) e ∙ bit_at_set_same w64 row k small)),
)

pub HasUnit-shr : (row unit : ℕ) → IsTrue (nat_eq (bit_and (row / 2 ^ unit) 1) 1) ↔ HasUnit row unit
HasUnit-shr row unit = (
  λ t. HasUnit-from_bit row unit (sym (shr_and_one row unit) ∙ eqb-true _ _ t),
  λ h. eq-eqb _ _ (shr_and_one row unit ∙ bit_from_HasUnit row unit h),
)

pub meets_is : (a b : ℕ) → IsTrue (not (nat_eq (bit_and a b) 0)) ↔ RowsMeet a b
meets_is a b = (
  λ t.
      let found = some_unit (bit_and a b) (grind (arith, nat_tests)) in
      let both = (HasUnit-and a b found.0).0 found.1 in
      (found.0, both.0, both.1),
  λ m.
      let held = (HasUnit-and a b m.0).1 (m.1, m.2) in
      let some : bit_and a b ≢ 0 = λ (e : bit_and a b ≡ 0). HasUnit-zero m.0 (rw (← e) held) in
      grind (arith, nat_tests),
)

pub within_is : (a b : ℕ) → IsTrue (nat_eq (bit_or a b) b) ↔ IsWithin a b
within_is a b = (
  λ t unit h. rw (← eqb-true _ _ t) ((HasUnit-or a b unit).1 (inl h)),
  λ w. eq-eqb _ _ (same_from_units _ b (λ unit. (
    λ h. ⊎_elim (w unit) (λ (k : HasUnit b unit). k) ((HasUnit-or a b unit).0 h),
    λ h. (HasUnit-or a b unit).1 (inr h),
  ))),
)

pub meet_from_and : (a b : ℕ) → (bit_and a b ≡ 0 → ⊥) → RowsMeet a b
meet_from_and a b some =
    let found = some_unit (bit_and a b) (omega (arith, some)) in
    let both = (HasUnit-and a b found.0).0 found.1 in
    (found.0, both.0, both.1)

pub apart_from_and : (a b : ℕ) → bit_and a b ≡ 0 → RowsMeet a b → ⊥
apart_from_and a b none m = HasUnit-zero m.0 (rw none at ((HasUnit-and a b m.0).1 (m.1, m.2)))

pub within_from_or : (a b : ℕ) → bit_or a b ≡ b → IsWithin a b
within_from_or a b e unit h = rw e at ((HasUnit-or a b unit).1 (inl h))

pub or_from_within : (a b : ℕ) → IsWithin a b → bit_or a b ≡ b
or_from_within a b w = same_from_units _ b (λ unit. (
  λ h. ⊎_elim (w unit) (λ (k : HasUnit b unit). k) ((HasUnit-or a b unit).0 h),
  λ h. (HasUnit-or a b unit).1 (inr h),
))

-- the union of two rows is a row
pub or_of_rows : (a b : ℕ) → a < 2 ^ 64 → b < 2 ^ 64 → bit_or a b < 2 ^ 64
or_of_rows a b = or_lt 64 a b

pub ruleset units = (or_of_rows, HasUnit-zero, HasUnit-or, HasUnit-set, HasUnit-shr, HasUnit-below, meets_is, within_is)
