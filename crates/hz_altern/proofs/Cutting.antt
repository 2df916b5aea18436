-- Numbers that are reported up to a bound.
use Rattle.std.proofs.Common.{◌≡◌, ℕ, zero, suc, ◌*◌, ◌^◌, ◌<◌, ◌≤◌, min, ⊎_elim, refl, arith}
use Rattle.std.proofs.lemmas.Bool.{cases_lt}
use Rattle.std.proofs.Math.Nat.{mul-le-mul_left, pow-succ', one-le-pow, mul_comm}

-- a product is at least its first factor
factor_le : (a b : ℕ) → 0 < b → a ≤ a * b
factor_le a b h = let more = mul-le-mul_left {m = 1} {n = b} a (omega arith) in omega arith

pub cut_product : (most a b : ℕ) → 0 < most → 0 < a → 0 < b → min (min a most * min b most) most ≡ min (a * b) most
cut_product most a b m h k =
    ⊎_elim
    (λ (large : most < a).
    let e : min a most ≡ most = omega arith in
    let low = factor_le most (min b most) (omega arith) in
    let high = factor_le a b k in
    rw e (omega arith))
    (λ (small : a ≤ most). ⊎_elim
    (λ (large : most < b).
    let e : min b most ≡ most = omega arith in
    let f : min a most ≡ a = omega arith in
    let low = factor_le most a h in
    let high = factor_le b a h in
    rw (e, f) (omega (arith, mul_comm a most, mul_comm a b)))
    (λ (less : b ≤ most).
    let e : min b most ≡ b = omega arith in
    let f : min a most ≡ a = omega arith in
    rw (e, f) refl)
    (cases_lt most b))
    (cases_lt most a)

-- a power is at least its base
base_le : (a n : ℕ) → 0 < a → 1 ≤ n → a ≤ a ^ n
base_le a zero h k = absurd (omega arith)
base_le a (suc n) h k = rw (pow-succ' a n) (factor_le a (a ^ n) (one-le-pow n a h))

pub cut_power : (most a n : ℕ) → 0 < most → 0 < a → 1 ≤ n → min (min a most ^ n) most ≡ min (a ^ n) most
cut_power most a n m h k =
    ⊎_elim
    (λ (large : most < a).
    let e : min a most ≡ most = omega arith in
    let low = base_le most n m k in
    let high = base_le a n h k in
    rw e (omega arith))
    (λ (small : a ≤ most).
    let e : min a most ≡ a = omega arith in
    rw e refl)
    (cases_lt most a)

pub cut_times : (most a n : ℕ) → 1 ≤ n → min (min a most * n) most ≡ min (a * n) most
cut_times most a n k =
    ⊎_elim
    (λ (large : most < a).
    let e : min a most ≡ most = omega arith in
    let low = factor_le most n k in
    let high = factor_le a n k in
    rw e (omega arith))
    (λ (small : a ≤ most).
    let e : min a most ≡ a = omega arith in
    rw e refl)
    (cases_lt most a)
