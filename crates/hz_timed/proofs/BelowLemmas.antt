-- The last number below another that passes.
use Rattle.std.proofs.Common.{◌≡◌, ℕ, zero, suc, ◌<◌, ◌≤◌, Bool, true, false, ◌&&◌, cond, ⊎_elim, Option, Some, None, refl, sym, ap, ◌∙◌, arith}
use Rattle.std.proofs.Math.Bool.{and-false}
use Rattle.std.proofs.lemmas.Bool.{cases_lt}
use Rattle.hz_timed.specs.Writes.{last_below}

pub same_below : (f g : ℕ → Bool) (n : ℕ) → ((k : ℕ) → k < n → f k ≡ g k) → last_below f n ≡ last_below g n
same_below f g zero h = refl
same_below f g (suc n) h =
    ap (λ (b : Bool). cond b (Some n) (last_below f n)) (h n (omega arith))
    ∙ ap (λ (o : Option ℕ). cond (g n) (Some n) o) (same_below f g n (λ k lt. h k (omega arith)))

some_is : (a b : ℕ) → Some a ≡ Some b → a ≡ b
some_is a b e = cc

pub last_is_below : (f : ℕ → Bool) (n k : ℕ) → last_below f n ≡ Some k → k < n
last_is_below f zero k e = absurd (cc)
last_is_below f (suc n) k e = go (f n) e (last_is_below f n k)
  where
    go : (b : Bool) → cond b (Some n) (last_below f n) ≡ Some k → (last_below f n ≡ Some k → k < n) → k < suc n
    go true h further = let same = some_is n k h in omega arith
    go false h further = let lt = further h in omega arith

pub last_passes : (f : ℕ → Bool) (n k : ℕ) → last_below f n ≡ Some k → f k ≡ true
last_passes f zero k e = absurd (cc)
last_passes f (suc n) k e = go (f n) refl e (last_passes f n k)
  where
    go : (b : Bool) → f n ≡ b → cond b (Some n) (last_below f n) ≡ Some k → (last_below f n ≡ Some k → f k ≡ true) → f k ≡ true
    go true is h further = ap f (sym (some_is n k h)) ∙ is
    go false is h further = further h

-- from a number on, if there is one
abbrev pub from_there : (ℕ → Bool) → Option ℕ → Option ℕ
from_there f None = None
from_there f (Some k) = last_below f (suc k)

-- what passes two tests is looked for among what passes the second
pub among : (ripe at : ℕ → Bool) (n : ℕ) → last_below (λ k. ripe k && at k) n ≡ from_there (λ k. ripe k && at k) (last_below at n)
among ripe at zero = refl
among ripe at (suc n) = go (at n) refl (among ripe at n)
  where
    go : (b : Bool) → at n ≡ b → last_below (λ k. ripe k && at k) n ≡ from_there (λ k. ripe k && at k) (last_below at n)
        → last_below (λ k. ripe k && at k) (suc n) ≡ from_there (λ k. ripe k && at k) (cond b (Some n) (last_below at n))
    go true is h = refl
    go false is h =
        ap (λ (b : Bool). cond (ripe n && b) (Some n) (last_below (λ k. ripe k && at k) n)) is
        ∙ (ap (λ (b : Bool). cond b (Some n) (last_below (λ k. ripe k && at k) n)) (and-false (ripe n)) ∙ h)
