-- What the words of a set say of its cycles.
use Rattle.std.proofs.Common.{◌≡◌, ℕ, ◌+◌, ◌-◌, ◌*◌, ◌<◌, ◌≤◌, ◌↔◌, ◌⊎◌, inl, inr, ⊎_elim, List, length, min, replicate, refl, sym, ap, arith}
use Rattle.std.proofs.lemmas.Bool.{cases_lt}
use Rattle.std.proofs.lemmas.Bool.Decides.{nat_tests}
use Rattle.std.proofs.Math.Nat.{add-mul}
use Rattle.hz_grid.specs.declared.cycles.Cycles.{Cycles}
use Rattle.hz_grid.specs.Rows.{HasUnit}
use Rattle.hz_grid.specs.Words.{row_of, IsRaised}
use Rattle.hz_grid.specs.Sets.{has_cycle, HasCycle, IsLater, IsCopied}
use Rattle.hz_grid.proofs.Units.{HasUnit-zero}
use Rattle.hz_grid.proofs.WordLemmas.{row_of-zeros}

-- ---- by words

pub cycle_of_words : (words : List ℕ) (cycle : ℕ) → HasCycle (record { words = words }) cycle ↔ ((cycle < 512) × HasUnit (row_of words) cycle)
unfolding has_cycle
cycle_of_words words cycle = (λ h. (grind (arith, nat_tests), grind (arith, nat_tests)), λ h. grind (arith, nat_tests))

pub HasCycle-below : (cycles : Cycles) (cycle : ℕ) → HasCycle cycles cycle → cycle < 512
HasCycle-below cycles cycle h = ((cycle_of_words cycles.words cycle).0 h).0

-- ---- the calls

pub no_cycle : (count cycle : ℕ) → HasCycle (record { words = replicate count 0 }) cycle → ⊥
no_cycle count cycle h = HasUnit-zero cycle (rw (row_of-zeros count) at ((cycle_of_words (replicate count 0) cycle).0 h).1)

pub with_cycle : (old new : List ℕ) (cycle : ℕ) → cycle < 512
    → ((unit : ℕ) → HasUnit (row_of new) unit ↔ (HasUnit (row_of old) unit ⊎ (unit ≡ cycle)))
    → (other : ℕ) → HasCycle (record { words = new }) other ↔ (HasCycle (record { words = old }) other ⊎ (other ≡ cycle))
with_cycle old new cycle small gained other =
    let after = cycle_of_words new other in
    let before = cycle_of_words old other in (
      λ h.
          let (lt, k) = after.0 h in
          ⊎_elim (λ (b : HasUnit (row_of old) other). inl (before.1 (lt, b))) (λ (e : other ≡ cycle). inr e) ((gained other).0 k),
      ⊎_elim
          (λ (h : HasCycle (record { words = old }) other). let (lt, k) = before.0 h in after.1 (lt, (gained other).1 (inl k)))
          (λ (e : other ≡ cycle). after.1 (omega (arith, e, small), (gained other).1 (inr e))),
    )

pub joined : (first second both : List ℕ)
    → ((unit : ℕ) → HasUnit (row_of both) unit ↔ (HasUnit (row_of first) unit ⊎ HasUnit (row_of second) unit))
    → (cycle : ℕ) → HasCycle (record { words = both }) cycle ↔ (HasCycle (record { words = first }) cycle ⊎ HasCycle (record { words = second }) cycle)
joined first second both are cycle =
    let of_both = cycle_of_words both cycle in
    let of_first = cycle_of_words first cycle in
    let of_second = cycle_of_words second cycle in (
      λ h.
          let (lt, k) = of_both.0 h in
          ⊎_elim (λ (b : HasUnit (row_of first) cycle). inl (of_first.1 (lt, b))) (λ (b : HasUnit (row_of second) cycle). inr (of_second.1 (lt, b))) ((are cycle).0 k),
      ⊎_elim
          (λ (h : HasCycle (record { words = first }) cycle). let (lt, k) = of_first.0 h in of_both.1 (lt, (are cycle).1 (inl k)))
          (λ (h : HasCycle (record { words = second }) cycle). let (lt, k) = of_second.0 h in of_both.1 (lt, (are cycle).1 (inr k))),
    )

-- a set without a cycle has no bit of its eight words
pub empty_words : (words : List ℕ) → length words ≡ 8 → ((unit : ℕ) → unit < 64 * length words → HasUnit (row_of words) unit → ⊥) ↔ ((cycle : ℕ) → HasCycle (record { words = words }) cycle → ⊥)
empty_words words eight = (
  λ without cycle h. let (lt, k) = (cycle_of_words words cycle).0 h in without cycle (omega (arith, lt, eight)) k,
  λ without unit lt h. without unit ((cycle_of_words words unit).1 (omega (arith, lt, eight), h)),
)

-- ---- so many later

-- the place before a number of cycles
came : (later cycle : ℕ) → later ≤ cycle → cycle ≡ later + (cycle - later)
came later cycle le = omega arith

pub later_past : (cycles : Cycles) (later cycle : ℕ) → 512 ≤ later → IsLater cycles later cycle → ⊥
later_past cycles later cycle far is = omega (arith, is.0, is.3)

pub later_near : (words moved : List ℕ) (later : ℕ)
    → ((unit : ℕ) → unit < 512 → HasUnit (row_of moved) unit ↔ IsRaised (row_of words) later unit)
    → (cycle : ℕ) → HasCycle (record { words = moved }) cycle ↔ IsLater (record { words = words }) later cycle
later_near words moved later raised cycle = (
  λ h.
      let (lt, k) = (cycle_of_words moved cycle).0 h in
      let (le, there) = (raised cycle lt).0 k in
      (lt, cycle - later, (cycle_of_words words (cycle - later)).1 (omega (arith, lt), there), came later cycle le),
  λ is.
      let (lt, earlier, held, at) = is in
      let back : earlier ≡ cycle - later = omega (arith, at) in
      (cycle_of_words moved cycle).1 (lt, (raised cycle lt).1 (omega (arith, at), rw back at ((cycle_of_words words earlier).0 held).1)),
)

-- ---- copies

pub copies_once : (cycles : Cycles) (apart cycle : ℕ) → HasCycle cycles cycle ↔ IsCopied cycles 1 apart cycle
copies_once cycles apart cycle = (
  λ h. (HasCycle-below cycles cycle h, 0, omega arith, cycle, h, omega arith),
  λ is.
      let first : is.1 ≡ 0 = omega (arith, is.2) in
      let none : is.1 * apart ≡ 0 * apart = ap (λ copy. copy * apart) first in
      let same : is.3 ≡ cycle = omega (arith, is.5) in
      rw (← same) is.4,
)

-- what drops from after the last cycle is reported by a number of cycles, or by any one from 512 on
abbrev pub IsAsFar : ℕ → ℕ → Type 0
IsAsFar a b = (a ≡ b) ⊎ ((512 ≤ a) × (512 ≤ b))

later_as_far : (cycles : Cycles) (a b cycle : ℕ) → IsAsFar a b → IsLater cycles a cycle → IsLater cycles b cycle
later_as_far cycles a b cycle (inl e) is = rw (← e) is
later_as_far cycles a b cycle (inr far) is = absurd (later_past cycles a cycle far.0 is)

-- made copies, and the same ones after no more of them than were made, are made and more copies
pub copies_more : (cycles made moved both : Cycles) (count more apart far : ℕ) → more ≤ count → IsAsFar far (more * apart)
    → ((cycle : ℕ) → HasCycle made cycle ↔ IsCopied cycles count apart cycle)
    → ((cycle : ℕ) → HasCycle moved cycle ↔ IsLater made far cycle)
    → ((cycle : ℕ) → HasCycle both cycle ↔ (HasCycle made cycle ⊎ HasCycle moved cycle))
    → (cycle : ℕ) → HasCycle both cycle ↔ IsCopied cycles (count + more) apart cycle
copies_more cycles made moved both count more apart far few as_far are later of_both cycle = (
  λ h. ⊎_elim
      (λ (k : HasCycle made cycle).
      let is = (are cycle).0 k in
      (is.0, is.1, omega (arith, is.2), is.3, is.4, is.5))
      (λ (k : HasCycle moved cycle).
      let beyond = later_as_far made far (more * apart) cycle as_far ((later cycle).0 k) in
      let is = (are beyond.1).0 beyond.2 in
      let sum : (more + is.1) * apart ≡ more * apart + is.1 * apart = add-mul more is.1 apart in
      (beyond.0, more + is.1, omega (arith, is.2), is.3, is.4, omega (arith, is.5, beyond.3)))
      ((of_both cycle).0 h),
  λ is. (of_both cycle).1 (⊎_elim
      (λ (lt : is.1 < count). inl ((are cycle).1 (is.0, is.1, lt, is.3, is.4, is.5)))
      (λ (le : count ≤ is.1).
      let before = is.1 - more in
      let place = before * apart + is.3 in
      let sum : (more + before) * apart ≡ more * apart + before * apart = add-mul more before apart in
      let whole : is.1 * apart ≡ (more + before) * apart = ap (λ copy. copy * apart) (came more is.1 (omega arith)) in
      let at : cycle ≡ more * apart + place = omega (arith, is.5) in
      let in_made : HasCycle made place = (are place).1 (omega (arith, is.0), before, omega (arith, is.2), is.3, is.4, refl) in
      inr ((later cycle).1 (later_as_far made (more * apart) far cycle (opposite as_far) (is.0, place, in_made, at))))
      (cases_lt is.1 count)),
)
  where
    opposite : IsAsFar far (more * apart) → IsAsFar (more * apart) far
    opposite (inl e) = inl (sym e)
    opposite (inr both_far) = inr (both_far.1, both_far.0)

-- a product that was cut off at the greatest number of 32 bits is past the last cycle too
pub as_far_cut : (product : ℕ) → IsAsFar (min product 4294967295) product
as_far_cut product =
    ⊎_elim
    (λ (lt : product < 4294967295). inl (omega arith))
    (λ (le : 4294967295 ≤ product). inr (omega arith, omega arith))
    (cases_lt product 4294967295)
