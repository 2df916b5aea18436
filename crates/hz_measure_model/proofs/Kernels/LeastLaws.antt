-- There is one kernel, and where some interval repeats there is one.
use Rattle.std.proofs.Common.{◌≡◌, ℕ, suc, ◌-◌, ◌<◌, ◌≤◌, ⊎_elim, List, subst, arith}
use Rattle.std.proofs.lemmas.Bool.{cases_lt}
use Rattle.hz_block_model.specs.Running.Blocks.{Instruction}
use Rattle.hz_block_model.specs.Dependences.Dependences.{Timing}
use Rattle.hz_pipeline_model.specs.Tables.Machines.{Machine}
use Rattle.hz_block_model.specs.Scheduling.Schedules.{Graph, Slot}
use Rattle.hz_measure_model.specs.Kernels.Repeats.{Repeats, IsKernel}
use Rattle.hz_measure_model.proofs.Kernels.TellLaws.{IsLeast, least_reported, RepeatsSoon, soon_reported, soon_from, one_pair}

module _ (m : Machine) (body : List Instruction) (t : Timing) (g : Graph) (slots : List Slot) where
  pub one_kernel : (i a b j c d : ℕ) → IsKernel m body t g slots i a b → IsKernel m body t g slots j c d → (i ≡ j) × (a ≡ c) × (b ≡ d)
  one_kernel i a b j c d one other = ⊎_elim
      (λ (lt : i < j). absurd (other.least i a b one.some lt one.repeats))
      (λ (ge : j ≤ i). ⊎_elim
      (λ (lt : j < i). absurd (one.least j c d other.some lt other.repeats))
      (λ (le : i ≤ j). let same : i ≡ j = omega arith in
      let pair = one_pair m body t g slots j a b c d (subst (λ (k : ℕ). Repeats m body t g slots k a b) same one.repeats) other.repeats in (same, pair.0, pair.1))
      (cases_lt j i))
      (cases_lt i j)

  -- where an interval repeats there is a kernel, which is no longer
  pub some_kernel : (interval first second : ℕ) → 1 ≤ interval → Repeats m body t g slots interval first second → (i : ℕ) × (a : ℕ) × (b : ℕ) × IsKernel m body t g slots i a b
  some_kernel interval first second some repeats = ⊎_elim
      (λ (found : IsLeast (λ k. RepeatsSoon m body t g slots (suc k)) interval).
      let r = found.holds in (
        suc found.number,
        r.2.0,
        r.0,
        record {
          some = omega arith;
          repeats = r.2.2;
          least = λ shorter c d low lt also. let before : shorter ≡ suc (shorter - 1) = omega arith in
              found.least (shorter - 1) (omega arith) (subst (RepeatsSoon m body t g slots) before (soon_from m body t g slots shorter c d also));
        },
      ))
      (λ (none : (k : ℕ) → k < interval → RepeatsSoon m body t g slots (suc k) → ⊥).
      let before : interval ≡ suc (interval - 1) = omega arith in
      absurd (none (interval - 1) (omega arith) (subst (RepeatsSoon m body t g slots) before (soon_from m body t g slots interval first second repeats))))
      (least_reported (λ k. RepeatsSoon m body t g slots (suc k)) (λ k. soon_reported m body t g slots (suc k)) interval)
