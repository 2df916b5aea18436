-- The search from one interval on.
use Rattle.std.proofs.Common.{◌≡◌, ℕ, ◌+◌, ◌<◌, ◌≤◌, List, Option, Some, None, ⊎_elim, sym, subst, arith}
use Rattle.std.specs.Prelude.{IfNone, IfSome, max}
use Rattle.std.proofs.lemmas.Bool.{cases_lt}
use Rattle.hz_pipeline_model.specs.Tables.Machines.{Machine}
use Rattle.hz_block_model.specs.Scheduling.Schedules.{Graph, Slot}
use Rattle.hz_modulo.specs.Kernels.{RepeatsIn, IsKernelAt, IsFirstFrom, IsRoomyFrom}
use Rattle.hz_modulo.specs.Heights.{LeavesRoom, IsLow}
use Rattle.hz_modulo.specs.Walking.{graph_of}
use Rattle.hz_modulo.specs.declared.parts.Kernel.{Kernel}

pub if_none : {T : Type 0} (o : Option T) (P : Type 0) → o ≡ None → IfNone o P → P
if_none None P e h = h
if_none (Some x) P e h = absurd (cc)

pub if_some : {T : Type 0} (o : Option T) (P : T → Type 0) (x : T) → o ≡ Some x → IfSome o P → P x
if_some {T} o P x e h = subst (λ (o : Option T). IfSome o P) e h

-- what fails below a number and at it
pub none_yet : (P : ℕ → ℕ → ℕ → Type 0) (first n : ℕ) → ((k : ℕ) → first ≤ k → k < n → (a b : ℕ) → P k a b → ⊥) → ((a b : ℕ) → P n a b → ⊥) → (k : ℕ) → first ≤ k → k < n + 1 → (a b : ℕ) → P k a b → ⊥
none_yet P first n before here k low lt a b p = ⊎_elim
    (λ (less : k < n). before k low less a b p)
    (λ (le : n ≤ k). let is : k ≡ n = omega arith in here a b (subst (λ (i : ℕ). P i a b) is p))
    (cases_lt k n)

-- the kernel at an interval before which none repeats
pub is_first : (m : Machine) (g : Graph) (slots : List Slot) (first interval : ℕ) (k : Kernel) → first ≤ interval → ((shorter : ℕ) → first ≤ shorter → shorter < interval → (a b : ℕ) → RepeatsIn m g slots shorter a b → ⊥)
    → IsKernelAt m g slots interval k → IsFirstFrom m g slots first k
is_first m g slots first interval k low before at = record {
  from = subst (λ (n : ℕ). first ≤ n) (sym at.at) low;
  is = subst (λ (n : ℕ). IsKernelAt m g slots n k) (sym at.at) at;
  none = λ shorter le lt. before shorter le (subst (λ (n : ℕ). shorter < n) at.at lt);
}

-- ---- intervals that leave room

-- the search may begin at the greater of both
module _ (m : Machine) (classes : List ℕ) (first least begin : ℕ) (is : begin ≡ max first least) (low : IsLow m classes least) where
  pub near_both : (last : ℕ) → LeavesRoom m classes (last + 1000) → first ≤ last + 1000 → begin ≤ last + 1000
  near_both last leaves near = let le = low.low (last + 1000) leaves in omega (arith, is, le, near)

  pub is_roomy : (slots : List Slot) (k : Kernel) → IsFirstFrom m (graph_of classes) slots begin k → IsRoomyFrom m classes slots first k
  is_roomy slots k x = record {
    from = let le = x.from in omega (arith, is, le);
    is = x.is;
    none = λ shorter from lt leaves a b r. let le = low.low shorter leaves in x.none shorter (omega (arith, is, from, le)) lt a b r;
  }
