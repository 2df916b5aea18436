-- Sums that no address is kept for.
use Rattle.std.proofs.Common.{◌≡◌, ℕ, Option, Some, None, refl}
use Rattle.hz_rtl.specs.declared.block.Op2.{Op2}
use Rattle.hz_rtl.specs.declared.block.Op2.TheVariants.{Plus}
use Rattle.hz_rtl.specs.Shape.{binary_operator}
use Rattle.hz_block_model.specs.Running.Operators.{plus}
use Rattle.hz_block_model.specs.Dependences.Accesses.{sum_of}

pub no_left : (right : Option ℕ) → sum_of plus None right ≡ None
no_left right = refl

pub no_right : (left : Option ℕ) → sum_of plus left None ≡ None
no_right None = refl
no_right (Some r) = refl

pub no_sum : (operator : Op2) (left right : Option ℕ) → (operator ≡ Plus → ⊥) → sum_of (binary_operator operator) left right ≡ None
no_sum Plus left right h = absurd (h refl)
no_sum _ left right h = refl
