use Rattle.std.proofs.Common.{ℕ, ◌<◌, All}
use Rattle.hz_modulo.proofs.loads.once_each.Given as goal

-- none is above all
abbrev pub invariant-loop-class : goal.invariant-loop-class
invariant-loop-class l = (count : ℕ) → All (λ c. c < count) l.classes → All (λ c. c < count) l.once.items
