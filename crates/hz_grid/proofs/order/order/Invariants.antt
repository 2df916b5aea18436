use Rattle.std.proofs.Common.{◌≡◌, ℕ, ◌<◌, get_or}
use Rattle.hz_grid.proofs.order.order.Given as goal

abbrev pub invariant-loop-cycle : goal.invariant-loop-cycle
invariant-loop-cycle g l = (k : ℕ) → k < l.cycle → get_or l.first k 0 ≡ get_or l.second k 0
