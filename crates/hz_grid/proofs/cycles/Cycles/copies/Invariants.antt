use Rattle.std.proofs.Common.{◌-◌, ◌↔◌, ◌<◌, ◌≤◌, ℕ}
use Rattle.hz_grid.specs.Sets.{HasCycle, IsCopied}
use Rattle.hz_grid.proofs.cycles.Cycles.copies.Given as goal

-- so many copies are made, one or more
abbrev pub invariant-loop-made : goal.invariant-loop-made
invariant-loop-made l = record {
  some : 0 < l.made;
  within : l.made ≤ l.times;
  copies : (cycle : ℕ) → HasCycle l.copies cycle ↔ IsCopied l.fn.self l.made l.apart cycle;
}

abbrev pub decreases-loop-made : goal.decreases-loop-made
decreases-loop-made l = l.times - l.made
