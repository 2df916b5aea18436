use Rattle.std.proofs.Common.{ℕ, ◌<◌}
use Rattle.hz_unitsets.specs.RowRules.{FitsAt}
use Rattle.hz_unitsets.proofs.rules.Rules.fits.Given as goal

-- the pairs of each cycle so far fit
abbrev pub invariant-loop-cycle : goal.invariant-loop-cycle
invariant-loop-cycle l = (k : ℕ) → k < l.cycle → FitsAt l.self l.source l.add k
