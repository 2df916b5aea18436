use Rattle.std.proofs.Common.{ℕ, ◌<◌, get_or, false}
use Rattle.hz_reasons.specs.Frontiers.{Grids}
use Rattle.hz_reasons.specs.Waiting.{FitsSome}
use Rattle.hz_reasons.proofs.waiting.fits_any.Given as goal

abbrev pub invariant-loop-entry : goal.invariant-loop-entry
invariant-loop-entry l = (k : ℕ) → k < l.entry-index → (d : Grids) → FitsSome l.plan.rules.items l.choices (get_or l.entries k d) false
