use Rattle.std.proofs.Common.{ℕ, ◌<◌}
use Rattle.hz_reasons.specs.Calendars.{at}
use Rattle.hz_reasons.specs.Waiting.{IsSteady}
use Rattle.hz_reasons.proofs.waiting.are_steady.Given as goal

abbrev pub invariant-loop-grid : goal.invariant-loop-grid
invariant-loop-grid l = (a : ℕ) → a < l.grid-index → IsSteady l.cycles (at l.grids a)
