use Rattle.std.proofs.Common.{ℕ, ◌<◌}
use Rattle.hz_reasons.specs.Calendars.{AllFit, parts_at}
use Rattle.hz_reasons.proofs.calendar.first_fitting.Given as goal

abbrev pub invariant-loop-number : goal.invariant-loop-number
invariant-loop-number l = (i : ℕ) → i < l.number → AllFit l.rules l.grids (parts_at l.choices i) → ⊥
