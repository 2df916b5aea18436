use Rattle.hz_reasons.specs.Calendars.{IsMovedUpTo}
use Rattle.hz_reasons.proofs.calendar.advance_grids.Given as goal

abbrev pub invariant-loop-grid : goal.invariant-loop-grid
invariant-loop-grid l = IsMovedUpTo l.cycles l.grid-index l.initial.grids l.grids
