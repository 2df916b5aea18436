use Rattle.hz_reasons.specs.Calendars.{IsLaterBy}
use Rattle.hz_reasons.proofs.calendar.advance_grid.Given as goal

abbrev pub invariant-loop-cycle : goal.invariant-loop-cycle
invariant-loop-cycle l = IsLaterBy l._cycle l.initial.grid l.grid
