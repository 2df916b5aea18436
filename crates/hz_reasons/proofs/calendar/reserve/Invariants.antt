use Rattle.hz_reasons.specs.Calendars.{IsUnitedUpTo}
use Rattle.hz_reasons.proofs.calendar.reserve.Given as goal

abbrev pub invariant-loop-automaton : goal.invariant-loop-automaton
invariant-loop-automaton l = IsUnitedUpTo l.automaton l.initial.grids.items l.parts l.grids.items
