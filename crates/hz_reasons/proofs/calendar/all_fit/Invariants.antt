use Rattle.std.proofs.Common.{ℕ, ◌<◌}
use Rattle.hz_description_model.specs.Reservations.Sets.{Fits}
use Rattle.hz_reasons.specs.Calendars.{at}
use Rattle.hz_reasons.proofs.calendar.all_fit.Given as goal

abbrev pub invariant-loop-automaton : goal.invariant-loop-automaton
invariant-loop-automaton l = (a : ℕ) → a < l.automaton → Fits (at l.rules a) (at l.grids a) (at l.parts a) 0
