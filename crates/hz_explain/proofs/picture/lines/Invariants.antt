use Rattle.std.proofs.Common.{◌≡◌}
use Rattle.hz_reasons.specs.Plans.{unit_of}
use Rattle.hz_explain.specs.Showing.{lines_shown}
use Rattle.hz_explain.proofs.picture.lines.Given as goal

abbrev pub invariant-loop-cycle : goal.invariant-loop-cycle
invariant-loop-cycle l = l.lines.items ≡ lines_shown l.plan l.issues l.cycle (unit_of l.unit)
