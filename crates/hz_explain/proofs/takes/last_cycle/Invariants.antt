use Rattle.std.proofs.Common.{◌≡◌, ◌<◌, ◌-◌}
use Rattle.hz_reasons.specs.Plans.{unit_of}
use Rattle.hz_explain.specs.Taking.{runs_to}
use Rattle.hz_explain.proofs.takes.last_cycle.Given as goal

abbrev pub invariant-loop-unit : goal.invariant-loop-unit
invariant-loop-unit l = record {
  low : l.last < 65536;
  come : runs_to l.parts l.cycles (unit_of l.unit) l.last ≡ runs_to l.parts l.cycles (unit_of l.unit) l.fn.pair.cycle;
}

abbrev pub decreases-loop-unit : goal.decreases-loop-unit
decreases-loop-unit l = l.cycles - l.last
