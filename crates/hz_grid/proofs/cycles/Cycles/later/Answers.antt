use Rattle.std.proofs.Common.{arith}
use Rattle.hz_grid.proofs.SetLemmas.{later_near}
use Rattle.hz_grid.proofs.cycles.Cycles.later.Goals as goal

pub returns-then-cycles-lt-CYCLES : goal.returns-then-cycles-lt-CYCLES
returns-then-cycles-lt-CYCLES c =
    later_near c.args.self.words c.raise.new.raised c.args.cycles (λ unit lt. c.raise.ensures.units unit (omega (arith, lt)))
