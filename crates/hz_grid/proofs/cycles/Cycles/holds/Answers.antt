use Rattle.std.proofs.Common.{arith}
use Rattle.std.proofs.lemmas.Bool.Decides.{nat_tests}
use Rattle.hz_grid.proofs.SetLemmas.{HasCycle-below, cycle_of_words}
use Rattle.hz_grid.proofs.cycles.Cycles.holds.Goals as goal

pub returns-then-cycle-lt-CYCLES : goal.returns-then-cycle-lt-CYCLES
returns-then-cycle-lt-CYCLES c =
    let held = cycle_of_words c.args.self.words c.args.cycle in
    (λ t. held.1 (c.if-cycle-lt-CYCLES.true, c.holds.ensures.0 t), λ h. c.holds.ensures.1 (held.0 h).1)

pub returns-else-cycle-lt-CYCLES : goal.returns-else-cycle-lt-CYCLES
returns-else-cycle-lt-CYCLES c = (
  λ t. absurd (grind (arith, nat_tests)),
  λ h. absurd (omega (arith, HasCycle-below c.args.self c.args.cycle h)),
)
