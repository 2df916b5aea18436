use Rattle.hz_reasons.specs.Waiting.{HaveWaited}
use Rattle.hz_reasons.proofs.waiting.least_wait.Given as goal

abbrev pub invariant-loop-cycle : goal.invariant-loop-cycle
invariant-loop-cycle l = HaveWaited l.plan l.class l.cycle l.fn.entries l.entries
