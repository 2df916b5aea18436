use Rattle.hz_reasons.specs.Waiting.{IsSteady}
use Rattle.hz_reasons.proofs.waiting.is_steady.Given as goal

abbrev pub invariant-loop-cycle : goal.invariant-loop-cycle
invariant-loop-cycle l = IsSteady l.cycle l.grid
