use Rattle.std.proofs.Common.{All, Contains, take}
use Rattle.hz_modulo.proofs.loads.are_among.Given as goal

-- those so far are
abbrev pub invariant-loop-number : goal.invariant-loop-number
invariant-loop-number l = All (λ n. Contains l.others n) (take l.number-index l.numbers)
