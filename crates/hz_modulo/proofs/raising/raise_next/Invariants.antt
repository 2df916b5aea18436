use Rattle.std.proofs.Common.{◌≡◌, length}
use Rattle.hz_modulo.proofs.raising.raise_next.Given as goal

abbrev pub invariant-loop-class : goal.invariant-loop-class
invariant-loop-class g l = length l.heights ≡ length l.initial.heights
