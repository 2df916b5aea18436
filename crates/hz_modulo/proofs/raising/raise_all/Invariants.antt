use Rattle.std.proofs.Common.{◌≡◌, length}
use Rattle.hz_modulo.proofs.raising.raise_all.Given as goal

abbrev pub invariant-loop-state : goal.invariant-loop-state
invariant-loop-state g l = length l.heights ≡ length l.initial.heights
