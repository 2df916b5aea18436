use Rattle.std.proofs.Common.{◌≡◌, length}
use Rattle.hz_modulo.proofs.raising.raised.Given as goal

abbrev pub invariant-loop-pass : goal.invariant-loop-pass
invariant-loop-pass g l = length l.heights.items ≡ l.states
