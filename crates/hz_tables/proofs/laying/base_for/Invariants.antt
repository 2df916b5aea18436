use Rattle.std.proofs.Common.{◌≡◌, length}
use Rattle.hz_tables.proofs.laying.base_for.Given as goal

abbrev pub invariant-loop-base : goal.invariant-loop-base
invariant-loop-base l = l.end ≡ length l.owners
