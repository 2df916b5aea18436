use Rattle.std.proofs.Common.{◌≡◌, drop}
use Rattle.std.specs.Prelude.{None}
use Rattle.hz_bound.specs.Rows.{least_in}
use Rattle.hz_bound.proofs.chain.next_of.Given as goal

abbrev pub invariant-loop-edge : goal.invariant-loop-edge
invariant-loop-edge l = least_in l.tails l.tail (drop l.edge-index l.row) l.next ≡ least_in l.tails l.tail l.row None
