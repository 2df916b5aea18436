use Rattle.std.proofs.Common.{length}
use Rattle.hz_bound.specs.Rows.{row_at, TailsFrom}
use Rattle.hz_bound.proofs.tails.tails_of.Given as goal

abbrev pub invariant-loop-place : goal.invariant-loop-place
invariant-loop-place l = TailsFrom (row_at l.rows) (length l.rows) l.place l.tails.items
