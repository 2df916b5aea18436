use Rattle.std.proofs.Common.{◌≡◌, map, drop}
use Rattle.std.specs.Prelude.{max}
use Rattle.hz_measure_model.specs.Bounds.Paths.{greatest}
use Rattle.hz_bound.specs.Rows.{sum_of}
use Rattle.hz_bound.proofs.tails.tail_of.Given as goal

-- the greatest so far, with that of the edges that are left, is that of all
abbrev pub invariant-loop-edge : goal.invariant-loop-edge
invariant-loop-edge l = max l.tail (greatest (map (sum_of l.tails) (drop l.edge-index l.row))) ≡ greatest (map (sum_of l.tails) l.row)
