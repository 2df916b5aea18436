use Rattle.std.proofs.Common.{◌≡◌, drop, map}
use Rattle.hz_depend.specs.GraphShape.{edge_of}
use Rattle.hz_depend.specs.Relaxing.{relaxed}
use Rattle.hz_depend.proofs.building.heights.sums_of.Given as goal

-- the sums by the edges from the turn on
abbrev pub invariant-loop-k : goal.invariant-loop-k
invariant-loop-k l = l.sums.items ≡ relaxed (map (λ n. n.latency) l.nodes) (map edge_of (drop l.k l.edges))
