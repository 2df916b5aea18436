use Rattle.std.proofs.Common.{◌≡◌, max, map, drop, length}
use Rattle.std.specs.Prelude.{slice_index}
use Rattle.hz_depend.specs.GraphShape.{edge_of}
use Rattle.hz_modulo.specs.Costs.{least_of}
use Rattle.hz_modulo.proofs.costs.least_of_costs.Given as goal

-- the greatest so far, with that of what is left, is that of all
abbrev pub invariant-loop-edge : goal.invariant-loop-edge
invariant-loop-edge l = record {
  least : max l.least (least_of (length l.cycles) (slice_index l.cycles) (map edge_of (drop l.edge-index l.edges))) ≡ least_of (length l.cycles) (slice_index l.cycles) (map edge_of l.edges);
}
