use Rattle.std.proofs.Common.{◌≡◌, ◌++◌, take, map}
use Rattle.hz_measure_model.specs.TwoContexts.Joining as model
use Rattle.hz_depend.specs.GraphShape.{edge_of}
use Rattle.hz_duo.proofs.joining.edges_of.Given as goal

-- the edges of the first, and those of the second so far
abbrev pub invariant-loop-edge : goal.invariant-loop-edge
invariant-loop-edge l = map edge_of l.edges.items ≡ map edge_of l.first ++ map (model.raised l.by) (map edge_of (take l.edge-index l.second))
