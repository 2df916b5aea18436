use Rattle.std.proofs.Common.{◌≡◌, ◌==◌, ◌+◌, ◌++◌, drop, map}
use Rattle.std.specs.Prelude.{slice_index}
use Rattle.hz_depend.specs.Numbers.{numbers_in}
use Rattle.hz_depend.specs.GraphShape.{edge_of}
use Rattle.hz_depend.specs.Held.{held, found_among}
use Rattle.hz_depend.proofs.building.edges.add_edges.Given as goal

-- the edges so far, with those from the instructions that are left, are all of them
abbrev pub invariant-loop-place : goal.invariant-loop-place
invariant-loop-place l =
    map edge_of l.edges.items ++ found_among (λ i. slice_index l.stamps i == l.to + 1) (slice_index l.last) (numbers_in l.numbers) l.to (held l.second) l.place (map held (drop l.place l.firsts))
    ≡ map edge_of l.initial.edges.items ++ found_among (λ i. slice_index l.stamps i == l.to + 1) (slice_index l.last) (numbers_in l.numbers) l.to (held l.second) 0 (map held l.firsts)
