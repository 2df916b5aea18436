use Rattle.std.proofs.Common.{◌≡◌, ◌+◌, ◌++◌, length}
use Rattle.hz_altern.specs.Shapes.{pairs_of}
use Rattle.hz_description_model.specs.Reservations.Automata.{ascending}
use Rattle.hz_description_model.specs.Reservations.AlternativeLists.{IsAscending}
use Rattle.hz_altern.proofs.listing.merging.united.Given as goal

-- the pairs so far, with the union of what is left, are the union of all
abbrev pub invariant-loop-pair : goal.invariant-loop-pair
invariant-loop-pair l = record {
  merged : pairs_of l.pairs.items ++ ascending (pairs_of l.rest.0.now ++ pairs_of l.rest.1.now) ≡ ascending (pairs_of l.first ++ pairs_of l.second);
  first : IsAscending (pairs_of l.rest.0.now);
  second : IsAscending (pairs_of l.rest.1.now);
}

abbrev pub decreases-loop-pair : goal.decreases-loop-pair
decreases-loop-pair l = length l.rest.0.now + length l.rest.1.now
