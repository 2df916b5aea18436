use Rattle.std.proofs.Common.{◌≡◌, ◌+◌, ◌≤◌, ◌++◌, length}
use Rattle.hz_altern.specs.Shapes.{pairs_of}
use Rattle.hz_description_model.specs.Reservations.Automata.{ascending}
use Rattle.hz_description_model.specs.Reservations.AlternativeLists.{IsAscending}
use Rattle.hz_altern.proofs.listing.merging.union_len.Given as goal

-- the pairs counted so far, with those of the union of what is left, are those of the union of all
abbrev pub invariant-loop-pair : goal.invariant-loop-pair
invariant-loop-pair l = record {
  counted : l.count + length (ascending (pairs_of l.rest.0.now ++ pairs_of l.rest.1.now)) ≡ length (ascending (pairs_of l.first ++ pairs_of l.second));
  few : l.count + (length l.rest.0.now + length l.rest.1.now) ≤ length l.first + length l.second;
  first : IsAscending (pairs_of l.rest.0.now);
  second : IsAscending (pairs_of l.rest.1.now);
}

abbrev pub decreases-loop-pair : goal.decreases-loop-pair
decreases-loop-pair l = length l.rest.0.now + length l.rest.1.now
