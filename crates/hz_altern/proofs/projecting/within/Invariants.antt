use Rattle.std.proofs.Common.{◌≡◌, map, filter, take}
use Rattle.hz_altern.specs.Cuts.{within_pairs}
use Rattle.hz_altern.specs.Shapes.{pairs_of}
use Rattle.hz_description_model.specs.Reservations.Automata.{inside, is_of}
use Rattle.hz_altern.proofs.projecting.within.Given as goal

-- the automaton's pairs so far
abbrev pub invariant-loop-pair : goal.invariant-loop-pair
invariant-loop-pair l = within_pairs l.within.items ≡ map inside (filter (is_of l.automaton) (pairs_of (take l.pair-index l.pairs)))
