use Rattle.std.proofs.Common.{◌≡◌, take}
use Rattle.hz_altern.specs.Cuts.{cuts_of}
use Rattle.hz_altern.specs.Shapes.{alternatives}
use Rattle.hz_description_model.specs.Reservations.Automata.{list_in}
use Rattle.hz_altern.proofs.projecting.project.Given as goal

-- the grids so far, and their pairs
abbrev pub invariant-loop-alt : goal.invariant-loop-alt
invariant-loop-alt l = record {
  grids : l.grids.items ≡ list_in l.automaton (alternatives (take l.alt-index l.alts));
  seen : cuts_of l.seen.keys ≡ list_in l.automaton (alternatives (take l.alt-index l.alts));
}
