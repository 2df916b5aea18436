use Rattle.std.proofs.Common.{take}
use Rattle.std.specs.Prelude.{All, IsTrue}
use Rattle.hz_base_model.specs.Names.{is_name}
use Rattle.hz_tabfile.proofs.writing.ranges.are_units.Given as goal

abbrev pub invariant-loop-automaton : goal.invariant-loop-automaton
invariant-loop-automaton l = All (λ automaton. All (λ name. IsTrue (is_name name)) automaton.units.items) (take l.automaton-index l.automata)
