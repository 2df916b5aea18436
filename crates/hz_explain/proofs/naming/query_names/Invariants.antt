use Rattle.std.proofs.Common.{◌≡◌, map, take}
use Rattle.hz_checked.specs.Shape.{automaton_of}
use Rattle.hz_description_model.specs.Check.CheckedShape.{ask_names}
use Rattle.hz_explain.specs.Answering.{names_at}
use Rattle.hz_explain.proofs.naming.query_names.Given as goal

abbrev pub invariant-loop-automaton : goal.invariant-loop-automaton
invariant-loop-automaton l = names_at l.all.items ≡ map (λ a. ask_names (automaton_of a)) (take l.automaton-index l.automata)
