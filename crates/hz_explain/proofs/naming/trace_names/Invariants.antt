use Rattle.std.proofs.Common.{◌≡◌, map, take}
use Rattle.hz_checked.specs.Shape.{automaton_of}
use Rattle.hz_description_model.specs.Check.CheckedShape.{ask_names}
use Rattle.hz_description_model.specs.Check.Places.{class_names}
use Rattle.hz_mdread.specs.Shape.{description}
use Rattle.hz_explain.proofs.naming.trace_names.Given as goal

abbrev pub invariant-loop-automaton : goal.invariant-loop-automaton
invariant-loop-automaton l = l.names ≡ record { classes = class_names (description l.desc); queries = map ask_names (map automaton_of (take l.automaton-index l.automaton-items)) }
