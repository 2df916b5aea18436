use Rattle.std.proofs.Common.{map, ap, sym, ◌∙◌, arith}
use Rattle.std.proofs.lemmas.List.{take_all}
use Rattle.hz_checked.specs.Shape.{automaton_of}
use Rattle.hz_description_model.specs.Check.CheckedShape.{ask_names}
use Rattle.hz_reasons.proofs.PlanLaws.{map_twice}
use Rattle.hz_explain.proofs.naming.query_names.Goals as goal

pub returns : goal.returns
returns c =
    c.loop-automaton.invariant
    ∙ ap (map (λ a. ask_names (automaton_of a))) (take_all c.loop-automaton.automaton-index c.args.automata.now (omega (arith, c.loop-automaton-test.false)))
    ∙ sym (map_twice ask_names automaton_of c.args.automata.now)
