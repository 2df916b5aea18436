use Rattle.std.proofs.Common.{map, refl, arith}
use Rattle.std.specs.Option.{option_map}
use Rattle.std.proofs.lemmas.List.{drop_all}
use Rattle.hz_measure_model.specs.Bounds.Loads.{ways_by}
use Rattle.hz_bound.specs.Shape.{names_of, lists_in, load_of}
use Rattle.hz_bound.proofs.HeaviestLemmas.{automaton_more, no_more_automata, names_long}
use Rattle.hz_bound.proofs.heaviest.heaviest_of.Goals as goal

pub loop-automaton-init : goal.loop-automaton-init
loop-automaton-init c = refl

pub loop-automaton-preserved : goal.loop-automaton-preserved
loop-automaton-preserved c =
    let long = c.args.checked.now.automata.ok.0 in
    automaton_more (ways_by (lists_in c.args.checked.now.classes.items)) (map (λ i. i.class) c.args.insns.now) (names_of c.args.checked.now) c.loop-automaton.automaton
    (option_map load_of c.loop-automaton.most) (option_map load_of c.in_ok-load.load) (option_map load_of c.heavier-most.result) _
    (omega (arith, c.loop-automaton-test.true, c.len-automaton-end.ensures, long, names_long c.args.checked.now)) c.in_ok-load.ensures c.heavier-most.ensures c.loop-automaton.invariant

pub returns : goal.returns
returns c =
    let long = c.args.checked.now.automata.ok.0 in
    no_more_automata (ways_by (lists_in c.args.checked.now.classes.items)) (map (λ i. i.class) c.args.insns.now) (names_of c.args.checked.now) c.loop-automaton.automaton (option_map load_of c.loop-automaton.most) _
    (drop_all c.loop-automaton.automaton (names_of c.args.checked.now) (omega (arith, c.loop-automaton-test.false, c.len-automaton-end.ensures, long, names_long c.args.checked.now))) c.loop-automaton.invariant
