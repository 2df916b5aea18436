use Rattle.std.proofs.Common.{◌≡◌, map}
use Rattle.std.specs.Option.{option_map}
use Rattle.hz_measure_model.specs.Bounds.Bounds.{units_from, loads_of, heavier, heaviest}
use Rattle.hz_measure_model.specs.Bounds.Loads.{ways_by}
use Rattle.hz_bound.specs.Shape.{names_of, lists_in, load_of}
use Rattle.hz_bound.proofs.HeaviestLemmas.{from_automaton}
use Rattle.hz_bound.proofs.heaviest.heaviest_of.Given as goal

-- the heaviest so far, with that of the automata that are left, is that of all
abbrev pub invariant-loop-automaton : goal.invariant-loop-automaton
invariant-loop-automaton l =
    heavier (option_map load_of l.most) (from_automaton (ways_by (lists_in l.checked.classes.items)) (map (λ i. i.class) l.insns) (names_of l.checked) l.automaton)
    ≡ heaviest (loads_of (ways_by (lists_in l.checked.classes.items)) (units_from 0 (names_of l.checked)) (map (λ i. i.class) l.insns))
