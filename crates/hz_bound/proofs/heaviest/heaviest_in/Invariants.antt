use Rattle.std.proofs.Common.{◌≡◌, map}
use Rattle.std.specs.Option.{option_map}
use Rattle.hz_measure_model.specs.Bounds.Bounds.{units_of, loads_of, heavier, heaviest}
use Rattle.hz_measure_model.specs.Bounds.Loads.{ways_by}
use Rattle.hz_bound.specs.Shape.{lists_in, load_of}
use Rattle.hz_bound.proofs.HeaviestLemmas.{from_unit}
use Rattle.hz_bound.proofs.heaviest.heaviest_in.Given as goal

-- the heaviest so far, with that of the units that are left, is that of all
abbrev pub invariant-loop-unit : goal.invariant-loop-unit
invariant-loop-unit l =
    heavier (option_map load_of l.most) (from_unit (ways_by (lists_in l.checked.classes.items)) (map (λ i. i.class) l.insns) l.automaton l.unit l.units)
    ≡ heaviest (loads_of (ways_by (lists_in l.checked.classes.items)) (units_of l.automaton l.units) (map (λ i. i.class) l.insns))
