use Rattle.std.proofs.Common.{◌≡◌, List, map, subst}
use Rattle.std.specs.Option.{option_map}
use Rattle.hz_depend.specs.declared.parts.GraphInsn.{GraphInsn}
use Rattle.hz_measure_model.specs.Bounds.Loads.{ways_by}
use Rattle.hz_measure_model.specs.Bounds.Bounds.{units_from, loads_of, heaviest}
use Rattle.hz_bound.specs.declared.parts.Bound.{Bound}
use Rattle.hz_bound.specs.Shape.{names_of, lists_in, load_of}
use Rattle.hz_bound.proofs.BoundLemmas.{bound_is, in_range}
use Rattle.hz_bound.proofs.bounding.bound.Goals as goal

pub returns-clause-bound : goal.returns-clause-bound
returns-clause-bound c =
    let checked = c.args.checked.now in
    let b : Bound = record { path = c.in_ok-path.path.cycles; chain = c.in_ok-path.path.chain; load = c.in_ok-load.load; value = c.max.result } in
    let heavy = subst (λ (insns : List GraphInsn). option_map load_of c.in_ok-load.load ≡ heaviest (loads_of (ways_by (lists_in checked.classes.items)) (units_from 0 (names_of checked)) (map (λ i. i.class) insns))) c.deref.ensures.value c.in_ok-load.ensures in
    bound_is checked c.args.graph.now b c.value_of.result c.max.result c.in_ok-path.ensures heavy c.value_of.ensures c.max.ensures

pub returns-clause-range : goal.returns-clause-range
returns-clause-range c =
    let checked = c.args.checked.now in
    let b : Bound = record { path = c.in_ok-path.path.cycles; chain = c.in_ok-path.path.chain; load = c.in_ok-load.load; value = c.max.result } in
    let heavy = subst (λ (insns : List GraphInsn). option_map load_of c.in_ok-load.load ≡ heaviest (loads_of (ways_by (lists_in checked.classes.items)) (units_from 0 (names_of checked)) (map (λ i. i.class) insns))) c.deref.ensures.value c.in_ok-load.ensures in
    in_range checked c.args.graph.now b c.requires c.in_ok-path.ensures heavy
