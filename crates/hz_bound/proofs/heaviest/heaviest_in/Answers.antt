use Rattle.std.proofs.Common.{map, rules}
use Rattle.std.specs.Option.{option_map}
use Rattle.hz_measure_model.specs.Bounds.Loads.{ways_by}
use Rattle.hz_bound.specs.Shape.{lists_in, load_of}
use Rattle.hz_bound.proofs.HeaviestLemmas.{unit_more}
use Rattle.hz_bound.proofs.ClassLemmas.{unit_reported}
use Rattle.hz_bound.proofs.heaviest.heaviest_in.Goals as goal

pub loop-unit-preserved : goal.loop-unit-preserved
loop-unit-preserved c =
    unit_more (ways_by (lists_in c.args.checked.now.classes.items)) (map (λ i. i.class) c.args.insns.now) c.args.automaton c.loop-unit.unit c.unit_count-units.result
    (option_map load_of c.loop-unit.most) (option_map load_of c.load_at.result) (option_map load_of c.heavier-most.result) _ c.loop-unit-test.true
    (unit_reported c.args.checked.now.classes.items c.deref.result.now c.args.insns.now c.args.automaton c.args.times.now c.unit_count-units.result c.loop-unit.unit c.in_ok-totals.totals.items c.index.result.now (option_map load_of c.load_at.result) c.deref.ensures.value c.requires.few c.requires.classes c.requires.times c.in_ok-totals.ensures c.loop-unit-test.true (search rules) c.load_at.ensures)
    c.heavier-most.ensures c.loop-unit.invariant
