use Rattle.std.proofs.Common.{◌≡◌, ◌++◌, map}
use Rattle.std.specs.Vec.Iter.{into_iter_items}
use Rattle.hz_checked.specs.Shape.{attribute_of}
use Rattle.hz_check.proofs.parts.assembly.attributes.Given as goal

abbrev pub invariant-loop-item : goal.invariant-loop-item
invariant-loop-item l = record {
  values : map attribute_of l.values.items ++ map (λ i. (i.name, i.values.items)) (into_iter_items l.item-iterator) ≡ map (λ i. (i.name, i.values.items)) l.fn.items.items;
  defaults : l.defaults.items ++ map (λ i. (i.name, i.fallback)) (into_iter_items l.item-iterator) ≡ map (λ i. (i.name, i.fallback)) l.fn.items.items;
}
