use Rattle.std.proofs.Common.{◌≡◌, ◌++◌, map, take}
use Rattle.std.specs.List.{filter_map}
use Rattle.hz_description_model.specs.Reservations.NamesIn.{names_in}
use Rattle.hz_regexp.specs.Shape.{expression}
use Rattle.hz_check_reservations.specs.Numbers.{number_in}
use Rattle.hz_check_reservations.specs.Walks.{lists_of}
use Rattle.hz_check_reservations.proofs.ordering.graph.add_classes.Given as goal

abbrev pub invariant-loop-item : goal.invariant-loop-item
invariant-loop-item l =
    lists_of l.edges.items ≡ lists_of l.initial.edges.items ++ map (λ item. filter_map (number_in l.numbers) (names_in (expression item.expr))) (take l.item-index l.items)
