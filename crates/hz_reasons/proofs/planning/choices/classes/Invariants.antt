use Rattle.std.proofs.Common.{◌≡◌, take}
use Rattle.hz_reasons.specs.Planning.{classes_in, in_classes}
use Rattle.hz_reasons.proofs.planning.choices.classes.Given as goal

abbrev pub invariant-loop-list : goal.invariant-loop-list
invariant-loop-list l = classes_in l.classes.items ≡ in_classes l.automata (take l.list-index l.lists)
