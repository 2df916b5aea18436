use Rattle.std.proofs.Common.{◌≡◌, map, take, length, vec_len}
use Rattle.hz_altern.specs.Shapes.{alternatives}
use Rattle.hz_mdread.specs.Shape.{class_item}
use Rattle.hz_checked.specs.Shape.{class_of}
use Rattle.hz_check.specs.Parts.Classes.{classes_with}
use Rattle.hz_check.proofs.parts.classes.with_lists.Given as goal

abbrev pub invariant-loop-class : goal.invariant-loop-class
invariant-loop-class l = record {
  count : vec_len l.made ≡ length l.yielded;
  made : map class_of l.made.items ≡ classes_with l.automata (map (λ each. alternatives each.items) (take (length l.yielded) l.alts)) (map class_item l.yielded);
}
