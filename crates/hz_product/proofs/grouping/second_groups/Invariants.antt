use Rattle.std.proofs.Common.{◌≡◌, ◌+◌, ◌<◌, length, All}
use Rattle.hz_product.proofs.grouping.second_groups.Given as goal

abbrev pub invariant-loop-part : goal.invariant-loop-part
invariant-loop-part l = record {
  long : length l.groups.items ≡ l.part-index;
  low : All (λ group. group < length l.first + 1) l.groups.items;
}
