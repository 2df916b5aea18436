use Rattle.std.proofs.Common.{◌≡◌, take, vec_len}
use Rattle.hz_minim.specs.Lists.{lists_of}
use Rattle.hz_minim.proofs.BucketLaws.{AreFilled}
use Rattle.hz_minim.proofs.buckets.fill.Given as goal

abbrev pub invariant-loop-state : goal.invariant-loop-state
invariant-loop-state l = record {
  size : vec_len l.buckets ≡ vec_len l.initial.buckets;
  filled : AreFilled (lists_of l.arrows) l.partition.blocks.items l.block (take l.state-index l.state-items) (lists_of l.buckets.items);
}
