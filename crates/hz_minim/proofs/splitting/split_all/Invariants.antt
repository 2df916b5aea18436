use Rattle.std.proofs.Common.{length}
use Rattle.hz_minim.specs.Kept.{IsKept, StayApart}
use Rattle.hz_minim.specs.Lists.{lists_of}
use Rattle.hz_minim.proofs.splitting.split_all.Given as goal

abbrev pub invariant-loop-list : goal.invariant-loop-list
invariant-loop-list l = record {
  kept : IsKept (length l.fn.partition.blocks.items) l.partition l.marks;
  apart : StayApart (lists_of l.lists) l.fn.partition.blocks.items l.partition.blocks.items;
}
