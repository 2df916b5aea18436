use Rattle.std.proofs.Common.{take}
use Rattle.hz_minim.specs.Buckets.{AddsArrows}
use Rattle.hz_minim.specs.Lists.{lists_of}
use Rattle.hz_minim.proofs.buckets.add_arrows.Given as goal

abbrev pub invariant-loop-arrow : goal.invariant-loop-arrow
invariant-loop-arrow l = AddsArrows (take l.arrow-index l.arrows) (lists_of l.initial.buckets.items) (lists_of l.buckets.items)
