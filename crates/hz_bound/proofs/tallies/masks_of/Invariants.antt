use Rattle.std.proofs.Common.{◌≡◌, length}
use Rattle.hz_bound.specs.Tallies.{AreMasks}
use Rattle.hz_bound.proofs.tallies.masks_of.Given as goal

-- the masks of the blocks so far
abbrev pub invariant-loop-block : goal.invariant-loop-block
invariant-loop-block l = record {
  size : length l.masks.items ≡ l.block;
  masks : AreMasks l.masks.items;
}
