use Rattle.std.proofs.Common.{◌≡◌, take, vec_len}
use Rattle.hz_minim.specs.Lists.{lists_of}
use Rattle.hz_minim.specs.Moves.{IsListed, IsMoved, goes_to}
use Rattle.hz_minim.proofs.partition.Partition.move_all.Given as goal

abbrev pub invariant-loop-state : goal.invariant-loop-state
invariant-loop-state l = record {
  moved : IsMoved (goes_to l.marks l.old) (take l.state-index l.states) l.fn.self.blocks.items l.self.blocks.items;
  listed : IsListed l.self.blocks.items (lists_of l.self.members.items);
  members : vec_len l.self.members ≡ vec_len l.fn.self.members;
}
