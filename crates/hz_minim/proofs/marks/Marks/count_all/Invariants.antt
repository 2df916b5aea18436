use Rattle.std.proofs.Common.{◌≡◌, vec_len}
use Rattle.hz_minim.proofs.marks.Marks.count_all.Given as goal

abbrev pub invariant-loop-state : goal.invariant-loop-state
invariant-loop-state l = vec_len l.self.of_blocks ≡ vec_len l.fn.self.of_blocks
