use Rattle.std.proofs.Common.{◌≤◌, vec_len}
use Rattle.hz_minim.proofs.marks.Marks.settle_all.Given as goal

abbrev pub invariant-loop : goal.invariant-loop
invariant-loop l = (vec_len l.fn.self.of_blocks ≤ vec_len l.self.of_blocks) × (vec_len l.self.of_blocks ≤ 131072)
