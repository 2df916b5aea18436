use Rattle.std.proofs.Common.{◌≡◌, ◌+◌, length, vec_len}
use Rattle.hz_pipeline_model.specs.Least.Blocks.{KeepsApart}
use Rattle.hz_minim.specs.Kept.{IsKept}
use Rattle.hz_minim.proofs.blocks.refine.Given as goal

abbrev pub invariant-loop : goal.invariant-loop
invariant-loop l = record {
  apart : KeepsApart l.plain.rows l.partition.blocks.items;
  kept : IsKept (length l.plain.rows) l.partition l.marks;
  buckets : vec_len l.buckets ≡ l.plain.columns + 1;
}
