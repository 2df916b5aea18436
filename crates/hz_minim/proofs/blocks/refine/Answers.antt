use Rattle.std.proofs.Common.{ℕ, ◌+◌, ◌<◌, All, length, sym, subst, arith, vec_len}
use Rattle.hz_pipeline_model.specs.Least.Blocks.{block_limit}
use Rattle.hz_minim.specs.declared.marks.Marks.{Marks}
use Rattle.hz_minim.specs.declared.partition.Partition.{Partition}
use Rattle.hz_minim.specs.Arrows.{AreWithin}
use Rattle.hz_minim.specs.Kept.{IsKept}
use Rattle.hz_minim.specs.Lists.{lists_of}
use Rattle.hz_minim.proofs.ApartLaws.{blocks_below}
use Rattle.hz_minim.proofs.ArrowLaws.{arrows_within}
use Rattle.hz_minim.proofs.ListLaws.{length-lists_of}
use Rattle.hz_minim.proofs.blocks.refine.Goals as goal

kept_below : (states : ℕ) (p : Partition) (m : Marks) → IsKept states p m → All (λ block. block < block_limit) p.blocks.items
kept_below states p m kept =
    let few = kept.few in
    let marked = kept.marked in
    blocks_below p.blocks.items (lists_of p.members.items) block_limit kept.listed (omega (arith, length-lists_of p.members.items, p.members.ok.0))

pub turn-requires-clause-arrows : goal.turn-requires-clause-arrows
turn-requires-clause-arrows c =
    subst (λ n. AreWithin n (vec_len c.loop.buckets) (lists_of c.deref.result.now)) (sym c.loop.invariant.kept.each)
    (subst (λ n. AreWithin (length c.args.plain.now.rows) n (lists_of c.deref.result.now)) (sym c.loop.invariant.buckets)
    (subst (λ arrows. AreWithin (length c.args.plain.now.rows) (c.args.plain.now.columns + 1) (lists_of arrows)) (sym c.deref.ensures.value)
    (arrows_within c.args.plain.now (lists_of c.in_ok-arrows.arrows.items) c.requires c.in_ok-arrows.ensures)))

pub returns-then-len-states-clause-numbers : goal.returns-then-len-states-clause-numbers
returns-then-len-states-clause-numbers c = kept_below _ c.loop.partition c.loop.marks c.loop.invariant.kept

pub returns-in-None-clause-numbers : goal.returns-in-None-clause-numbers
returns-in-None-clause-numbers c = kept_below _ c.loop.partition c.loop.marks c.loop.invariant.kept

pub returns-clause-numbers : goal.returns-clause-numbers
returns-clause-numbers c = kept_below _ c.loop.partition c.loop.marks c.loop.invariant.kept
