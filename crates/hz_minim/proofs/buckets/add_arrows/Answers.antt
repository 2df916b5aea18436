use Rattle.std.proofs.Common.{◌+◌, ◌<◌, length, get_or, take, sym, subst, arith}
use Rattle.std.proofs.lemmas.List.{get_or_default}
use Rattle.std.proofs.lemmas.List.Elements.{Contains-get_or}
use Rattle.hz_minim.specs.declared.arrows.Arrow.{Arrow}
use Rattle.hz_minim.specs.Arrows.{arrow_from}
use Rattle.hz_minim.specs.Buckets.{AddsArrows}
use Rattle.hz_minim.specs.Lists.{lists_of}
use Rattle.hz_minim.proofs.BucketLaws.{adds_more}
use Rattle.hz_minim.proofs.ListLaws.{length-lists_of}
use Rattle.hz_minim.proofs.buckets.add_arrows.Goals as goal

pub add-requires : goal.add-requires
add-requires c =
    let i = c.loop-arrow.arrow-index in
    let below = c.requires (get_or c.args.arrows.now i (arrow_from 0 0)) (Contains-get_or c.args.arrows.now i (arrow_from 0 0) c.loop-arrow-test.true) in
    omega (arith, c.loop-arrow.invariant.size, length-lists_of c.loop-arrow.buckets.items, length-lists_of c.args.buckets.now.items, c.loop-arrow.buckets.ok.0, c.args.buckets.now.ok.0)

pub loop-arrow-preserved : goal.loop-arrow-preserved
loop-arrow-preserved c =
    let arrows = c.args.arrows.now in
    let i = c.loop-arrow.arrow-index in
    let arrow : Arrow = get_or arrows i (arrow_from 0 0) in
    let before = lists_of c.args.buckets.now.items in
    let mid = lists_of c.loop-arrow.buckets.items in
    let below = c.requires arrow (Contains-get_or arrows i (arrow_from 0 0) c.loop-arrow-test.true) in
    let inside : arrow.column < length mid = omega (arith, c.loop-arrow.invariant.size, length-lists_of c.args.buckets.now.items, c.args.buckets.now.ok.0) in
    subst (AddsArrows (take (i + 1) arrows) before) (sym c.in_ok-add.ensures)
    (adds_more arrows before mid i arrow c.loop-arrow-test.true (get_or_default arrows i (arrow_from 0 0) arrow c.loop-arrow-test.true) inside c.loop-arrow.invariant)
