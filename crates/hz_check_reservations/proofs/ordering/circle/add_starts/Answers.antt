use Rattle.std.proofs.Common.{◌<◌, ◌+◌, length, get_or, take, subst, sym, arith}
use Rattle.std.proofs.lemmas.List.Elements.{Contains-get_or}
use Rattle.hz_check_reservations.specs.Circles.{AddsStarts}
use Rattle.hz_check_reservations.specs.Walks.{lists_of}
use Rattle.hz_check_reservations.proofs.Lists.{length-lists_of}
use Rattle.hz_check_reservations.proofs.Turning.{adds_more}
use Rattle.hz_check_reservations.proofs.ordering.circle.add_starts.Goals as goal

pub add_start-requires : goal.add_start-requires
add_start-requires c =
    omega (
      arith,
      c.requires (get_or c.args.ends.now c.loop-end.end-index 0) (Contains-get_or c.args.ends.now c.loop-end.end-index 0 c.loop-end-test.true),
      c.loop-end.invariant.size,
      length-lists_of c.loop-end.starts.items,
      length-lists_of c.args.starts.now.items,
    )

pub loop-end-preserved : goal.loop-end-preserved
loop-end-preserved c =
    let small : get_or c.args.ends.now c.loop-end.end-index 0 < length (lists_of c.loop-end.starts.items) =
    omega (
      arith,
      c.requires (get_or c.args.ends.now c.loop-end.end-index 0) (Contains-get_or c.args.ends.now c.loop-end.end-index 0 c.loop-end-test.true),
      c.loop-end.invariant.size,
      length-lists_of c.args.starts.now.items,
    ) in
    subst (AddsStarts c.args.start (take (c.loop-end.end-index + 1) c.args.ends.now) (lists_of c.args.starts.now.items)) (sym c.in_ok-add_start.ensures)
    (adds_more c.args.start c.args.ends.now (lists_of c.args.starts.now.items) (lists_of c.loop-end.starts.items) c.loop-end.end-index c.loop-end-test.true small c.loop-end.invariant)
