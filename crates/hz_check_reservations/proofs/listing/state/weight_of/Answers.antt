use Rattle.std.proofs.Common.{◌≡◌, ◌-◌, length, arith}
use Rattle.hz_check_reservations.proofs.Sizes.{weigh_more, weigh_within}
use Rattle.hz_check_reservations.proofs.listing.state.weight_of.Goals as goal

pub overflow_add-weight-in-loop-i : goal.overflow_add-weight-in-loop-i
overflow_add-weight-in-loop-i c =
    let more = weigh_more c.args.alts.now c.loop-i.i c.index-alts-i.result c.loop-i-test.true c.loop-i.auto.i c.index-alts-i.is in
    let within = weigh_within c.args.alts.now (c.loop-i.i - 1) in
    let long : c.index-alts-i.result.pairs.len ≡ length c.index-alts-i.result.pairs.items = c.index-alts-i.result.pairs.ok.0 in
    omega (arith, c.requires, c.loop-i.invariant, c.len.ensures)

pub loop-i-preserved : goal.loop-i-preserved
loop-i-preserved c =
    let more = weigh_more c.args.alts.now c.loop-i.i c.index-alts-i.result c.loop-i-test.true c.loop-i.auto.i c.index-alts-i.is in
    let long : c.index-alts-i.result.pairs.len ≡ length c.index-alts-i.result.pairs.items = c.index-alts-i.result.pairs.ok.0 in
    omega (arith, c.loop-i.invariant, c.len.ensures)
