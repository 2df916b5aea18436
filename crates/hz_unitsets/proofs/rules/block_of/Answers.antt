use Rattle.std.proofs.Common.{◌<◌, length, arith}
use Rattle.std.proofs.lemmas.List.{get_or_read}
use Rattle.hz_unitsets.proofs.Blocks.{one_so_far}
use Rattle.hz_unitsets.proofs.rules.block_of.Goals as goal

pub loop-place-preserved : goal.loop-place-preserved
loop-place-preserved c =
    let rules = c.args.rules.now in
    let place = c.loop-place.place in
    let asked = c.index-rules-place.result in
    let inside : place < length rules = omega (arith, c.loop-place-test.true, c.requires.within) in
    one_so_far rules c.args.from place c.loop-place.triggers c.loop-place.keys c.loop-place.wanted c.join-triggers.result c.join-keys.result c.join-wanted.result c.summary-summary.result.keys c.summary-summary.result.wanted asked
    (λ e. get_or_read rules place asked inside c.index-rules-place.is e) c.join-triggers.ensures c.join-keys.ensures c.join-wanted.ensures c.summary-summary.ensures c.loop-place.invariant
