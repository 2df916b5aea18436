use Rattle.hz_altern.proofs.LeafLemmas.{copies_more, no_copies}
use Rattle.hz_altern.proofs.listing.leaves.add_copies.Goals as goal

pub loop-place-preserved : goal.loop-place-preserved
loop-place-preserved c =
    copies_more c.args.once.now.names.entries c.args.times c.args.apart c.args.start c.loop-place.place c.args.leaves.now c.loop-place.leaves c.add.new.self c.at.result.0.now c.at.result.1 c.copies.result c.later.result c.at.ensures
    c.copies.ensures c.later.ensures c.in_ok-add.ensures c.loop-place.invariant

pub loop-place-init : goal.loop-place-init
loop-place-init c = no_copies c.args.times c.args.apart c.args.start c.args.leaves.now
