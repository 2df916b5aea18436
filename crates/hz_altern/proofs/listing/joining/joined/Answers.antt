use Rattle.std.proofs.Common.{◌+◌, ◌<◌, ◌≤◌, arith}
use Rattle.hz_base_model.specs.Limits.{cycle_limit}
use Rattle.hz_altern.specs.Shapes.{pair_of}
use Rattle.hz_altern.proofs.ListLemmas.{All-from_map}
use Rattle.hz_altern.proofs.listing.joining.joined.Goals as goal

pub continued-requires : goal.continued-requires
continued-requires c =
    let short : c.args.first.now.length + c.args.second.now.length ≤ cycle_limit = rw c.in-InSequence.is at c.requires.short in
    rw c.deref-in-InSequence.ensures.value (λ k d lt.
    let low = All-from_map (λ p. p.cycle < c.args.second.now.length) pair_of c.args.second.now.pairs.items c.requires.second.placed.within k d lt in
    omega arith)
