use Rattle.std.proofs.Common.{ap}
use Rattle.std.proofs.lemmas.Result.{err_from_is_err_and}
use Rattle.hz_base_model.specs.Limits.{cycle_limit}
use Rattle.hz_description_model.specs.Reservations.Limits.{size_limit}
use Rattle.hz_altern.specs.Joinings.{joined_by}
use Rattle.hz_altern.specs.Shapes.{alternative_of}
use Rattle.hz_altern.proofs.Weights.{item_listed, item_short, item_small, refused_so_far}
use Rattle.hz_altern.proofs.listing.expanding.push_choices.Goals as goal

pub push_joined-requires-clause-second : goal.push_joined-requires-clause-second
push_joined-requires-clause-second c = item_listed c.args.seconds.now c.loop-second.second-index c.second-item.result c.loop-second-test.true c.second-item.is c.requires.seconds

pub push_joined-requires-clause-second_small : goal.push_joined-requires-clause-second_small
push_joined-requires-clause-second_small c = item_small size_limit c.args.seconds.now c.loop-second.second-index c.second-item.result c.loop-second-test.true c.second-item.is c.requires.seconds_small

pub push_joined-requires-clause-short : goal.push_joined-requires-clause-short
push_joined-requires-clause-short c = item_short (joined_by c.args.joining (alternative_of c.args.first.now)) cycle_limit c.args.seconds.now c.loop-second.second-index c.second-item.result c.loop-second-test.true c.second-item.is c.requires.short

pub returns-in_err-push_joined-clause-err : goal.returns-in_err-push_joined-clause-err
returns-in_err-push_joined-clause-err c =
    let join = joined_by c.args.joining (alternative_of c.args.first.now) in
    let p = err_from_is_err_and c.from_residual.result c.from_residual.ensures.1 in
    rw (p.1, p.2) (refused_so_far c.args.most c.args.listing.now join c.args.seconds.now c.loop-second.second-index c.second-item.result c.loop-second.listing (join (alternative_of c.second-item.result)) _ c.loop-second-test.true c.loop-second.invariant.0
    (ap (λ a. join (alternative_of a)) c.second-item.is) c.in_err-push_joined.ensures.err)
