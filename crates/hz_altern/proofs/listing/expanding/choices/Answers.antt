use Rattle.std.proofs.lemmas.Result.{err_from_is_err_and}
use Rattle.hz_base_model.specs.Limits.{cycle_limit}
use Rattle.hz_description_model.specs.Reservations.Limits.{size_limit}
use Rattle.hz_altern.specs.Joinings.{joined_by}
use Rattle.hz_altern.specs.Shapes.{alternatives}
use Rattle.hz_altern.proofs.Weights.{item_listed, item_small, chosen_short, chosen_refused}
use Rattle.hz_altern.proofs.listing.expanding.choices.Goals as goal

pub push_choices-requires-clause-first : goal.push_choices-requires-clause-first
push_choices-requires-clause-first c = item_listed c.args.firsts.now c.loop-first.first-index c.first-item.result c.loop-first-test.true c.first-item.is c.requires.firsts

pub push_choices-requires-clause-first_small : goal.push_choices-requires-clause-first_small
push_choices-requires-clause-first_small c = item_small size_limit c.args.firsts.now c.loop-first.first-index c.first-item.result c.loop-first-test.true c.first-item.is c.requires.firsts_small

pub push_choices-requires-clause-short : goal.push_choices-requires-clause-short
push_choices-requires-clause-short c = chosen_short (joined_by c.args.joining) c.args.firsts.now (alternatives c.args.seconds.now) c.loop-first.first-index c.first-item.result c.loop-first-test.true c.first-item.is cycle_limit c.requires.short

pub returns-in_err-push_choices-clause-err : goal.returns-in_err-push_choices-clause-err
returns-in_err-push_choices-clause-err c =
    let p = err_from_is_err_and c.from_residual.result c.from_residual.ensures.1 in
    rw (p.1, p.2) (chosen_refused (joined_by c.args.joining) c.args.firsts.now (alternatives c.args.seconds.now) c.loop-first.first-index c.first-item.result c.loop-first-test.true c.first-item.is c.args.most c.loop-first.listing _ c.loop-first.invariant.0 c.in_err-push_choices.ensures.err)
