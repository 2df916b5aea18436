use Rattle.std.proofs.Common.{[], ap, subst}
use Rattle.std.proofs.lemmas.List.{map-id}
use Rattle.std.proofs.lemmas.Result.{err_from_is_err_and}
use Rattle.hz_altern.specs.Answers.{Refuses}
use Rattle.hz_altern.specs.Shapes.{alternative_of, alternatives}
use Rattle.hz_altern.proofs.Weights.{refused_so_far}
use Rattle.hz_altern.proofs.listing.expanding.copied.Goals as goal

pub returns-in_err-push_copy-clause-err : goal.returns-in_err-push_copy-clause-err
returns-in_err-push_copy-clause-err c =
    let p = err_from_is_err_and c.from_residual.result c.from_residual.ensures.1 in
    rw (p.1, p.2) (subst (λ ws. Refuses c.args.most ws c.in_err-push_copy.field-0.0) (map-id (alternatives c.args.alts.now))
    (refused_so_far c.args.most [] (λ a. a) c.args.alts.now c.loop-alt.alt-index c.alt-item.result c.loop-alt.listing (alternative_of c.alt-item.result) c.in_err-push_copy.field-0.0 c.loop-alt-test.true c.loop-alt.invariant.0
    (ap alternative_of c.alt-item.is) c.in_err-push_copy.ensures.err))
