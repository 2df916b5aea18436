use Rattle.std.proofs.Common.{ℕ, List, ◌++◌, ap, ◌∙◌}
use Rattle.std.specs.List.{find}
use Rattle.hz_reasons.specs.Holding.{age_of}
use Rattle.hz_explain.specs.Showing.{listed_for, each_time}
use Rattle.hz_reasons.specs.declared.plan.Place.{Place}
use Rattle.hz_explain.proofs.picture.add_holder.Goals as goal

pub returns-clause-added : goal.returns-clause-added
returns-clause-added c = λ u test.
    let old = listed_for c.args.held.now.items u in
    let h = c.args.holder in
    c.in_ok-add_by_pairs.ensures.added u test
    ∙ ap (find test)
    (ap (λ (n : ℕ). old ++ each_time n u h c.pairs_taken.result.now) c.age.ensures
    ∙ ap (λ (ps : List Place). old ++ each_time (age_of h) u h ps) c.pairs_taken.ensures)
