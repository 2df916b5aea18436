use Rattle.std.proofs.Common.{ℕ, List, ap, ◌∙◌}
use Rattle.std.specs.Prelude.{◌||◌}
use Rattle.std.specs.List.{list_any}
use Rattle.hz_reasons.specs.Holding.{age_of}
use Rattle.hz_explain.specs.Showing.{is_marked, is_of}
use Rattle.hz_reasons.specs.declared.plan.Place.{Place}
use Rattle.hz_explain.proofs.picture.mark_holder.Goals as goal

pub returns-clause-marked : goal.returns-clause-marked
returns-clause-marked c = λ u.
    let old = is_marked c.args.marks.now.items u in
    c.mark_pairs.ensures.marked u
    ∙ (ap (λ (n : ℕ). list_any (is_of n u) c.pairs_taken.result.now || old) c.age.ensures
    ∙ ap (λ (ps : List Place). list_any (is_of (age_of c.args.holder) u) ps || old) c.pairs_taken.ensures)
