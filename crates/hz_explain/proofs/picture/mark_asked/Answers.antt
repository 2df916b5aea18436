use Rattle.std.proofs.Common.{List, ap, ◌∙◌, arith}
use Rattle.std.specs.Prelude.{◌||◌}
use Rattle.std.specs.List.{list_any}
use Rattle.hz_explain.specs.Showing.{is_marked, is_of}
use Rattle.hz_reasons.specs.declared.plan.Choice.{Choice}
use Rattle.hz_reasons.specs.declared.plan.Place.{Place}
use Rattle.hz_explain.proofs.ShowLaws.{any_next, any_end}
use Rattle.hz_explain.proofs.picture.mark_asked.Goals as goal

pub loop-choice-preserved : goal.loop-choice-preserved
loop-choice-preserved c = record {
  each = c.mark_pairs.ensures.each;
  marked = λ u.
      let old = is_marked c.loop-choice.marks.items u in
      any_next (λ (ch : Choice). list_any (is_of 0 u) ch.pairs.items) c.args.choices.now c.loop-choice.choice-index c.choice-item.result old (is_marked c.mark_pairs.new.marks.items u) _ c.loop-choice-test.true (c.loop-choice.invariant.marked u)
      (c.mark_pairs.ensures.marked u ∙ (ap (λ (ps : List Place). list_any (is_of 0 u) ps || old) c.deref.ensures.value ∙ ap (λ (ch : Choice). list_any (is_of 0 u) ch.pairs.items || old) c.choice-item.is));
}

pub returns-clause-marked : goal.returns-clause-marked
returns-clause-marked c = λ u. any_end (λ (ch : Choice). list_any (is_of 0 u) ch.pairs.items) c.args.choices.now c.loop-choice.choice-index (is_marked c.loop-choice.marks.items u) _ (omega arith) (c.loop-choice.invariant.marked u)
