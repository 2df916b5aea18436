use Rattle.std.proofs.Common.{cond, [], ◌∷◌, arith}
use Rattle.hz_explain.specs.Showing.{is_of, listed_for}
use Rattle.hz_reasons.specs.declared.plan.Place.{Place}
use Rattle.hz_explain.proofs.GatherLaws.{listed_next, listed_end}
use Rattle.hz_explain.proofs.picture.add_by_pairs.Goals as goal

pub loop-place-preserved : goal.loop-place-preserved
loop-place-preserved c = record {
  size = c.add_by_pair.ensures.size;
  added = λ u. listed_next (λ (p : Place). cond (is_of c.args.age u p) (c.args.holder ∷ []) []) c.args.pairs.now c.loop-place.place (record { automaton = 0; unit = 0; cycle = 0 })
      (listed_for c.loop-place.held.items u) (listed_for c.add_by_pair.new.held.items u) _ (omega arith) (c.loop-place.invariant.added u) (c.in_ok-add_by_pair.ensures.added u);
}

pub returns-clause-added : goal.returns-clause-added
returns-clause-added c = λ u. listed_end (λ (p : Place). cond (is_of c.args.age u p) (c.args.holder ∷ []) []) c.args.pairs.now c.loop-place.place (listed_for c.loop-place.held.items u) _ (omega arith) (c.loop-place.invariant.added u)
