use Rattle.std.proofs.Common.{arith}
use Rattle.hz_explain.specs.Showing.{is_marked, is_of}
use Rattle.hz_explain.proofs.ShowLaws.{any_next, any_end}
use Rattle.hz_explain.proofs.picture.mark_pairs.Goals as goal

pub loop-place-preserved : goal.loop-place-preserved
loop-place-preserved c = record {
  each = c.mark_pair.ensures.each;
  marked = λ u. any_next (is_of c.args.age u) c.args.pairs.now c.loop-place.place (record { automaton = 0; unit = 0; cycle = 0 }) (is_marked c.loop-place.marks.items u) (is_marked c.mark_pair.new.marks.items u) _ (omega arith) (c.loop-place.invariant.marked u) (c.mark_pair.ensures.marked u);
}

pub returns-clause-marked : goal.returns-clause-marked
returns-clause-marked c = λ u. any_end (is_of c.args.age u) c.args.pairs.now c.loop-place.place (is_marked c.loop-place.marks.items u) _ (omega arith) (c.loop-place.invariant.marked u)
