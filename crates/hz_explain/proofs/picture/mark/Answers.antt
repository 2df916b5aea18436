use Rattle.hz_explain.proofs.ShowLaws.{marked_at}
use Rattle.hz_explain.proofs.picture.mark.Goals as goal

pub returns-clause-marked : goal.returns-clause-marked
returns-clause-marked c = λ u. marked_at c.args.marks.now.items c.args.unit.automaton c.args.unit.unit c.mark_place-place.result u c.requires c.mark_place-place.ensures.automaton c.mark_place-place.ensures.unit c.mark_place-place.ensures.place
