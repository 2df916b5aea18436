use Rattle.hz_explain.specs.Showing.{is_asked, is_kept}
use Rattle.hz_explain.proofs.ShowLaws.{marks_are}
use Rattle.hz_explain.proofs.picture.marks.Goals as goal

pub returns-clause-marked : goal.returns-clause-marked
returns-clause-marked c = λ u. marks_are (is_asked c.args.asked.now u) (is_kept c.args.plan.now c.args.issues.now u) _ _ _ (c.mark_asked.ensures.marked u) (c.mark_kept.ensures.marked u) (c.in_ok-marks.ensures.none u)
