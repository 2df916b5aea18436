use Rattle.std.proofs.Common.{false, length, ap, ◌∙◌}
use Rattle.std.proofs.lemmas.List.{length-replicate}
use Rattle.hz_explain.proofs.ShowLaws.{none_marked}
use Rattle.hz_explain.proofs.picture.unmarked.Goals as goal

pub returns-clause-each : goal.returns-clause-each
returns-clause-each c = ap length c.in_ok-marks.ensures ∙ length-replicate c.args.count false

pub returns-clause-none : goal.returns-clause-none
returns-clause-none c = none_marked c.in_ok-marks.marks.items c.args.count c.in_ok-marks.ensures
