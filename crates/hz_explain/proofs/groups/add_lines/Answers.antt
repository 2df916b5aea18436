use Rattle.std.specs.Prelude.{codes}
use Rattle.hz_why_model.specs.Lists.{narrow}
use Rattle.hz_explain.specs.Detailing.{detail_reported}
use Rattle.hz_explain.specs.Telling.{wording_in}
use Rattle.hz_explain.proofs.Joining.{joined_three}
use Rattle.hz_explain.proofs.groups.add_lines.Goals as goal

pub returns : goal.returns
returns c =
    joined_three c.args.text.now.items _ _ _ (narrow c.args.line.now) (codes "\n") (detail_reported (wording_in c.args.desc.now c.args.parts.now) c.args.plan.now c.args.issues.now c.args.reason)
    c.in_ok-add_narrow.ensures c.in_ok-add.ensures c.in_ok-add_detail.ensures
