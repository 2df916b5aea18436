use Rattle.hz_reasons.specs.Plans.{unit_of}
use Rattle.hz_explain.proofs.GatherLaws.{row_shown}
use Rattle.hz_explain.proofs.picture.row.Goals as goal

pub returns : goal.returns
returns c = row_shown c.args.parts.now c.args.plan.now c.args.held.now c.args.cycles (unit_of c.args.unit) c.unit_name.result.now c.in_ok-lines.lines.items c.holders_at.result.now c.unit_name.ensures c.in_ok-lines.ensures c.holders_at.ensures
