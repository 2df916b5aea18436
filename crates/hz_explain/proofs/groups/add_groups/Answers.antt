use Rattle.std.proofs.Common.{arith}
use Rattle.hz_explain.specs.Grouping.{group_reported}
use Rattle.hz_explain.specs.Telling.{wording_in}
use Rattle.hz_explain.proofs.GroupingLaws.{groups_next}
use Rattle.hz_explain.proofs.groups.add_groups.Goals as goal

pub loop-place-preserved : goal.loop-place-preserved
loop-place-preserved c =
    groups_next (group_reported (wording_in c.args.desc.now c.args.parts.now) c.args.plan.now c.args.issues.now) c.args.leaders.now c.args.reasons.now c.loop-place.place _ c.loop-place.text.items c.add_if_leader.new.text.items _ (omega arith)
    c.loop-place.invariant c.in_ok-add_if_leader.ensures
