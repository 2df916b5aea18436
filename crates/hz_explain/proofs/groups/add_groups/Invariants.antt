use Rattle.std.proofs.Common.{◌≡◌, ◌++◌, drop}
use Rattle.hz_why_model.specs.Groups.{groups_from}
use Rattle.hz_explain.specs.Grouping.{group_reported}
use Rattle.hz_explain.specs.Telling.{wording_in}
use Rattle.hz_explain.proofs.groups.add_groups.Given as goal

abbrev pub invariant-loop-place : goal.invariant-loop-place
invariant-loop-place l =
    l.text.items ++ groups_from (group_reported (wording_in l.desc l.parts) l.plan l.issues) l.leaders l.place (drop l.place l.reasons)
    ≡ l.fn.text.items ++ groups_from (group_reported (wording_in l.desc l.parts) l.plan l.issues) l.leaders 0 l.reasons
