use Rattle.std.proofs.Common.{◌≡◌, ◌++◌, drop}
use Rattle.hz_why_model.specs.Groups.{groups_from}
use Rattle.hz_explain.specs.Taking.{line_reported}
use Rattle.hz_explain.specs.Telling.{unit_name}
use Rattle.hz_explain.proofs.takes.add_groups.Given as goal

abbrev pub invariant-loop-place : goal.invariant-loop-place
invariant-loop-place l = l.text.items ++ groups_from (line_reported (unit_name l.parts)) l.leaders l.place (drop l.place l.choices) ≡ l.fn.text.items ++ groups_from (line_reported (unit_name l.parts)) l.leaders 0 l.choices
