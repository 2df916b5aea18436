use Rattle.std.proofs.Common.{◌≡◌, drop}
use Rattle.hz_why_model.specs.Reasons.{same_pattern}
use Rattle.hz_explain.specs.Grouping.{same_unit}
use Rattle.hz_explain.proofs.groups.is_same_pattern.Given as goal

abbrev pub invariant-loop-place : goal.invariant-loop-place
invariant-loop-place l = same_pattern same_unit l.a l.b ≡ same_pattern same_unit (drop l.place l.a) (drop l.place l.b)
