use Rattle.std.proofs.Common.{◌≡◌, ◌++◌, take}
use Rattle.std.specs.List.{flat_map}
use Rattle.hz_explain.specs.Telling.{class_name}
use Rattle.hz_explain.specs.Ways.{issue_reported}
use Rattle.hz_explain.proofs.ways.add_issues.Given as goal

abbrev pub invariant-loop-holder : goal.invariant-loop-holder
invariant-loop-holder l = l.text.items ≡ l.fn.text.items ++ flat_map (issue_reported (class_name l.desc)) (take l.holder-index l.issues)
