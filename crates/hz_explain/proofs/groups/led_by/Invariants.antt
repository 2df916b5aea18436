use Rattle.std.proofs.Common.{◌≡◌, ◌+◌, ◌++◌, drop}
use Rattle.hz_why_model.specs.Groups.{led_by}
use Rattle.hz_explain.proofs.groups.led_by.Given as goal

abbrev pub invariant-loop-other : goal.invariant-loop-other
invariant-loop-other l = l.numbers.items ++ led_by l.place (l.other + 1) (drop l.other l.leaders) ≡ led_by l.place 1 l.leaders
