use Rattle.std.proofs.Common.{◌≡◌, ◌==◌, drop}
use Rattle.std.specs.List.{list_any}
use Rattle.hz_depend.proofs.finding.listed.has_class.Given as goal

-- what the classes that are left say is what all of them say
abbrev pub invariant-loop-listed : goal.invariant-loop-listed
invariant-loop-listed l = list_any (λ n. n == l.class) (drop l.listed-index l.classes) ≡ list_any (λ n. n == l.class) l.classes
