use Rattle.std.proofs.Common.{◌≡◌, drop, filter, map}
use Rattle.hz_checked.specs.Shape.{bypass_of}
use Rattle.hz_block_model.specs.Dependences.Classes.{bypass_between}
use Rattle.hz_depend.specs.Numbers.{has_guard}
use Rattle.hz_depend.proofs.finding.listed.number_listed.Given as goal

-- what the bypasses that are left give is what all of them give
abbrev pub invariant-loop-bypass : goal.invariant-loop-bypass
invariant-loop-bypass l = bypass_between (filter (has_guard l.guard) (map bypass_of (drop l.bypass-index l.bypasses))) l.out l.into ≡ bypass_between (filter (has_guard l.guard) (map bypass_of l.bypasses)) l.out l.into
