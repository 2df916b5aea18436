use Rattle.std.proofs.Common.{map, take}
use Rattle.hz_mdread.specs.Shape.{description, unit_item}
use Rattle.hz_check.proofs.Tables.HomeSteps.{HoldsHomes}
use Rattle.hz_check.proofs.names.homes.homes_of.Given as goal

abbrev pub invariant-loop-unit : goal.invariant-loop-unit
invariant-loop-unit l = HoldsHomes (description l.desc) l.homes (map unit_item (take l.unit-index l.unit-items))
