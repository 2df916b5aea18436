use Rattle.std.proofs.Common.{◌≡◌, filter, map, drop}
use Rattle.hz_mdread.specs.Shape.{description, unit_item}
use Rattle.hz_description_model.specs.Check.CheckFaults.{query_units}
use Rattle.hz_check.proofs.faults.query_under_ndfa.query_under_ndfa.Given as goal

abbrev pub invariant-loop-unit : goal.invariant-loop-unit
invariant-loop-unit l = query_units (description l.desc) ≡ filter (λ u. u.query) (map unit_item (drop l.unit-index l.unit-items))
