use Rattle.std.proofs.Common.{◌≡◌, ℕ, List, map, drop}
use Rattle.std.specs.Option.{option_or}
use Rattle.hz_mdread.specs.Shape.{attribute_item}
use Rattle.hz_check.specs.Names.Held.{held}
use Rattle.hz_check.specs.Names.{test_by, test_of}
use Rattle.hz_description_model.specs.Check.CheckFaults.{values_of}
use Rattle.hz_check.proofs.names.tables.values_of.Given as goal

abbrev pub invariant-loop-item : goal.invariant-loop-item
invariant-loop-item l =
    (name : List ℕ) → option_or (test_by (held l.table name)) (test_of (values_of (map attribute_item (drop l.item-index l.items)) name))
    ≡ test_of (values_of (map attribute_item l.items) name)
