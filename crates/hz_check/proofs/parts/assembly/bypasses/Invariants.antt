use Rattle.std.proofs.Common.{◌≡◌, map, take}
use Rattle.hz_mdread.specs.Shape.{description, bypass_item}
use Rattle.hz_checked.specs.Shape.{bypass_of}
use Rattle.hz_description_model.specs.Check.CheckedParts.{bypass_parts}
use Rattle.hz_check.proofs.parts.assembly.bypasses.Given as goal

abbrev pub invariant-loop-item : goal.invariant-loop-item
invariant-loop-item l = map bypass_of l.bypasses.items ≡ map (λ i. bypass_parts (description l.names.desc.now) (bypass_item i)) (take l.item-index l.item-items)
