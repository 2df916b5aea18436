use Rattle.std.proofs.Common.{◌≡◌, drop, filter, not}
use Rattle.std.specs.List.{flat_map}
use Rattle.hz_mdread.specs.Shape.{description}
use Rattle.hz_check.specs.Names.First.{first_of}
use Rattle.hz_description_model.specs.Check.CheckFaults.{is_unit}
use Rattle.hz_check.proofs.faults.unknown_in_items.unknown_in_patterns.Given as goal

abbrev pub invariant-loop-pattern : goal.invariant-loop-pattern
invariant-loop-pattern l =
    first_of (filter (λ name. not (is_unit (description l.names.desc.now) name)) (flat_map (λ pattern. pattern.items) (drop l.pattern-index l.patterns)))
    ≡ first_of (filter (λ name. not (is_unit (description l.names.desc.now) name)) (flat_map (λ pattern. pattern.items) l.patterns))
