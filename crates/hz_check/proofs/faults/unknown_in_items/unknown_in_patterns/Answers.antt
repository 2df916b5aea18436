use Rattle.std.proofs.Common.{not, filter, refl, ap, ◌∙◌}
use Rattle.std.specs.List.{flat_map}
use Rattle.hz_mdread.specs.Shape.{description}
use Rattle.hz_check.specs.Names.First.{first_of}
use Rattle.hz_check.proofs.Lists.FirstOf.{first_here}
use Rattle.hz_description_model.specs.Check.CheckFaults.{is_unit}
use Rattle.hz_check.proofs.faults.unknown_in_items.unknown_in_patterns.Goals as goal

pub returns-in-Some : goal.returns-in-Some
returns-in-Some c =
    first_here (λ name. not (is_unit (description c.args.names.now.desc.now) name)) (flat_map (λ pattern. pattern.items)) c.pattern-item.result.items c.args.patterns.now c.loop-pattern.pattern-index c.pattern-item.result c.in-Some.name.now
    c.pattern-item.is c.loop-pattern-test.true refl (c.in-Some.ensures ∙ ap (λ names. first_of (filter (λ name. not (is_unit (description c.args.names.now.desc.now) name)) names)) c.deref.ensures.value) c.loop-pattern.invariant
