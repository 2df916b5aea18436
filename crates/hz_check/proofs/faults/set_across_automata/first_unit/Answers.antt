use Rattle.std.proofs.Common.{slice_get, sym, ap, ◌∙◌}
use Rattle.std.specs.List.{flat_map}
use Rattle.hz_mdread.specs.Shape.{set_item}
use Rattle.hz_check.specs.Names.First.{first_of}
use Rattle.hz_check.proofs.Lists.FirstOf.{first_is, found_in_lists}
use Rattle.hz_check.proofs.Lists.Next.{flat_map-map}
use Rattle.hz_description_model.specs.Check.CheckFaults.{units_of_patterns}
use Rattle.hz_check.proofs.faults.set_across_automata.first_unit.Goals as goal

pub returns : goal.returns
returns c =
    let set = c.args.set.now in
    found_in_lists set.units.items (units_of_patterns (set_item set)) c.first.result c.first_in.result c.or.result c.or.ensures
    (c.first.ensures.value ∙ (ap (λ names. slice_get names 0) c.deref.ensures.value ∙ first_is set.units.items))
    (c.first_in.ensures ∙ ap first_of (ap (flat_map (λ pattern. pattern.items)) c.deref-2.ensures.value ∙ sym (flat_map-map (λ pattern. pattern) (λ pattern. pattern.items) set.patterns.items)))
