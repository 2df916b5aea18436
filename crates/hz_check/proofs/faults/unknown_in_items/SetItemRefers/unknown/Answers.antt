use Rattle.std.proofs.Common.{not, sym, ap, ◌∙◌}
use Rattle.std.specs.List.{flat_map}
use Rattle.hz_mdread.specs.Shape.{description, set_item}
use Rattle.hz_check.proofs.Lists.FirstOf.{found_in_both}
use Rattle.hz_check.proofs.Lists.Next.{flat_map-map}
use Rattle.hz_description_model.specs.Check.CheckFaults.{is_unit, units_of_patterns}
use Rattle.hz_check.proofs.faults.unknown_in_items.SetItemRefers.unknown.Goals as goal

pub returns : goal.returns
returns c =
    let item = c.args.self.now in
    c.site_in.ensures _ (found_in_both (λ name. not (is_unit (description c.args.names.now.desc.now) name)) item.units.items (units_of_patterns (set_item item)) c.deref.result.now _ c.unknown_unit.result c.unknown_in_patterns.result _
    c.or-name.ensures c.deref.ensures.value (ap (flat_map (λ pattern. pattern.items)) c.deref-2.ensures.value ∙ sym (flat_map-map (λ pattern. pattern) (λ pattern. pattern.items) item.patterns.items)) c.unknown_unit.ensures c.unknown_in_patterns.ensures)
