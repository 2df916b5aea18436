use Rattle.std.proofs.Common.{◌≡◌, List, map, Contains, Some, None, length, slice_get, refl, sym, ap, subst, ◌∙◌}
use Rattle.std.proofs.lemmas.Bool.{ltb-true}
use Rattle.std.proofs.lemmas.Option.{slice_get_read, slice_get-map}
use Rattle.std.specs.Option.{option_map}
use Rattle.hz_mdread.specs.declared.items.UnitItem.{UnitItem}
use Rattle.hz_mdread.specs.Shape.{description, unit_item}
use Rattle.hz_check.proofs.Tables.Homes.{home-at}
use Rattle.hz_check.proofs.Tables.HomeSteps.{unit_within}
use Rattle.hz_description_model.specs.Check.Places.{automaton_number}
use Rattle.hz_check.proofs.names.Names.home.Goals as goal

pub returns-in_err-place : goal.returns-in_err-place
returns-in_err-place c =
    let names = c.args.self.now in
    let unit = c.args.unit.now in
    c.from_residual.ensures ∙ sym (home-at (description names.desc.now) unit None (c.in_err-place.ensures ∙ names.units_placed unit))

pub returns : goal.returns
returns c =
    let names = c.args.self.now in
    let stored = names.desc.now in
    let d = description stored in
    let name = c.args.unit.now in
    let place = c.in_ok-place.field-0.now in
    let unit = c.in_ok-unit.unit.now in
    let found : slice_get stored.units.items place ≡ Some unit = subst (λ items. slice_get items place ≡ Some unit) c.deref.ensures.value (slice_get_read c.deref.result.now (length c.deref.result.now) place unit refl (ltb-true _ _ (sym c.in_ok-unit.ensures.lookup.0)) c.in_ok-unit.ensures.lookup.1) in
    ap Some c.automaton_number.ensures
    ∙ (ap (λ o. option_map (λ u. automaton_number d u.automaton) o) (sym (slice_get-map unit_item stored.units.items place ∙ ap (option_map unit_item) found))
    ∙ sym (home-at d name (Some place) (c.in_ok-place.ensures ∙ names.units_placed name)))

pub automaton_number-requires : goal.automaton_number-requires
automaton_number-requires c =
    let place = c.in_ok-place.field-0.now in
    let unit = c.in_ok-unit.unit.now in
    subst (λ (items : List UnitItem). Contains (map unit_item items) (unit_item unit)) c.deref.ensures.value (unit_within c.deref.result.now place unit (ltb-true _ _ (sym c.in_ok-unit.ensures.lookup.0)) c.in_ok-unit.ensures.lookup.1)
