-- Query units: that they have numbers, and which of them is reported under `ndfa`.
use Rattle.std.proofs.Common.{◌≡◌, ℕ, ◌+◌, ◌<◌, ◌≤◌, Bool, true, cond, List, [], ◌∷◌, map, length, filter, drop, get_or, Some, ap, ◌∙◌, arith}
use Rattle.std.proofs.lemmas.List.{length-map}
use Rattle.hz_base_model.specs.Limits.{unit_limit}
use Rattle.hz_check.proofs.Lists.Next.{drop_next}
use Rattle.hz_description_model.proofs.Check.KeptLaws.{few_units}
use Rattle.hz_description_model.proofs.Check.QueryLaws.{first_listed}
use Rattle.hz_description_model.specs.Check.CheckFaults.{past_units, query_units, queries_under_ndfa, unit_site}
use Rattle.hz_description_model.specs.Check.CheckedParts.{unit_items_in, units_in}
use Rattle.hz_description_model.specs.Check.Places.{unit_places}
use Rattle.hz_description_model.specs.Check.Sites.{earliest}
use Rattle.hz_description_model.specs.Reading.DescriptionShape.{IsCheckable}
use Rattle.hz_description_model.specs.Reading.Descriptions.{Description, UnitItem}
use Rattle.hz_mdread.specs.declared.items.UnitItem.{UnitItem as StoredUnit}
use Rattle.hz_mdread.specs.Shape.{unit_item}

-- where no unit is past the limit, no automaton has too many
pub few_in : (d : Description) → past_units d.units (unit_places d) ≡ [] → (n : ℕ) → length (units_in d n) ≤ unit_limit
few_in d within n =
    let few = few_units d n [] d.units (omega arith) within in
    let long = length-map (unit_items_in d n) (λ (u : UnitItem). u.name) in
    omega arith

-- the next unit is the first query unit
pub query_reported : (d : Description) (items : List StoredUnit) (i : ℕ) (x : StoredUnit) → x ≡ get_or items i x → i < length items → query_units d ≡ filter (λ u. u.query) (map unit_item (drop i items))
    → IsCheckable d → (d.options).ndfa ≡ true → x.query ≡ true → earliest (queries_under_ndfa d) ≡ Some (unit_site (unit_item x))
query_reported d items i x is lt kept formed stands query = first_listed d formed (unit_item x) later stands
    (kept ∙ (ap (λ (xs : List StoredUnit). filter (λ u. u.query) (map unit_item xs)) (drop_next items i x is lt) ∙ ap (λ (b : Bool). cond b (unit_item x ∷ later) later) query))
  where
    later : List UnitItem
    later = filter (λ u. u.query) (map unit_item (drop (i + 1) items))
