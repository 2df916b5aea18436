-- The automata of units, by their forms.
use Rattle.std.proofs.Common.{◌≡◌, ℕ, ◌+◌, ◌<◌, ◌≤◌, List, [], ◌∷◌, ◌++◌, length, map, take, get_or, Contains, Option, Some, IsTrue, refl, sym, ap, ◌∙◌, subst, arith, ⊎_elim, ◌⊎◌, inl, inr}
use Rattle.std.specs.Prelude.{is_some}
use Rattle.std.specs.List.{AllPairs}
use Rattle.std.specs.Ordering.{nat_cmp, is_eq}
use Rattle.std.specs.Cmp.{Equal-is}
use Rattle.std.specs.BTreeMap.{BTreeMap, get, Updates}
use Rattle.std.proofs.lemmas.Bool.{cases_Bool, cases_lt}
use Rattle.std.proofs.lemmas.List.{get_or_default, take_more, map-append}
use Rattle.std.proofs.lemmas.List.Elements.{Contains-push_cases}
use Rattle.std.proofs.lemmas.Map.Lookups.{exact_unsigned}
use Rattle.hz_base_model.proofs.Elements.{Contains-map}
use Rattle.hz_mdread.specs.declared.items.UnitItem.{UnitItem as StoredUnit}
use Rattle.hz_mdread.specs.Shape.{unit_item}
use Rattle.hz_description_model.specs.Reading.Descriptions.{Description, UnitItem}
use Rattle.hz_description_model.specs.Reading.DescriptionShape.{SharesAutomaton}
use Rattle.hz_check.specs.Names.Homes.{automaton_place}

-- any two units of one form have one automaton
module _ (units : List UnitItem) (pairs : AllPairs SharesAutomaton units) where
  in_order : (u v : UnitItem) (i j : ℕ) → i < j → j < length units → get_or units i u ≡ u → get_or units j v ≡ v → u.form ≡ v.form → u.automaton ≡ v.automaton
  in_order u v i j before high at there same =
      let second : get_or units j u ≡ v = get_or_default units j u v high ∙ there in
      let shares : SharesAutomaton u v = subst (λ (w : UnitItem). SharesAutomaton u w) second (subst (λ (w : UnitItem). SharesAutomaton w (get_or units j u)) at (pairs i j u before high)) in
      shares same

  pub share : (u v : UnitItem) → Contains units u → Contains units v → u.form ≡ v.form → u.automaton ≡ v.automaton
  share u v (i, low, at) (j, high, there) same = ⊎_elim
      (λ (before : i < j). in_order u v i j before high at there same)
      (λ (after : j ≤ i). ⊎_elim
      (λ (apart : j < i). sym (in_order v u j i apart low there at (sym same)))
      (λ (within : i ≤ j).
      let equal : i ≡ j = omega arith in
      let one : u ≡ v = sym at ∙ (ap (λ (k : ℕ). get_or units k u) equal ∙ (get_or_default units j u v high ∙ there)) in
      ap (λ (w : UnitItem). w.automaton) one)
      (cases_lt j i))
      (cases_lt i j)

-- what is held after an insertion: the new value for its form, and for others what was held
pub put_home : {V : Type 0} (m n : BTreeMap ℕ V) (key : ℕ) (v : V) → Updates nat_cmp m n key (Some v) → (q : ℕ) → ((key ≡ q) × (get nat_cmp n q ≡ Some v)) ⊎ (get nat_cmp n q ≡ get nat_cmp m q)
put_home m n key v updates q = ⊎_elim
    (λ equal.
    let same : key ≡ q = exact_unsigned key q ((Equal-is (nat_cmp key q)).0 equal) in
    inl (same, ap (get nat_cmp n) (sym same) ∙ updates.1))
    (λ differs. inr (updates.2 q differs))
    (cases_Bool (is_eq (nat_cmp key q)))

-- What is held for the forms of units so far: the right automaton for each unit whose form is held, and for each unit so far.
pub record HoldsHomes (d : Description) (homes : BTreeMap ℕ (Option ℕ)) (before : List UnitItem) : Type 0 where
  pub right : (u : UnitItem) (place : Option ℕ) → Contains d.units u → get nat_cmp homes u.form ≡ Some place → place ≡ automaton_place d u.automaton
  pub all : (u : UnitItem) → Contains before u → IsTrue (is_some (get nat_cmp homes u.form))

some_held : {A : Type 0} (o p : Option A) → o ≡ p → IsTrue (is_some p) → IsTrue (is_some o)
some_held o p e h = subst (λ (q : Option _). IsTrue (is_some q)) (sym e) h

module _ (d : Description) (shared : AllPairs SharesAutomaton d.units) (homes : BTreeMap ℕ (Option ℕ)) (before : List UnitItem) (h : HoldsHomes d homes before) where
  -- one more unit, whose form is held
  pub homes_kept : (u : UnitItem) → IsTrue (is_some (get nat_cmp homes u.form)) → HoldsHomes d homes (before ++ u ∷ [])
  homes_kept u there = record {
    right = h.right;
    all = λ v within. ⊎_elim (h.all v) (λ (same : u ≡ v). subst (λ (w : UnitItem). IsTrue (is_some (get nat_cmp homes w.form))) same there) (Contains-push_cases before u v within);
  }

  -- one more unit, whose form is held from now on
  pub homes_more : (u : UnitItem) (new : BTreeMap ℕ (Option ℕ)) (home : Option ℕ) → Contains d.units u → home ≡ automaton_place d u.automaton → Updates nat_cmp homes new u.form (Some home) → HoldsHomes d new (before ++ u ∷ [])
  homes_more u new home inside is updates = record {
    right = λ v place within held. ⊎_elim
        (λ (at : (u.form ≡ v.form) × (get nat_cmp new v.form ≡ Some home)).
        let found : Some home ≡ Some place = sym at.1 ∙ held in
        let same : home ≡ place = cc in
        sym same ∙ (is ∙ ap (automaton_place d) (share d.units shared u v inside within at.0)))
        (λ (kept : get nat_cmp new v.form ≡ get nat_cmp homes v.form). h.right v place within (sym kept ∙ held))
        (put_home homes new u.form home updates v.form);
    all = λ v within. ⊎_elim
        (λ (at : (u.form ≡ v.form) × (get nat_cmp new v.form ≡ Some home)). some_held (get nat_cmp new v.form) (Some home) at.1 refl)
        (λ (kept : get nat_cmp new v.form ≡ get nat_cmp homes v.form). ⊎_elim
        (λ (early : Contains before v). some_held (get nat_cmp new v.form) (get nat_cmp homes v.form) kept (h.all v early))
        (λ (same : u ≡ v). some_held (get nat_cmp new v.form) (Some home) (ap (λ (w : UnitItem). get nat_cmp new w.form) (sym same) ∙ updates.1) refl)
        (Contains-push_cases before u v within))
        (put_home homes new u.form home updates v.form);
  }

-- the units of the code
pub units_more : (items : List StoredUnit) (i : ℕ) (item : StoredUnit) → i < length items → item ≡ get_or items i item → map unit_item (take (i + 1) items) ≡ map unit_item (take i items) ++ unit_item item ∷ []
units_more items i item low is =
    ap (map unit_item) (take_more items i item low)
    ∙ (map-append unit_item (take i items) (get_or items i item ∷ [])
    ∙ ap (λ (x : StoredUnit). map unit_item (take i items) ++ unit_item x ∷ []) (sym is))

pub unit_within : (items : List StoredUnit) (i : ℕ) (item : StoredUnit) → i < length items → item ≡ get_or items i item → Contains (map unit_item items) (unit_item item)
unit_within items i item low is = Contains-map unit_item items item (i, low, sym is)
