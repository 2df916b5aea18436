-- The earliest classes that break the two rules.
use Rattle.std.proofs.Common.{◌≡◌, ℕ, ◌+◌, ◌-◌, ◌<◌, ◌≤◌, Bool, true, false, ◌&&◌, cond, ⊎_elim, List, [], ◌∷◌, map, filter, length, get_or, drop, Contains, Option, Some, None, refl, sym, ap, ◌∙◌, subst, arith}
use Rattle.std.proofs.lemmas.Bool.{cond_both, ltb-false}
use Rattle.std.proofs.lemmas.List.{drop_more, drop_all, length-map, get_or-map}
use Rattle.std.proofs.lemmas.List.Elements.{Contains-append_right}
use Rattle.hz_base_model.proofs.Elements.{Contains-nil, Contains-cons_cases}
use Rattle.hz_base_model.specs.Limits.{cycle_limit}
use Rattle.hz_description_model.specs.Reservations.AlternativeLists.{greatest_length}
use Rattle.hz_description_model.specs.Reservations.Alternatives.{alternatives_of}
use Rattle.hz_description_model.specs.Check.CheckFaults.{faults_of_names, has_too_long, sites_where}
use Rattle.hz_description_model.specs.Check.CountingOrder.{Reserving, reserving_class, classes_of, reservations_of, alternatives_in}
use Rattle.hz_description_model.specs.Check.FirstReported.{first_reported}
use Rattle.hz_description_model.specs.Check.Places.{Known}
use Rattle.hz_description_model.specs.Check.Places.{meaning, IsKnown}
use Rattle.hz_description_model.specs.Check.Sites.{earlier, earliest}
use Rattle.hz_description_model.proofs.Check.EarliestLaws.{no_site}
use Rattle.hz_check_reservations.specs.Past.{AreWithinExtents, sites_of}
use Rattle.hz_check_reservations.specs.Tables.{Holds, IsAfter}
use Rattle.hz_check_reservations.proofs.Ordered.{names_in_all}
use Rattle.hz_check_reservations.proofs.Pasts.{some_long}
use Rattle.hz_mdread.specs.declared.items.ClassItem.{ClassItem}
use Rattle.hz_mdread.specs.Shape.{class_item}
use Rattle.hz_description_model.specs.Reading.Descriptions.{Description}
use Rattle.hz_description_model.specs.Reading.DescriptionShape.{IsCheckable}
use Rattle.hz_description_model.specs.Splits.Rules.{is_mixed_class, is_uneven_class, passes_in, is_uneven}
use Rattle.hz_check_reservations.specs.Orders.{IsOrder, reservings, all_of}
use Rattle.hz_check_reservations.specs.Places.{reported}
use Rattle.hz_check_reservations.proofs.NameFacts.{append_nil_parts}
use Rattle.hz_check_reservations.specs.declared.rules.breaking.BrokenRules.{BrokenRules}
use Rattle.hz_check_reservations.specs.declared.rules.habits.Habits.{Habits}
use Rattle.hz_check_reservations.specs.Broken.{AreBroken}
use Rattle.hz_check_reservations.specs.Habits.{FitsExpression}
use Rattle.hz_check_reservations.specs.Spreads.{are_several}
use Rattle.hz_check_reservations.specs.HabitTables.{HasHabits, mixed_in, uneven_in}
use Rattle.hz_check_reservations.proofs.NameHabits.{right_habits}
use Rattle.hz_check_reservations.proofs.Says.{Says}
use Rattle.hz_check_reservations.proofs.SpreadLaws.{two_automata}

-- a class within the limit of cycles

none_pass : (test : Reserving → Bool) (items : List Reserving) → sites_of test items ≡ [] → (r : Reserving) → Contains items r → test r ≡ false
none_pass test [] e r h = absurd (Contains-nil r h)
none_pass test (q ∷ items) e r h = cond_both (test q) (q ∷ filter test items) (filter test items) (λ (rs : List Reserving). map (λ (r : Reserving). r.site) rs ≡ [] → test r ≡ false)
    (λ _ e. absurd (cc))
    (λ fails e. ⊎_elim
    (λ (same : q ≡ r). ap test (sym same) ∙ fails)
    (λ (k : Contains items r). none_pass test items e r k)
    (Contains-cons_cases q r items h)) e

class_short : (d : Description) (order : List Reserving) → AreWithinExtents d order → (known : Known) → IsKnown d known → (r : Reserving) → Contains (classes_of d) r → greatest_length (alternatives_of known r.expression) ≤ cycle_limit
class_short d order extents known right r there =
    let test = has_too_long known in
    let none = append_nil_parts (sites_of test (reservations_of d)) (sites_of test (classes_of d)) (no_site (sites_where test d) (extents.short known right)) in
    ltb-false cycle_limit (greatest_length (alternatives_in known r)) (sym (some_long (alternatives_in known r)) ∙ none_pass test (classes_of d) none.1 r there)

-- a class that the code holds

pub class_at : (items : List ClassItem) (k : ℕ) (x : ClassItem) → k < length items → x ≡ get_or items k x
    → reserving_class (class_item x) ≡ get_or (map reserving_class (map class_item items)) k (reserving_class (class_item x))
class_at items k x low is =
    ap (λ (y : ClassItem). reserving_class (class_item y)) is
    ∙ sym (get_or-map reserving_class (map class_item items) k (class_item x) (reserving_class (class_item x)) (omega (arith, length-map items class_item))
    ∙ ap reserving_class (get_or-map class_item items k x (class_item x) low))

pub class_in : (items : List ClassItem) (k : ℕ) (x : ClassItem) → k < length items → x ≡ get_or items k x → Contains (map reserving_class (map class_item items)) (reserving_class (class_item x))
class_in items k x low is = (k, omega (arith, length-map items class_item, length-map (map class_item items) reserving_class), sym (class_at items k x low is))

pub all_of_classes : (d : Description) (r : Reserving) → Contains (classes_of d) r → Contains (all_of d) r
all_of_classes d r k = Contains-append_right (reservations_of d) (classes_of d) r k

-- one class in front of others

in_front : (test : Reserving → Bool) (q : Reserving) (items : List Reserving) (passed : Bool) → test q ≡ passed → earliest (sites_of test (q ∷ items)) ≡ earlier (cond passed (Some q.site) None) (earliest (sites_of test items))
in_front test q items passed is = ap (λ (b : Bool). earliest (map (λ (r : Reserving). r.site) (cond b (q ∷ filter test items) (filter test items)))) is ∙ by_test passed
  where
    by_test : (b : Bool) → earliest (map (λ (r : Reserving). r.site) (cond b (q ∷ filter test items) (filter test items))) ≡ earlier (cond b (Some q.site) None) (earliest (sites_of test items))
    by_test true = refl
    by_test false = refl

module _ (d : Description) where
  abbrev mixes : Known → Reserving → Bool
  mixes known r = is_mixed_class (meaning d) (length d.reservations) known r.expression

  abbrev varies : Known → Reserving → Bool
  varies known r = is_uneven_class (meaning d) (length d.reservations) known r.expression

  -- the earliest of these classes that break the rules
  pub record AreBrokenAmong (items : List Reserving) (broken : BrokenRules) : Type 0 where
    pub mixed : (known : Known) → IsKnown d known → reported broken.mixed ≡ earliest (sites_of (mixes known) items)
    pub uneven : (known : Known) → IsKnown d known → reported broken.uneven ≡ earliest (sites_of (varies known) items)

  pub none_broken : (i : ℕ) (broken : BrokenRules) → length (classes_of d) ≤ i → reported broken.mixed ≡ None → reported broken.uneven ≡ None → AreBrokenAmong (drop i (classes_of d)) broken
  none_broken i broken past a b = subst (λ (items : List Reserving). AreBrokenAmong items broken) (sym (drop_all i (classes_of d) past)) (record { mixed = λ _ _. a; uneven = λ _ _. b })

  pub all_broken : (broken : BrokenRules) → AreBrokenAmong (classes_of d) broken → AreBroken d broken
  all_broken broken among = record { mixed = among.mixed; uneven = among.uneven }

  module _ (reported_names : first_reported (faults_of_names d) ≡ None) (formed : IsCheckable d) (order : List ℕ) (ordered : IsOrder d order) (extents : AreWithinExtents d (reservings d order))
      (table : List ℕ → Option Habits) (h : Holds (HasHabits d) (IsAfter d order) table) where
    fits_class : (known : Known) → IsKnown d known → (q : Reserving) → Contains (classes_of d) q → (x : Habits) → Says table q.expression x → FitsExpression known (mixed_in d known) (uneven_in d known) q.expression x
    fits_class known right q there x says = says known (mixed_in d known) (uneven_in d known)
        (right_habits d (IsAfter d order) known right table h q.expression (names_in_all d reported_names formed order ordered q (all_of_classes d q there)))

    varies_is : (known : Known) → IsKnown d known → (q : Reserving) → Contains (classes_of d) q → (x : Habits) → Says table q.expression x → varies known q ≡ (are_several x.spread && x.uneven)
    varies_is known right q there x says =
        let fits = fits_class known right q there x says in
        let short = class_short d (reservings d order) extents known right q there in
        ap (λ (b : Bool). b && passes_in (is_uneven known) (meaning d) (length d.reservations) q.expression) (two_automata (alternatives_of known q.expression) ∙ ap are_several (sym fits.spread))
        ∙ ap (λ (b : Bool). are_several x.spread && b) (sym (fits.uneven short))

    pub broken_more : (i : ℕ) (q : Reserving) (x : Habits) (now next : BrokenRules) → 0 < i → i ≤ length (classes_of d) → q ≡ get_or (classes_of d) (i - 1) q → Contains (classes_of d) q → Says table q.expression x
        → reported next.mixed ≡ earlier (cond x.mixed (Some q.site) None) (reported now.mixed)
        → reported next.uneven ≡ earlier (cond (are_several x.spread && x.uneven) (Some q.site) None) (reported now.uneven)
        → AreBrokenAmong (drop i (classes_of d)) now → AreBrokenAmong (drop (i - 1) (classes_of d)) next
    broken_more i q x now next some within is there says mixed uneven among =
        let items = classes_of d in
        let step : (i - 1) + 1 ≡ i = omega arith in
        let parts : drop (i - 1) items ≡ q ∷ drop i items = drop_more items (i - 1) q (omega arith)
        ∙ (ap (λ (r : Reserving). r ∷ drop ((i - 1) + 1) items) (sym is) ∙ ap (λ (n : ℕ). q ∷ drop n items) step) in
        subst (λ (rs : List Reserving). AreBrokenAmong rs next) (sym parts) (record {
          mixed = λ known right.
              mixed ∙ (ap (earlier (cond x.mixed (Some q.site) None)) (among.mixed known right)
              ∙ sym (in_front (mixes known) q (drop i items) x.mixed (sym (fits_class known right q there x says).mixed)));
          uneven = λ known right.
              uneven ∙ (ap (earlier (cond (are_several x.spread && x.uneven) (Some q.site) None)) (among.uneven known right)
              ∙ sym (in_front (varies known) q (drop i items) (are_several x.spread && x.uneven) (varies_is known right q there x says)));
        })
