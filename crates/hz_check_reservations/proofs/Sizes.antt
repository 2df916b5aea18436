-- Sizes of alternatives, and how far the expansion of a description has come.
use Rattle.std.proofs.Common.{◌≡◌, ℕ, ◌+◌, ◌-◌, ◌<◌, ◌≤◌, nat_lt, Bool, true, false, cond, ⊎_elim, List, [], ◌∷◌, ◌++◌, map, filter, length, get_or, take, drop, All, Contains, Some, None, refl, sym, ap, ◌∙◌, subst, arith}
use Rattle.std.proofs.lemmas.Bool.{lt-ltb, le-ltb, ltb-false, cond-true, cond-false, cond_both}
use Rattle.std.proofs.lemmas.List.{drop_more, drop_all, take_more, take_all, take-append-drop, map-append, length-map, append-nil}
use Rattle.std.proofs.lemmas.List.Elements.{All-nil, Contains-append_cases, filter-append}
use Rattle.std.proofs.lemmas.Option.{get_or_from_slice_get}
use Rattle.hz_altern.specs.declared.alternative.Alt.{Alt}
use Rattle.hz_altern.specs.Answers.{weight, total_weight}
use Rattle.hz_altern.specs.Shapes.{alternative_of, alternatives, pair_of}
use Rattle.hz_altern.specs.Tables.{known_alternatives}
use Rattle.hz_altern.specs.Tables.{alternatives_in as table_of}
use Rattle.hz_altern.proofs.Weights.{weight-append, weight-cons}
use Rattle.hz_check_reservations.specs.declared.listing.state.Expansion.{Expansion}
use Rattle.hz_check_reservations.specs.declared.listing.unexpanded.Unexpanded.{Unexpanded}
use Rattle.hz_check_reservations.specs.declared.listing.unexpanded.Unexpanded.TheVariants.{Size, NoMemory}
use Rattle.hz_check_reservations.specs.Answers.{AreExpanded, IsPastSize, IsTooLarge, Refuses, Keeps, Expands}
use Rattle.hz_check_reservations.specs.Past.{AreWithinExtents}
use Rattle.hz_check_reservations.specs.Shape.{lists_of}
use Rattle.hz_check_reservations.specs.Tables.{unit_names, IsAfter, Holds, HasAlternatives}
use Rattle.hz_check_reservations.proofs.Classes.{classes_among, classes_in_order}
use Rattle.hz_check_reservations.proofs.CountingNames.{none_after, names_there, reservation_more, class_more, list_there}
use Rattle.hz_check_reservations.proofs.Holding.{right_lists}
use Rattle.hz_check_reservations.proofs.ListedNames.{SameListed, listed_twice, alternatives_listed, same_length, same_greatest, same_size}
use Rattle.hz_check_reservations.proofs.Ordered.{in_all}
use Rattle.hz_check_reservations.proofs.Pasts.{some_long, map_twice}
use Rattle.hz_check_reservations.proofs.Unwinding.{some_known}
use Rattle.hz_description_model.specs.Reservations.Alternatives.{Alternative, alternatives_of}
use Rattle.hz_description_model.specs.Reservations.AlternativeLists.{AreSound, greatest_length}
use Rattle.hz_description_model.specs.Reservations.Automata.{UnitPlace, listed, total_size}
use Rattle.hz_description_model.specs.Check.CheckFaults.{has_too_many, has_too_long, sites_where, faults_of_names}
use Rattle.hz_description_model.specs.Check.CountingOrder.{Reserving, reserving_class, reservations_of, classes_of, alternatives_in, past_size}
use Rattle.hz_description_model.specs.Check.FirstReported.{first_reported}
use Rattle.hz_description_model.specs.Reading.Descriptions.{Description}
use Rattle.hz_description_model.specs.Reading.DescriptionShape.{IsCheckable}
use Rattle.hz_base_model.specs.Limits.{cycle_limit}
use Rattle.hz_description_model.specs.Reservations.Limits.{size_limit, alternative_limit}
use Rattle.hz_description_model.specs.Check.Places.{IsKnown, Known}
use Rattle.hz_description_model.specs.Check.Sites.{Site, earliest}
use Rattle.hz_description_model.proofs.Check.EarliestLaws.{no_site}
use Rattle.hz_base_model.proofs.Elements.{Contains-nil, Contains-cons_cases}
use Rattle.hz_check_reservations.specs.Graphs.{At}
use Rattle.hz_check_reservations.specs.Orders.{all_of, reserving, reservings, IsOrder}
use Rattle.hz_check_reservations.specs.Places.{site_of}
use Rattle.hz_check_reservations.proofs.NameFacts.{append_nil_parts}
use Rattle.hz_check_reservations.proofs.Places.{At_within, Contains-from_At}

-- the weight of stored alternatives, from the last one on
pub weigh_more : (alts : List Alt) (i : ℕ) (x : Alt) → 0 < i → i ≤ length alts → x ≡ get_or alts (i - 1) x
    → total_weight (alternatives (drop (i - 1) alts)) ≡ (x.length + length (x.pairs).items) + total_weight (alternatives (drop i alts))
weigh_more alts i x some within is =
    let step : (i - 1) + 1 ≡ i = omega arith in
    let parts : drop (i - 1) alts ≡ x ∷ drop i alts = drop_more alts (i - 1) x (omega arith)
    ∙ (ap (λ (y : Alt). y ∷ drop ((i - 1) + 1) alts) (sym is) ∙ ap (λ (n : ℕ). x ∷ drop n alts) step) in
    let here : weight (alternative_of x) ≡ x.length + length (x.pairs).items = ap (λ (n : ℕ). x.length + n) (length-map (x.pairs).items pair_of) in
    ap (λ (xs : List Alt). total_weight (alternatives xs)) parts ∙ (weight-cons (alternative_of x) (alternatives (drop i alts)) ∙ ap (λ (n : ℕ). n + total_weight (alternatives (drop i alts))) here)

pub weigh_within : (alts : List Alt) (i : ℕ) → total_weight (alternatives (drop i alts)) ≤ total_weight (alternatives alts)
weigh_within alts i =
    let parts = ap (λ (xs : List Alt). total_weight (alternatives xs)) (take-append-drop i alts) in
    let both = ap total_weight (map-append alternative_of (take i alts) (drop i alts)) in
    let sum = weight-append (alternatives (take i alts)) (alternatives (drop i alts)) in
    omega arith

-- ---- which reservations and classes are within the limits

none_pass : (test : Reserving → Bool) (items : List Reserving) → map (λ (r : Reserving). r.site) (filter test items) ≡ [] → (r : Reserving) → Contains items r → test r ≡ false
none_pass test [] e r h = absurd (Contains-nil r h)
none_pass test (q ∷ items) e r h = cond_both (test q) (q ∷ filter test items) (filter test items) (λ (rs : List Reserving). map (λ (r : Reserving). r.site) rs ≡ [] → test r ≡ false)
    (λ _ e. absurd (cc))
    (λ fails e. ⊎_elim
    (λ (same : q ≡ r). ap test (sym same) ∙ fails)
    (λ (k : Contains items r). none_pass test items e r k)
    (Contains-cons_cases q r items h)) e

all_pass_none : (test : Reserving → Bool) (d : Description) → earliest (sites_where test d) ≡ None → (r : Reserving) → Contains (all_of d) r → test r ≡ false
all_pass_none test d e r there =
    let first = map (λ (r : Reserving). r.site) (filter test (reservations_of d)) in
    let second = map (λ (r : Reserving). r.site) (filter test (classes_of d)) in
    let none = append_nil_parts first second (no_site (sites_where test d) e) in
    ⊎_elim
    (λ (k : Contains (reservations_of d) r). none_pass test (reservations_of d) none.0 r k)
    (λ (k : Contains (classes_of d) r). none_pass test (classes_of d) none.1 r k)
    (Contains-append_cases (reservations_of d) (classes_of d) r there)

module _ (d : Description) (order : List Reserving) (extents : AreWithinExtents d order) (known : Known) (right : IsKnown d known) (r : Reserving) (there : Contains (all_of d) r) where
  few_all : length (alternatives_in known r) ≤ alternative_limit
  few_all = ltb-false alternative_limit (length (alternatives_in known r)) (all_pass_none (has_too_many known) d (extents.few known right) r there)

  short_all : greatest_length (alternatives_in known r) ≤ cycle_limit
  short_all = ltb-false cycle_limit (greatest_length (alternatives_in known r)) (sym (some_long (alternatives_in known r)) ∙ all_pass_none (has_too_long known) d (extents.short known right) r there)

-- ---- how far the expansion has come

-- what each class has
abbrev listed_lists : Known → List Reserving → List (List (Alternative UnitPlace))
listed_lists known items = map (λ r. map listed (alternatives_in known r)) items

pub record Progress (d : Description) (order : List ℕ) (i : ℕ) (s : Expansion) : Type 0 where
  pub holds : Holds (HasAlternatives d) (IsAfter d (take i order)) (table_of s.known)
  pub small : s.size ≤ size_limit
  pub sizes : (known : Known) → IsKnown d known → past_size known 0 (reservings d order) ≡ past_size known s.size (reservings d (drop i order))
  pub lists : (known : Known) → IsKnown d known → lists_of s.lists.items ≡ listed_lists known (classes_among (reservings d (take i order)))
  pub sound : All (λ list. AreSound (alternatives list.items)) s.lists.items

module _ (d : Description) (reported : first_reported (faults_of_names d) ≡ None) (formed : IsCheckable d) (order : List ℕ) (ordered : IsOrder d order) where
  pub none_expanded : (s : Expansion) → Holds (HasAlternatives d) (Contains (unit_names d)) (table_of s.known) → s.size ≡ 0 → s.lists.items ≡ [] → Progress d order 0 s
  none_expanded s h size lists = record {
    holds = none_after (HasAlternatives d) d reported formed order ordered (table_of s.known) h;
    small = omega arith;
    sizes = λ known right. ap (λ (n : ℕ). past_size known n (reservings d order)) (sym size);
    lists = λ known right. ap lists_of lists;
    sound = subst (All (λ list. AreSound (alternatives list.items))) (sym lists) (All-nil (λ list. AreSound (alternatives list.items)));
  }

  pub all_expanded : (i : ℕ) (s : Expansion) → length order ≤ i → Progress d order i s → AreExpanded d (reservings d order) s.lists.items
  all_expanded i s le p = record {
    each = λ known right. p.lists known right
        ∙ (ap (λ (xs : List ℕ). listed_lists known (classes_among (reservings d xs))) (take_all i order le)
        ∙ (ap (listed_lists known) (classes_in_order d (reservings d order) ordered.counts)
        ∙ map_twice (λ (r : Reserving). map listed (alternatives_in known r)) reserving_class d.classes));
    sound = p.sound;
    within = λ known right. ap earliest (p.sizes known right ∙ ap (λ (xs : List ℕ). past_size known s.size (reservings d xs)) (drop_all i order le));
  }

  module _ (i number : ℕ) (at : At order i number) (q : Reserving) (is : q ≡ reserving d number) (s : Expansion) (p : Progress d order i s) where
    abbrev all : List (Alternative UnitPlace)
    all = alternatives_of (known_alternatives s.known) q.expression

    -- the alternatives are those of the definition, but for how they are listed
    same_all : (known : Known) → IsKnown d known → SameListed all (alternatives_in known q)
    same_all known right = alternatives_listed (known_alternatives s.known) known q.expression (λ name m.
        ap (map listed) (right_lists d (IsAfter d (take i order)) known right (table_of s.known) p.holds q.expression (names_there (HasAlternatives d) d reported formed order ordered i number at q is) name m)
        ∙ listed_twice (known name))

    there : Contains (all_of d) q
    there = subst (Contains (all_of d)) (sym is) (in_all d reported formed order ordered number (ordered.within number (Contains-from_At order i number at)))

    pub few_there : AreWithinExtents d (reservings d order) → length all ≤ alternative_limit
    few_there extents =
        let k = some_known d reported formed order ordered in
        let few = few_all d (reservings d order) extents k.0 k.1 q there in
        omega (arith, same_length all (alternatives_in k.0 q) (same_all k.0 k.1))

    pub short_there : AreWithinExtents d (reservings d order) → greatest_length all ≤ cycle_limit
    short_there extents =
        let k = some_known d reported formed order ordered in
        let short = short_all d (reservings d order) extents k.0 k.1 q there in
        omega (arith, same_greatest all (alternatives_in k.0 q) (same_all k.0 k.1))

    -- what is left begins with this one
    rest : (known : Known) (n : ℕ) → past_size known n (reservings d (drop i order)) ≡ past_size known n (q ∷ reservings d (drop (i + 1) order))
    rest known n =
        let parts : drop i order ≡ number ∷ drop (i + 1) order = drop_more order i number (At_within order i number at) ∙ ap (λ (m : ℕ). m ∷ drop (i + 1) order) (get_or_from_slice_get order i number number at) in
        ap (λ (xs : List ℕ). past_size known n (reservings d xs)) parts ∙ ap (λ (r : Reserving). past_size known n (r ∷ reservings d (drop (i + 1) order))) (sym is)

    too_large : (site : Site) → site ≡ q.site → size_limit < s.size + total_size all → IsPastSize d (reservings d order) site
    too_large site same over = record {
      first = λ known right.
          let size = same_size all (alternatives_in known q) (same_all known right) in
          let high : size_limit < s.size + total_size (alternatives_in known q) = omega arith in
          ap earliest (p.sizes known right ∙ (rest known s.size ∙ cond-true (nat_lt size_limit (s.size + total_size (alternatives_in known q))) (q.site ∷ []) (past_size known (s.size + total_size (alternatives_in known q)) (reservings d (drop (i + 1) order))) (lt-ltb size_limit (s.size + total_size (alternatives_in known q)) high)))
          ∙ ap Some (sym same);
    }

    pub refused_there : (fault : Unexpanded) → IsTooLarge q all s fault → Refuses d (reservings d order) fault
    refused_there (Size site) h = too_large (site_of site) h.0 h.1
    refused_there NoMemory h = tt

    taken : classes_among (reservings d (take (i + 1) order)) ≡ classes_among (reservings d (take i order)) ++ cond q.is_class (q ∷ []) []
    taken =
        let parts : take (i + 1) order ≡ take i order ++ number ∷ [] = take_more order i number (At_within order i number at) ∙ ap (λ (m : ℕ). take i order ++ m ∷ []) (get_or_from_slice_get order i number number at) in
        ap (λ (xs : List ℕ). classes_among (reservings d xs)) parts
        ∙ (ap classes_among (map-append (reserving d) (take i order) (number ∷ []))
        ∙ (filter-append (λ (r : Reserving). r.is_class) (reservings d (take i order)) (reserving d number ∷ [])
        ∙ ap (λ (r : Reserving). classes_among (reservings d (take i order)) ++ cond r.is_class (r ∷ []) []) (sym is)))

    pub expanded_more : (t : Expansion) → Expands q all s t → Progress d order (i + 1) t
    expanded_more t e = record { holds = holds q.is_class refl e.keeps; small = e.small; sizes = sizes; lists = lists q.is_class refl e.keeps; sound = (e.sound).each p.sound }
      where
        holds : (b : Bool) → q.is_class ≡ b → Keeps b (q.site).name (map listed all) s t → Holds (HasAlternatives d) (IsAfter d (take (i + 1) order)) (table_of t.known)
        holds true class k = subst (λ table. Holds (HasAlternatives d) (IsAfter d (take (i + 1) order)) (table_of table)) (sym k.0)
            (class_more (HasAlternatives d) d reported formed order ordered i number at q is (table_of s.known) class p.holds)
        holds false plain k = reservation_more (HasAlternatives d) d reported formed order ordered i number at q is (map listed all) (table_of s.known) (table_of t.known) plain k.0
            (list_there d reported formed order ordered i number at q is (map listed all) plain same_all) p.holds

        sizes : (known : Known) → IsKnown d known → past_size known 0 (reservings d order) ≡ past_size known t.size (reservings d (drop (i + 1) order))
        sizes known right =
            let size = same_size all (alternatives_in known q) (same_all known right) in
            let sum : t.size ≡ s.size + total_size (alternatives_in known q) = omega (arith, e.size) in
            let low : s.size + total_size (alternatives_in known q) ≤ size_limit = omega (arith, e.small) in
            p.sizes known right ∙ (rest known s.size
            ∙ (cond-false (nat_lt size_limit (s.size + total_size (alternatives_in known q))) (q.site ∷ []) (past_size known (s.size + total_size (alternatives_in known q)) (reservings d (drop (i + 1) order))) (le-ltb size_limit (s.size + total_size (alternatives_in known q)) low)
            ∙ ap (λ (n : ℕ). past_size known n (reservings d (drop (i + 1) order))) (sym sum)))

        lists : (b : Bool) → q.is_class ≡ b → Keeps b (q.site).name (map listed all) s t → (known : Known) → IsKnown d known → lists_of t.lists.items ≡ listed_lists known (classes_among (reservings d (take (i + 1) order)))
        lists true class k known right =
            k.1 ∙ (ap (λ xs. xs ++ map listed all ∷ []) (p.lists known right)
            ∙ (ap (λ x. listed_lists known (classes_among (reservings d (take i order))) ++ x ∷ []) (same_all known right)
            ∙ (sym (map-append (λ (r : Reserving). map listed (alternatives_in known r)) (classes_among (reservings d (take i order))) (q ∷ []))
            ∙ ap (listed_lists known) (ap (λ (c : Bool). classes_among (reservings d (take i order)) ++ cond c (q ∷ []) []) (sym class) ∙ sym taken))))
        lists false plain k known right =
            k.1 ∙ (p.lists known right
            ∙ ap (listed_lists known) (sym (append-nil (classes_among (reservings d (take i order)))) ∙ (ap (λ (c : Bool). classes_among (reservings d (take i order)) ++ cond c (q ∷ []) []) (sym plain) ∙ sym taken)))
