-- The places of units, unit by unit.
use Rattle.std.proofs.Common.{◌≡◌, ◌≢◌, ℕ, suc, ◌<◌, ◌≤◌, ◌+◌, ◌==◌, nat_lt, List, [], ◌∷◌, ◌++◌, map, length, take, drop, get_or, get_or-set_same, get_or-set_other, Option, Some, None, Bool, true, false, All, refl, sym, ap, ◌∙◌, subst, arith, cond, ⊎_elim, append_assoc, unwrap_or, lit<}
use Rattle.std.proofs.Math.ListN.{set, length-set}
use Rattle.std.proofs.lemmas.Bool.{cases_eq, cases_lt, lt-ltb, le-ltb}
use Rattle.std.proofs.lemmas.Bool.Decides.{nat_tests}
use Rattle.std.proofs.lemmas.List.{take_more, map-append, length-map}
use Rattle.std.proofs.lemmas.List.Elements.{All-push}
use Rattle.std.proofs.lemmas.List.Quantifiers.{position-Some}
use Rattle.std.proofs.lemmas.List.Sums.{sum_by-append}
use Rattle.std.specs.List.{AllPairs, drop-map}
use Rattle.std.specs.Str.{bytes_eq}
use Rattle.std.specs.Prelude.{count_by}
use Rattle.hz_base_model.specs.Limits.{unit_limit}
use Rattle.hz_mdread.specs.declared.items.UnitItem.{UnitItem as StoredUnit}
use Rattle.hz_mdread.specs.Shape.{unit_item}
use Rattle.hz_check_reservations.specs.declared.listing.unit_place.UnitPlace.{UnitPlace as Place}
use Rattle.hz_check_reservations.specs.Shape.{place_of}
use Rattle.hz_check.specs.Faults.PastUnits.{IsWithin}
use Rattle.hz_check.proofs.Lists.Earliest.{earlier-earlier}
use Rattle.hz_check.proofs.Lists.InOrder.{earlier_one}
use Rattle.hz_checked.proofs.RowSteps.{AllPairs-drop}
use Rattle.hz_check.proofs.Lists.Next.{drop_next}
use Rattle.hz_base_model.proofs.Ascending.{AllPairs-head}
use Rattle.hz_description_model.specs.Reservations.Automata.{UnitPlace}
use Rattle.hz_description_model.specs.Check.CheckFaults.{past_units}
use Rattle.hz_description_model.specs.Reading.Descriptions.{Description, UnitItem}
use Rattle.hz_description_model.specs.Check.Places.{automaton_number, automaton_numbers, place_after, places_after, unit_places}
use Rattle.hz_description_model.specs.Check.Sites.{Site, earlier, earliest}
use Rattle.hz_base_model.specs.Lines.{place_of as place_in}

count_push : (p : ℕ → Bool) (xs : List ℕ) (y : ℕ) → count_by p (xs ++ y ∷ []) ≡ count_by p xs + cond (p y) 1 0
count_push p xs y = sum_by-append (λ x. cond (p x) 1 0) xs (y ∷ []) ∙ omega arith

counted : (counts : List ℕ) (number a count : ℕ) → number < length counts → get_or counts a 0 ≡ count → get_or (set counts number (get_or counts number 0 + 1)) a 0 ≡ count + cond (number == a) 1 0
counted counts number a count lt is = ⊎_elim
    (λ (e : number ≡ a). grind (arith, nat_tests, get_or-set_same counts number (get_or counts number 0 + 1) 0 lt))
    (λ (ne : number ≢ a). grind (arith, nat_tests, get_or-set_other))
    (cases_eq number a)

-- a unit past the limit is reported before one of a later form
reported_before : (s : Site) (u : UnitItem) (sites : List Site) (b : Bool) → s.form ≤ u.form → earlier (Some s) (earliest sites) ≡ Some s → earlier (Some s) (earliest (cond b sites (record { line = u.line; form = u.form; name = u.name } ∷ sites))) ≡ Some s
reported_before s u sites true le later = later
reported_before s u sites false le later =
    sym (earlier-earlier (Some s) (Some (record { line = u.line; form = u.form; name = u.name })) (earliest sites))
    ∙ (ap (λ (o : Option Site). earlier o (earliest sites)) (earlier_one s (record { line = u.line; form = u.form; name = u.name }) le) ∙ later)

-- the same of all later ones
earlier_units : (s : Site) (units : List UnitItem) (places : List UnitPlace) → All (λ u. s.form ≤ u.form) units → earlier (Some s) (earliest (past_units units places)) ≡ Some s
earlier_units s [] places all = refl
earlier_units s (u ∷ units) [] all = refl
earlier_units s (u ∷ units) (p ∷ places) all =
    reported_before s u (past_units units places) (nat_lt p.unit unit_limit) (all 0 u (omega arith)) (earlier_units s units places (λ k d lt. all (suc k) d (omega arith)))

number_in : (n : ℕ) (o : Option ℕ) → 0 < n → ((i : ℕ) → o ≡ Some i → i < n) → unwrap_or o 0 < n
number_in n None some below = some
number_in n (Some i) some below = below i refl

-- the number of an automaton
pub automaton_below : (d : Description) (automaton : Option (List ℕ)) → length d.automata ≤ 16 → automaton_number d automaton < 16
automaton_below d None few = lit< tt
automaton_below d (Some name) few =
    let names : List (List ℕ) = map (λ a. a.name) d.automata in
    number_in 16 (place_in name names) (lit< tt)
    (λ i e. omega (arith, (position-Some (bytes_eq name) names i name e).0, length-map d.automata (λ a. a.name)))

module _ (d : Description) (items : List StoredUnit) (i : ℕ) (item : StoredUnit) (is : item ≡ get_or items i item) (lt : i < length items) where
  done_next : map unit_item (take (i + 1) items) ≡ map unit_item (take i items) ++ unit_item item ∷ []
  done_next =
      ap (map unit_item) (take_more items i item lt ∙ ap (λ (x : StoredUnit). take i items ++ x ∷ []) (sym is)) ∙ map-append unit_item (take i items) (item ∷ [])

  after_now : places_after d (map unit_item (take i items)) (map unit_item (drop i items))
      ≡ place_after d (map unit_item (take i items)) (unit_item item) ∷ places_after d (map unit_item (take (i + 1) items)) (map unit_item (drop (i + 1) items))
  after_now =
      ap (λ (xs : List StoredUnit). places_after d (map unit_item (take i items)) (map unit_item xs)) (drop_next items i item is lt)
      ∙ ap (λ (done : List UnitItem). place_after d (map unit_item (take i items)) (unit_item item) ∷ places_after d done (map unit_item (drop (i + 1) items))) (sym done_next)

  module _ (counts : List ℕ) (right : (a : ℕ) → a < 16 → get_or counts a 0 ≡ count_by (λ n. n == a) (automaton_numbers d (map unit_item (take i items)))) (number : ℕ) (at : number ≡ automaton_number d item.automaton) (few : number < 16) where
    -- the counts with one unit more
    pub counts_next : length counts ≡ 16 → (a : ℕ) → a < 16 → get_or (set counts number (get_or counts number 0 + 1)) a 0 ≡ count_by (λ n. n == a) (automaton_numbers d (map unit_item (take (i + 1) items)))
    counts_next size a below =
        counted counts number a (count_by (λ n. n == a) (automaton_numbers d (map unit_item (take i items)))) (omega arith) (right a below)
        ∙ (ap (λ (n : ℕ). count_by (λ m. m == a) (automaton_numbers d (map unit_item (take i items))) + cond (n == a) 1 0) at
        ∙ (sym (count_push (λ n. n == a) (automaton_numbers d (map unit_item (take i items))) (automaton_number d item.automaton))
        ∙ (ap (count_by (λ n. n == a)) (sym (map-append (λ u. automaton_number d u.automaton) (map unit_item (take i items)) (unit_item item ∷ [])))
        ∙ ap (λ (done : List UnitItem). count_by (λ n. n == a) (automaton_numbers d done)) (sym done_next))))

    place_here : place_after d (map unit_item (take i items)) (unit_item item) ≡ record { automaton = number; unit = get_or counts number 0 }
    place_here = ap (λ (n : ℕ). record { automaton = n; unit = count_by (λ a. a == n) (automaton_numbers d (map unit_item (take i items))) }) (sym at)
        ∙ ap (λ (n : ℕ). record { automaton = number; unit = n }) (sym (right number few))

    -- the places with one more
    pub places_next : (all : List UnitPlace) (places : List Place) → all ≡ map place_of places ++ places_after d (map unit_item (take i items)) (map unit_item (drop i items))
        → all ≡ map place_of (places ++ record { automaton = number; unit = get_or counts number 0 } ∷ []) ++ places_after d (map unit_item (take (i + 1) items)) (map unit_item (drop (i + 1) items))
    places_next all places kept =
        let p : Place = record { automaton = number; unit = get_or counts number 0 } in
        let later : List UnitPlace = places_after d (map unit_item (take (i + 1) items)) (map unit_item (drop (i + 1) items)) in
        kept
        ∙ (ap (λ (ps : List UnitPlace). map place_of places ++ ps) (after_now ∙ ap (λ (q : UnitPlace). q ∷ later) place_here)
        ∙ (sym (append_assoc (map place_of places) (place_of p ∷ []) later)
        ∙ ap (λ (ps : List UnitPlace). ps ++ later) (sym (map-append place_of places (p ∷ [])))))

    abbrev later_units : List Site
    later_units = past_units (map unit_item (drop (i + 1) items)) (places_after d (map unit_item (take (i + 1) items)) (map unit_item (drop (i + 1) items)))

    abbrev here : Site
    here = record { line = item.line; form = item.form; name = item.name }

    -- the units past the limit, by the first of those that are left
    units_now : past_units (map unit_item (drop i items)) (places_after d (map unit_item (take i items)) (map unit_item (drop i items)))
        ≡ cond (nat_lt (place_after d (map unit_item (take i items)) (unit_item item)).unit unit_limit) later_units (here ∷ later_units)
    units_now =
        ap (λ (xs : List StoredUnit). past_units (map unit_item xs) (places_after d (map unit_item (take i items)) (map unit_item (drop i items)))) (drop_next items i item is lt)
        ∙ ap (past_units (map unit_item (item ∷ drop (i + 1) items))) after_now

    -- a unit within the limit
    pub within_next : (all : List Site) → get_or counts number 0 < unit_limit → all ≡ past_units (map unit_item (drop i items)) (places_after d (map unit_item (take i items)) (map unit_item (drop i items)))
        → all ≡ past_units (map unit_item (drop (i + 1) items)) (places_after d (map unit_item (take (i + 1) items)) (map unit_item (drop (i + 1) items)))
    within_next all below kept =
        kept ∙ (units_now ∙ ap (λ (b : Bool). cond b later_units (here ∷ later_units)) (ap (λ (q : UnitPlace). nat_lt q.unit unit_limit) place_here ∙ lt-ltb (get_or counts number 0) unit_limit below))

    -- a unit, where no unit is past the limit
    pub below_here : [] ≡ past_units (map unit_item (drop i items)) (places_after d (map unit_item (take i items)) (map unit_item (drop i items))) → get_or counts number 0 < unit_limit
    below_here none = ⊎_elim
        (λ (below : get_or counts number 0 < unit_limit). below)
        (λ (past : unit_limit ≤ get_or counts number 0). absurd (omega (arith, ap length (none ∙ (units_now ∙ ap (λ (b : Bool). cond b later_units (here ∷ later_units)) (ap (λ (q : UnitPlace). nat_lt q.unit unit_limit) place_here ∙ le-ltb (get_or counts number 0) unit_limit past))))))
        (cases_lt (get_or counts number 0) unit_limit)

    -- a unit past the limit
    pub past_here : (all : List Site) → unit_limit ≤ get_or counts number 0 → AllPairs (λ u v. u.form ≤ v.form) (map unit_item items)
        → all ≡ past_units (map unit_item (drop i items)) (places_after d (map unit_item (take i items)) (map unit_item (drop i items)))
        → earliest all ≡ Some (record { line = item.line; form = item.form; name = item.name })
    past_here all past ordered kept =
        ap earliest (kept ∙ (units_now ∙ ap (λ (b : Bool). cond b later_units (here ∷ later_units)) (ap (λ (q : UnitPlace). nat_lt q.unit unit_limit) place_here ∙ le-ltb (get_or counts number 0) unit_limit past)))
        ∙ earlier_units here (map unit_item (drop (i + 1) items)) (places_after d (map unit_item (take (i + 1) items)) (map unit_item (drop (i + 1) items)))
        (AllPairs-head (λ u v. u.form ≤ v.form) (unit_item item) (map unit_item (drop (i + 1) items))
        (subst (λ (us : List UnitItem). AllPairs (λ u v. u.form ≤ v.form) us) (drop-map unit_item i items ∙ ap (map unit_item) (drop_next items i item is lt)) (AllPairs-drop (λ u v. u.form ≤ v.form) i (map unit_item items) ordered)))

-- so many units have their places, none is past the limit of its automaton, and the counts are those of the units before
pub record ArePlacedTo (d : Description) (items : List StoredUnit) (i : ℕ) (counts : List ℕ) (places : List Place) : Type 0 where
  pub whole : unit_places d ≡ map place_of places ++ places_after d (map unit_item (take i items)) (map unit_item (drop i items))
  pub each : All IsWithin places
  pub size : length counts ≡ 16
  pub right : (automaton : ℕ) → automaton < 16 → get_or counts automaton 0 ≡ count_by (λ a. a == automaton) (automaton_numbers d (map unit_item (take i items)))
  pub past : [] ≡ past_units (map unit_item (drop i items)) (places_after d (map unit_item (take i items)) (map unit_item (drop i items)))

-- the unit after them gets its place
pub placed_next : (d : Description) (items : List StoredUnit) (i : ℕ) (item : StoredUnit) → item ≡ get_or items i item → i < length items
    → (counts : List ℕ) (places : List Place) (number : ℕ) → number ≡ automaton_number d item.automaton → number < 16 → ArePlacedTo d items i counts places
    → ArePlacedTo d items (i + 1) (set counts number (get_or counts number 0 + 1)) (places ++ record { automaton = number; unit = get_or counts number 0 } ∷ [])
placed_next d items i item is lt counts places number at few placed =
    let below = below_here d items i item is lt counts (placed.right) number at few (placed.past) in
    record {
      whole = places_next d items i item is lt counts (placed.right) number at few (unit_places d) places (placed.whole);
      each = All-push IsWithin places (record { automaton = number; unit = get_or counts number 0 }) (placed.each) (record { automaton = few; unit = below });
      size = length-set counts number (get_or counts number 0 + 1) ∙ placed.size;
      right = counts_next d items i item is lt counts (placed.right) number at few (placed.size);
      past = within_next d items i item is lt counts (placed.right) number at few [] below (placed.past);
    }
