-- What holds of the parts of every description without a fault.
use Rattle.std.proofs.Common.{◌≡◌, ◌≢◌, ℕ, zero, suc, ◌+◌, ◌<◌, ◌≤◌, ◌⊎◌, inl, inr, ⊎_elim, Bool, true, false, List, [], ◌∷◌, ◌++◌, length, map, filter, drop, Contains, All, Option, Some, None, get_or, slice_get, refl, sym, ap, ◌∙◌, subst, arith}
use Rattle.std.specs.List.{flat_map, filter_map, range_with_len, position, position_or_len, AllPairs, list_any, list_all, AllZip}
use Rattle.std.specs.Option.{IsSome}
use Rattle.std.specs.Prelude.{nat_lt, ◌||◌, ◌==◌, cond, is_some, not, codes, ◌&&◌, IsTrue, max}
use Rattle.std.specs.Str.{bytes_eq}
use Rattle.std.proofs.lemmas.Bool.{cond_both, lt-ltb, ltb-true, eqb-true, eqb-false, both_ways, or_left, eq-eqb, cases_Bool, and_from, and_parts, cases_lt}
use Rattle.std.proofs.lemmas.Bool.Decides.{eqb_tells}
use Rattle.std.proofs.lemmas.List.{length-map, length-drop, length-append, get_or-map, append_assoc}
use Rattle.std.proofs.lemmas.List.Elements.{All-nil, All-cons, All-weaker, All-map, All-contains, filter-append, All-append, Contains-get_or, Contains-append_left, Contains-append_right, Contains-append_cases}
use Rattle.std.proofs.lemmas.List.Folds.{list_any_at}
use Rattle.std.proofs.lemmas.List.FromFn.{length-map-range_with_len}
use Rattle.std.proofs.lemmas.List.Kept.{AllPairs-cons, AllPairs-filter}
use Rattle.std.proofs.lemmas.List.Quantifiers.{position-Some}
use Rattle.std.proofs.lemmas.List.Sums.{AllPass-from_list_all, length-filter, count_by-le-length}
use Rattle.std.proofs.lemmas.Option.{none-some}
use Rattle.std.proofs.lemmas.Simd.{map-map}
use Rattle.std.proofs.lemmas.Slice.Eq.{bytes_eq-Decides}
use Rattle.hz_description_model.specs.Reservations.Alternatives.{Alternative, idle, followed_by, beside, taking, Expression, alternatives_of}
use Rattle.hz_description_model.specs.Reservations.Automata.{cut, ascending, is_of, inside, without_repeats, UnitPlace, list_in}
use Rattle.hz_description_model.specs.Check.CheckFaults.{names_of_set, has_too_long, is_unit, is_reservable, unknown_in_expression, unknown_in_condition, is_class, names_of_bypass, has_too_many, CheckFault, unit_site, IsSound, faults_of_names, faults_of_meanings, automaton_sites, unit_sites, reservation_sites, class_sites, attribute_sites, repeated_values, past_units, differs, renumbered, renumbered_after, sites_of}
use Rattle.hz_description_model.specs.Check.CountingOrder.{reserving_class, classes_of, reservations_of, reservation_site, Reserving}
use Rattle.hz_description_model.specs.Check.FirstReported.{Reported, Standing, first_reported, reported_at}
use Rattle.hz_description_model.specs.Reservations.NamesIn.{names_in}
use Rattle.hz_description_model.specs.Check.CheckedParts.{statements_in, class_numbers, AutomatonParts, ClassParts, BypassParts, automaton_names, automaton_count, units_in, automaton_parts, automata_from, automata_of, lists_of, class_parts, bypass_parts, attributes_of}
use Rattle.hz_description_model.specs.Check.CheckedShape.{IsKept}
use Rattle.hz_description_model.specs.Reading.DescriptionShape.{IsCheckableReservation, IsCheckable, IsCheckableClass, IsCheckableBypass}
use Rattle.hz_description_model.specs.Reading.Descriptions.{SetItem, ReservationItem, Description, AutomatonItem, UnitItem, ClassItem, BypassItem, AttributeItem, unguarded}
use Rattle.hz_description_model.specs.Reservations.Expressions.{is_expression}
use Rattle.hz_base_model.specs.Limits.{cycle_limit, automaton_limit, unit_limit, class_limit}
use Rattle.hz_description_model.specs.Reservations.Limits.{alternative_limit}
use Rattle.hz_description_model.specs.Reading.Limits.{latency_limit}
use Rattle.hz_base_model.specs.Lines.{place_of}
use Rattle.hz_description_model.specs.Check.Places.{unit_place, places_of, statement_of, reservation_named, unit_or_reservation, meaning, IsKnown, at_name, class_names, automaton_number, automaton_numbers, place_after, places_after, unit_places, Known}
use Rattle.hz_description_model.specs.Reservations.Inside.{inside_statement, are_inside, is_inside, unit_numbers}
use Rattle.hz_description_model.specs.Reservations.Meanings.{Meaning, reservation, Mentions, alternatives_of_meaning, IsClosed}
use Rattle.hz_base_model.specs.Pairs.{Pair, placed, later, grid_eq}
use Rattle.hz_description_model.specs.Reservations.Sets.{Statement}
use Rattle.hz_description_model.specs.Check.Sites.{Site, is_among, earliest, is_preceded, repeated}
use Rattle.hz_base_model.proofs.Ascending.{AllPairs-head, AllPairs-tail, AllPairs-append}
use Rattle.hz_description_model.proofs.Reservations.AscendingLaws.{Contains-from_ascending}
use Rattle.hz_description_model.proofs.Check.CheckTotal.{front_empty, back_empty}
use Rattle.hz_description_model.proofs.Check.EarliestLaws.{no_site}
use Rattle.hz_base_model.proofs.Elements.{Contains-nil, Contains-head, Contains-tail, Contains-cons_cases, Contains-map, Contains-from_map, Contains-filter, Contains-from_filter}
use Rattle.hz_description_model.proofs.Reservations.ExpressionLaws.{some_alternatives}
use Rattle.hz_description_model.proofs.Reservations.ListInLaws.{Contains-from_list_in, some_in_list}
use Rattle.hz_description_model.proofs.Check.PlaceLaws.{from_filter_map, at_name_in}
use Rattle.hz_description_model.proofs.Check.QueryPlaces.{queries_ascend, queries_low}
use Rattle.hz_description_model.proofs.Reservations.UnitLaws.{AreAll, AreAllOf, all_alternatives}
use Rattle.hz_description_model.proofs.Reservations.MeaningLaws.{some_assigned}
use Rattle.hz_description_model.proofs.Reservations.MentionLaws.{listed_from_mentions}
use Rattle.hz_description_model.proofs.Reservations.PlacedLaws.{every_alternative}

-- where nothing is reported, no fault stands anywhere
reported_none : (fault : CheckFault) (o : Option Site) (otherwise : Option (Reported CheckFault)) → reported_at fault o otherwise ≡ None → (o ≡ None) × (otherwise ≡ None)
reported_none fault None otherwise e = (refl, e)
reported_none fault (Some s) otherwise e = absurd (none-some _ (sym e))

pub none_stands : (standings : List (Standing CheckFault)) → first_reported standings ≡ None → All (λ s. s.sites ≡ []) standings
none_stands [] e = All-nil (λ s. s.sites ≡ [])
none_stands (s ∷ others) e =
    let here = reported_none s.fault (earliest s.sites) (first_reported others) e in
    All-cons (λ s. s.sites ≡ []) s others (no_site s.sites here.0) (none_stands others here.1)

-- a name is among names
place_low : {A : Type 0} (p : A → Bool) (xs : List A) (x : A) → Contains xs x → p x ≡ true → position_or_len p xs < length xs
place_low p [] x there passes = absurd (Contains-nil x there)
place_low {A = A} p (y ∷ ys) x there passes = cond_both (not (p y)) (1 + position_or_len p ys) 0 (λ n. n < suc (length ys))
    (λ fails. ⊎_elim
    (λ (same : y ≡ x). absurd (both_ways (not (p x)) (ap not passes) (ap (λ (z : A). not (p z)) (sym same) ∙ fails)))
    (λ (k : Contains ys x). let low : position_or_len p ys < length ys = place_low p ys x k passes in omega arith)
    (Contains-cons_cases y x ys there))
    (λ _. omega arith)

pub among : (name : List ℕ) (names : List (List ℕ)) → Contains names name → is_among name names ≡ true
among name names there =
    let low = place_low (bytes_eq name) names name there ((bytes_eq-Decides name name).1 refl) in
    ap (λ (b : Bool). is_some (cond b (Some (position_or_len (bytes_eq name) names)) None)) (lt-ltb (position_or_len (bytes_eq name) names) (length names) low)

pub from_among : (name : List ℕ) (names : List (List ℕ)) → is_among name names ≡ true → Contains names name
from_among name names e = by_place (position (bytes_eq name) names) refl e
  where
    by_place : (o : Option ℕ) → position (bytes_eq name) names ≡ o → is_some o ≡ true → Contains names name
    by_place None is e = absurd (cc)
    by_place (Some i) is e = let found = position-Some (bytes_eq name) names i name is in (i, found.0, sym ((bytes_eq-Decides name (get_or names i name)).0 found.1))

-- names that are not repeated are apart
module _ {A : Type 0} (site : A → Site) (others : List Site) where
  apart : (before : List (List ℕ)) (items : List A) → repeated others before (map site items) ≡ []
      → All (λ x. Contains before ((site x).name) → ⊥) items × AllPairs (λ a b. a ≢ b) (map (λ x. (site x).name) items)
  apart before [] e = (All-nil (λ x. Contains before ((site x).name) → ⊥), λ i j d low within. absurd (omega arith))
  apart before (x ∷ items) e =
      let s = site x in
      let twice = is_among s.name before || is_preceded others s in
      let rest = repeated others (s.name ∷ before) (map site items) in
      cond_both twice (s ∷ rest) rest (λ (ss : List Site). ss ≡ [] → All (λ x. Contains before ((site x).name) → ⊥) (x ∷ items) × AllPairs (λ a b. a ≢ b) (map (λ x. (site x).name) (x ∷ items)))
      (λ _ e. absurd (cc))
      (λ once e.
      let more = apart (s.name ∷ before) items e in (
        All-cons (λ x. Contains before ((site x).name) → ⊥) x items
            (λ there. both_ways twice once (or_left (is_among s.name before) (is_preceded others s) (among s.name before there)))
            (All-weaker (λ y. Contains (s.name ∷ before) ((site y).name) → ⊥) (λ y. Contains before ((site y).name) → ⊥) (λ y h k. h (Contains-tail s.name ((site y).name) before k)) items more.0),
        AllPairs-cons (λ a b. a ≢ b) s.name (map (λ x. (site x).name) items)
            (All-map (λ b. s.name ≢ b) (λ x. (site x).name) items
            (All-weaker (λ y. Contains (s.name ∷ before) ((site y).name) → ⊥) (λ y. s.name ≢ (site y).name) (λ y h same. h (subst (λ (n : List ℕ). Contains (s.name ∷ before) n) same (Contains-head s.name before))) items more.0))
            more.1,
      ))
      e

-- where nothing comes after the first of items they are not too many
not_more : {A : Type 0} (n : ℕ) (xs : List A) → drop n xs ≡ [] → length xs ≤ n
not_more n xs e = let long = length-drop n xs in let none = ap length e in omega arith

abbrev automaton_site : AutomatonItem → Site
automaton_site a = record { line = a.line; form = a.form; name = a.name }

abbrev class_site : ClassItem → Site
class_site c = record { line = c.line; form = c.form; name = c.name }

-- the parts are empty
parts_empty : (a b c e f g : List Site) → a ++ b ++ c ++ e ++ f ++ g ≡ [] → (a ≡ []) × (e ≡ []) × (f ≡ []) × (b ≡ [])
parts_empty a b c e f g h =
    let front = front_empty (a ++ b ++ c ++ e ++ f) g h in
    let four = front_empty (a ++ b ++ c ++ e) f front in
    (front_empty a b (front_empty (a ++ b) c (front_empty (a ++ b ++ c) e four)), back_empty (a ++ b ++ c) e four, back_empty (a ++ b ++ c ++ e) f front, back_empty a b (front_empty (a ++ b) c (front_empty (a ++ b ++ c) e four)))

-- as many items pass as what they give
length_kept : {A B : Type 0} (f : A → B) (p : B → Bool) (xs : List A) → length (filter p (map f xs)) ≡ length (filter (λ x. p (f x)) xs)
length_kept f p [] = refl
length_kept f p (x ∷ xs) =
    let rest : length (filter p (map f xs)) ≡ length (filter (λ x. p (f x)) xs) = length_kept f p xs in
    kept (p (f x)) rest
  where
    kept : (b : Bool) → length (filter p (map f xs)) ≡ length (filter (λ x. p (f x)) xs) → length (cond b (f x ∷ filter p (map f xs)) (filter p (map f xs))) ≡ length (cond b (x ∷ filter (λ x. p (f x)) xs) (filter (λ x. p (f x)) xs))
    kept true e = ap suc e
    kept false e = e

-- what holds of all that a list contains
all_from : {A : Type 0} (P : A → Type 0) (xs : List A) → ((x : A) → Contains xs x → P x) → All P xs
all_from P xs each = λ k d within. each (get_or xs k d) (Contains-get_or xs k d within)

-- pairs of items
module _ {A : Type 0} (R : A → A → Type 0) where
  pairs_map : {B : Type 0} (f : B → A) (xs : List B) → AllPairs (λ x y. R (f x) (f y)) xs → AllPairs R (map f xs)
  pairs_map f [] h = λ i j d low within. absurd (omega arith)
  pairs_map f (x ∷ xs) h = AllPairs-cons R (f x) (map f xs)
      (All-map (R (f x)) f xs (λ k d within. h 0 (suc k) d (omega arith) (omega arith)))
      (pairs_map f xs (λ i j d low within. h (suc i) (suc j) d (omega arith) (omega arith)))

unmapped : {A B : Type 0} (f : A → B) (xs : List A) → AllPairs (λ a b. a ≢ b) (map f xs) → AllPairs (λ a b. f a ≢ f b) xs
unmapped f xs h = λ i j e low within same.
    let long = length-map xs f in
    let before : i < length xs = omega arith in
    h i j (f e) low (omega arith) (get_or-map f xs i e (f e) before ∙ same ∙ sym (get_or-map f xs j e (f e) within))

-- items of one name are one item
one_item : {A : Type 0} (f : A → List ℕ) (xs : List A) (x y : A) → AllPairs (λ a b. f a ≢ f b) xs → Contains xs x → Contains xs y → f x ≡ f y → x ≡ y
one_item f [] x y h a b same = absurd (Contains-nil x a)
one_item f (z ∷ zs) x y h a b same = ⊎_elim
    (λ (e : z ≡ x). ⊎_elim
    (λ (e' : z ≡ y). sym e ∙ e')
    (λ (k : Contains zs y). absurd (All-contains (λ b. f z ≢ f b) zs y (AllPairs-head (λ a b. f a ≢ f b) z zs h) k (ap f e ∙ same)))
    (Contains-cons_cases z y zs b))
    (λ (j : Contains zs x). ⊎_elim
    (λ (e' : z ≡ y). absurd (All-contains (λ b. f z ≢ f b) zs x (AllPairs-head (λ a b. f a ≢ f b) z zs h) j (ap f e' ∙ sym same)))
    (λ (k : Contains zs y). one_item f zs x y (AllPairs-tail (λ a b. f a ≢ f b) z zs h) j k same)
    (Contains-cons_cases z y zs b))
    (Contains-cons_cases z x zs a)

-- names in a list of names by their places
numbers_low : (names wanted : List (List ℕ)) → All (λ n. n < length names) (filter_map (λ name. place_of name names) wanted)
numbers_low names wanted = all_from (λ n. n < length names) (filter_map (λ name. place_of name names) wanted)
    (λ n there. let found = from_filter_map (λ name. place_of name names) wanted n there in (position-Some (bytes_eq found.0) names n [] found.2).0)

one_name : (names : List (List ℕ)) (a b : List ℕ) (n : ℕ) → place_of a names ≡ Some n → place_of b names ≡ Some n → a ≡ b
one_name names a b n x y =
    (bytes_eq-Decides a (get_or names n [])).0 ((position-Some (bytes_eq a) names n [] x).1)
    ∙ sym ((bytes_eq-Decides b (get_or names n [])).0 ((position-Some (bytes_eq b) names n [] y).1))

-- what passes no test is not in a list of those that pass
pub none_passes : {A : Type 0} (f : A → Site) (p : A → Bool) (xs : List A) (x : A) → map f (filter p xs) ≡ [] → Contains xs x → p x ≡ true → ⊥
none_passes f p xs x none there passes = Contains-nil (f x) (subst (λ (ss : List Site). Contains ss (f x)) none (Contains-map f (filter p xs) x (Contains-filter p x passes xs there)))

-- those of a map that pass a test
kept_map : {A B : Type 0} (f : A → B) (p : B → Bool) (xs : List A) → filter p (map f xs) ≡ map f (filter (λ x. p (f x)) xs)
kept_map f p [] = refl
kept_map {A = A} {B = B} f p (x ∷ xs) = ap (λ (ys : List B). cond (p (f x)) (f x ∷ ys) ys) (kept_map f p xs) ∙ both (p (f x)) x (filter (λ y. p (f y)) xs)
  where
    both : (b : Bool) (y : A) (ys : List A) → cond b (f y ∷ map f ys) (map f ys) ≡ map f (cond b (y ∷ ys) ys)
    both true y ys = refl
    both false y ys = refl

-- two bypasses of one pair of classes have one number
abbrev Agree : BypassItem → BypassItem → Type 0
Agree a b = (out «in» : List ℕ) → Contains a.outs out → Contains a.ins «in» → Contains b.outs out → Contains b.ins «in» → a.number ≡ b.number

each_passes : {A : Type 0} (p : A → Bool) (xs : List A) (x : A) → list_all p xs ≡ true → Contains xs x → p x ≡ true
each_passes p xs x passes there = All-contains (λ x. p x ≡ true) xs x (AllPass-from_list_all p xs passes) there

any_of : {A : Type 0} (p : A → Bool) (xs : List A) (x : A) → Contains xs x → p x ≡ true → list_any p xs ≡ true
any_of {A = A} p xs x there passes = list_any_at p xs there.0 x there.1 (subst (λ (y : A). p y ≡ true) (sym there.2) passes)

agree_before : (before : List BypassItem) (b : BypassItem) → renumbered before b ≡ [] → (a : BypassItem) → Contains before a → Agree a b
agree_before before b none a there out «in» p q r s = ⊎_elim
    (λ (same : ((a.number == b.number) ≡ true) × (a.number ≡ b.number)). same.1)
    (λ (other : ((a.number == b.number) ≡ false) × (a.number ≢ b.number)).
    absurd (none_passes (λ (name : List ℕ). record { line = b.line; form = b.form; name = name }) (λ out. list_any (λ «in». list_any (differs b.number out «in») before) b.ins) b.outs out none r
    (any_of (λ «in». list_any (differs b.number out «in») before) b.ins «in» s
    (any_of (differs b.number out «in») before a there
    (and_from (not (a.number == b.number) && is_among out a.outs) (is_among «in» a.ins)
    (and_from (not (a.number == b.number)) (is_among out a.outs) (ap not other.0) (among out a.outs p)) (among «in» a.ins q))))))
    (eqb_tells a.number b.number)

agreed : (before bypasses : List BypassItem) → renumbered_after before bypasses ≡ [] → All (λ b. (a : BypassItem) → Contains before a → Agree a b) bypasses × AllPairs Agree bypasses
agreed before [] e = (All-nil (λ b. (a : BypassItem) → Contains before a → Agree a b), λ i j d low within. absurd (omega arith))
agreed before (b ∷ bypasses) e =
    let beyond = before ++ b ∷ [] in
    let here = front_empty (renumbered before b) (renumbered_after beyond bypasses) e in
    let more = agreed beyond bypasses (back_empty (renumbered before b) (renumbered_after beyond bypasses) e) in (
      All-cons (λ b. (a : BypassItem) → Contains before a → Agree a b) b bypasses (agree_before before b here)
          (All-weaker (λ c. (a : BypassItem) → Contains beyond a → Agree a c) (λ c. (a : BypassItem) → Contains before a → Agree a c) (λ c h a there. h a (Contains-append_left before (b ∷ []) a there)) bypasses more.0),
      AllPairs-cons Agree b bypasses
          (All-weaker (λ c. (a : BypassItem) → Contains beyond a → Agree a c) (Agree b) (λ c h. h b (Contains-append_right before (b ∷ []) b (Contains-head b []))) bypasses more.0) more.1,
    )

abbrev SameNumber : BypassParts → BypassParts → Type 0
SameNumber a b = (out «in» : ℕ) → Contains a.outs out → Contains a.ins «in» → Contains b.outs out → Contains b.ins «in» → a.number ≡ b.number

same_number : (d : Description) (a b : BypassItem) → Agree a b → SameNumber (bypass_parts d a) (bypass_parts d b)
same_number d a b agree out «in» p q r s =
    let names = class_names d in
    let w = from_filter_map (λ (name : List ℕ). place_of name names) a.outs out p in
    let x = from_filter_map (λ (name : List ℕ). place_of name names) a.ins «in» q in
    let y = from_filter_map (λ (name : List ℕ). place_of name names) b.outs out r in
    let z = from_filter_map (λ (name : List ℕ). place_of name names) b.ins «in» s in
    agree w.0 x.0 w.1 x.1
    (subst (λ (n : List ℕ). Contains b.outs n) (one_name names y.0 w.0 out y.2 w.2) y.1)
    (subst (λ (n : List ℕ). Contains b.ins n) (one_name names z.0 x.0 «in» z.2 x.2) z.1)

-- no item gives a site where none stands
flat_empty : {A : Type 0} (f : A → List Site) (xs : List A) (x : A) → flat_map f xs ≡ [] → Contains xs x → f x ≡ []
flat_empty f [] x e there = absurd (Contains-nil x there)
flat_empty f (y ∷ xs) x e there = ⊎_elim
    (λ (same : y ≡ x). ap f (sym same) ∙ front_empty (f y) (flat_map f xs) e)
    (λ (k : Contains xs x). flat_empty f xs x (back_empty (f y) (flat_map f xs) e) k)
    (Contains-cons_cases y x xs there)

-- what holds of items at one place
zip_at : {A B : Type 0} (R : A → B → Type 0) (e : A) (xs : List A) (ys : List B) → AllZip R xs ys → (n : ℕ) (y : B) → slice_get ys n ≡ Some y → R (get_or xs n e) y
zip_at R e [] [] h n y is = absurd (cc)
zip_at R e [] (z ∷ ys) h n y is = absurd h
zip_at R e (x ∷ xs) [] h n y is = absurd h
zip_at R e (x ∷ xs) (z ∷ ys) h zero y is = let same : z ≡ y = cc in subst (R x) same h.0
zip_at R e (x ∷ xs) (z ∷ ys) h (suc n) y is = zip_at R e xs ys h.1 n y is

-- an alternative that runs for some cycle and lies within its cycles
record IsRun (a : Alternative UnitPlace) : Type 0 where
  runs : 0 < a.cycles
  within : All (λ p. p.cycle < a.cycles) a.pairs

idle_run : IsRun idle
idle_run = record { runs = omega arith; within = All-nil _ }

followed_run : (a b : Alternative UnitPlace) → IsRun a → IsRun b → IsRun (followed_by a b)
followed_run a b is_a is_b =
    let runs = is_a.runs in record {
      runs = omega arith;
      within = All-append (λ p. p.cycle < a.cycles + b.cycles) a.pairs (placed a.cycles b.pairs)
          (λ k d lt. let low = is_a.within k d lt in omega arith)
          (All-map (λ p. p.cycle < a.cycles + b.cycles) (later a.cycles) b.pairs (λ k d lt. let low = is_b.within k d lt in omega arith));
    }

beside_run : (a b : Alternative UnitPlace) → IsRun a → IsRun b → IsRun (beside a b)
beside_run a b is_a is_b =
    let runs = is_a.runs in record {
      runs = omega arith;
      within = All-append (λ p. p.cycle < max a.cycles b.cycles) a.pairs b.pairs
          (λ k d lt. let low = is_a.within k d lt in omega arith)
          (λ k d lt. let low = is_b.within k d lt in omega arith);
    }

-- a name that stands for something
at_some : {A : Type 0} (name : List ℕ) (names : List (List ℕ)) (items : List A) → Contains names name → length names ≤ length items → is_some (at_name name names items) ≡ true
at_some name [] items there long = absurd (Contains-nil name there)
at_some name (n ∷ names) [] there long = absurd (omega arith)
at_some name (n ∷ names) (x ∷ items) there long = cond_both (bytes_eq name n) (Some x) (at_name name names items) (λ (o : Option _). is_some o ≡ true) (λ _. refl)
    (λ fails. ⊎_elim
    (λ (same : n ≡ name). absurd (both_ways (bytes_eq name n) fails ((bytes_eq-Decides name n).1 (sym same))))
    (λ (k : Contains names name). at_some name names items k (omega arith))
    (Contains-cons_cases n name names there))

some_meaning : (u : Option UnitPlace) (r : Option ReservationItem) → (is_some u ≡ true) ⊎ (is_some r ≡ true) → IsSome (unit_or_reservation u r)
some_meaning (Some u) r h = refl
some_meaning None (Some r) h = refl
some_meaning None None (inl h) = absurd (both_ways false refl h)
some_meaning None None (inr h) = absurd (both_ways false refl h)

from_meaning : (u : Option UnitPlace) (o : Option ReservationItem) (e : Expression) → unit_or_reservation u o ≡ Some (reservation e) → (r : ReservationItem) × (o ≡ Some r) × (r.expression ≡ e)
from_meaning (Some u) o e is = absurd (cc)
from_meaning None None e is = absurd (cc)
from_meaning None (Some r) e is = (r, refl, cc)

in_none : (line form : ℕ) (names : List (List ℕ)) (name : List ℕ) → sites_of line form names ≡ [] → Contains names name → ⊥
in_none line form names name none there = Contains-nil (record { line = line; form = form; name = name })
    (subst (λ (ss : List Site). Contains ss (record { line = line; form = form; name = name })) none (Contains-map (λ (name : List ℕ). record { line = line; form = form; name = name }) names name there))

two_empty : (a b c e f : List Site) → a ++ b ++ c ++ e ++ f ≡ [] → (a ≡ []) × (b ≡ [])
two_empty a b c e f h =
    let two = front_empty (a ++ b) c (front_empty (a ++ b ++ c) e (front_empty (a ++ b ++ c ++ e) f h)) in
    (front_empty a b two, back_empty a b two)

length-without_repeats : {A : Type 0} (same : A → A → Bool) (xs : List A) → length (without_repeats same xs) ≤ length xs
length-without_repeats same [] = omega arith
length-without_repeats same (x ∷ xs) =
    let rest = length-without_repeats same xs in
    let kept = length-filter (λ y. not (same x y)) (without_repeats same xs) in
    let fewer = count_by-le-length (λ y. not (same x y)) (without_repeats same xs) in
    omega (arith, rest, kept, fewer)

module _ (d : Description) where
  -- whether a unit is of an automaton
  abbrev is_in : ℕ → UnitItem → Bool
  is_in automaton u = automaton_number d u.automaton == automaton

  -- the number of a unit is that of the units of its automaton before it
  pub number_of : (before : List UnitItem) (u : UnitItem) → (place_after d before u).unit ≡ length (filter (is_in (automaton_number d u.automaton)) before)
  number_of before u = sym (length-filter (λ a. a == automaton_number d u.automaton) (automaton_numbers d before)) ∙ length_kept (λ v. automaton_number d v.automaton) (λ a. a == automaton_number d u.automaton) before

  names_of_automata : length (automata_of d) ≡ automaton_count d
  names_of_automata = from 0 (automaton_names d)
    where
      from : (n : ℕ) (names : List (List ℕ)) → length (automata_from d n names) ≡ length names
      from n [] = refl
      from n (name ∷ names) = ap suc (from (suc n) names)

  -- what holds of each automaton's parts holds of all automata
  all_automata : (P : AutomatonParts → Type 0) → ((automaton : ℕ) (name : List ℕ) → P (automaton_parts d automaton name)) → (n : ℕ) (names : List (List ℕ)) → All P (automata_from d n names)
  all_automata P each n [] = All-nil P
  all_automata P each n (name ∷ names) = All-cons P (automaton_parts d n name) (automata_from d (suc n) names) (each n name) (all_automata P each (suc n) names)

  some_automata : 1 ≤ automaton_count d
  some_automata = cond_both (length d.automata == 0) (codes "-" ∷ []) (map (λ a. a.name) d.automata) (λ names. 1 ≤ length names)
      (λ _. omega arith)
      (λ some. let none = eqb-false (length d.automata) 0 some in let long = length-map d.automata (λ (a : AutomatonItem). a.name) in omega arith)

  few_automata : length d.automata ≤ automaton_limit → automaton_count d ≤ automaton_limit
  few_automata few = cond_both (length d.automata == 0) (codes "-" ∷ []) (map (λ a. a.name) d.automata) (λ names. length names ≤ automaton_limit)
      (λ _. omega arith)
      (λ _. let long = length-map d.automata (λ (a : AutomatonItem). a.name) in omega arith)

  pub few_units : (automaton : ℕ) (before units : List UnitItem) → length (filter (is_in automaton) before) ≤ unit_limit → past_units units (places_after d before units) ≡ []
      → length (filter (is_in automaton) before) + length (filter (is_in automaton) units) ≤ unit_limit
  few_units automaton before [] few free = omega arith
  few_units automaton before (u ∷ units) few free =
      let beyond = before ++ u ∷ [] in
      let place = place_after d before u in
      let site : Site = record { line = u.line; form = u.form; name = u.name } in
      let rest = past_units units (places_after d beyond units) in
      let both : length (filter (is_in automaton) beyond) ≡ length (filter (is_in automaton) before) + length (filter (is_in automaton) (u ∷ [])) = ap length (filter-append (is_in automaton) before (u ∷ [])) ∙ length-append (filter (is_in automaton) before) (filter (is_in automaton) (u ∷ [])) in
      cond_both (nat_lt place.unit unit_limit) rest (site ∷ rest) (λ (ss : List Site). ss ≡ [] → length (filter (is_in automaton) before) + length (filter (is_in automaton) (u ∷ units)) ≤ unit_limit)
      (λ low free.
      let below : place.unit < unit_limit = ltb-true place.unit unit_limit low in
      by_unit (is_in automaton u) refl below both (λ small. few_units automaton beyond units small free))
      (λ _ e. absurd (cc)) free
    where
      by_unit : (b : Bool) → is_in automaton u ≡ b → (place_after d before u).unit < unit_limit → length (filter (is_in automaton) (before ++ u ∷ [])) ≡ length (filter (is_in automaton) before) + length (cond b (u ∷ []) [])
          → (length (filter (is_in automaton) (before ++ u ∷ [])) ≤ unit_limit → length (filter (is_in automaton) (before ++ u ∷ [])) + length (filter (is_in automaton) units) ≤ unit_limit)
          → length (filter (is_in automaton) before) + length (cond b (u ∷ filter (is_in automaton) units) (filter (is_in automaton) units)) ≤ unit_limit
      by_unit true e below both few_after =
          let same : automaton_number d u.automaton ≡ automaton = eqb-true (automaton_number d u.automaton) automaton e in
          let number : (place_after d before u).unit ≡ length (filter (is_in automaton) before) = subst (λ (a : ℕ). (place_after d before u).unit ≡ length (filter (is_in a) before)) same (number_of before u) in
          let more : length (filter (is_in automaton) (before ++ u ∷ [])) + length (filter (is_in automaton) units) ≤ unit_limit = few_after (omega arith) in
          omega arith
      by_unit false e below both few_after =
          let more : length (filter (is_in automaton) (before ++ u ∷ [])) + length (filter (is_in automaton) units) ≤ unit_limit = few_after (omega arith) in
          omega arith

  abbrev Apart : UnitItem → UnitItem → Type 0
  Apart u v = u.name ≢ v.name

  -- each unit of the automata from a number on is of one of them
  unit_after : (n : ℕ) (names : List (List ℕ)) (name : List ℕ) → Contains (flat_map (λ a. a.units) (automata_from d n names)) name
      → (u : UnitItem) × Contains d.units u × (u.name ≡ name) × (n ≤ automaton_number d u.automaton)
  unit_after n [] name there = absurd (Contains-nil name there)
  unit_after n (first ∷ names) name there = ⊎_elim
      (λ (k : Contains (units_in d n) name).
      let found = Contains-from_map (λ (u : UnitItem). u.name) (filter (is_in n) d.units) name k in
      let kept = Contains-from_filter (is_in n) found.0 d.units found.1 in
      let same = eqb-true (automaton_number d ((found.0).automaton)) n kept.1 in
      (found.0, kept.0, found.2, omega arith))
      (λ (k : Contains (flat_map (λ a. a.units) (automata_from d (suc n) names)) name).
      let rest = unit_after (suc n) names name k in
      let low = rest.3 in
      (rest.0, rest.1, rest.2, omega arith))
      (Contains-append_cases (units_in d n) (flat_map (λ a. a.units) (automata_from d (suc n) names)) name there)

  units_apart : AllPairs Apart d.units → (n : ℕ) (names : List (List ℕ)) → AllPairs (λ a b. a ≢ b) (flat_map (λ a. a.units) (automata_from d n names))
  units_apart apart n [] = λ i j e low within. absurd (omega arith)
  units_apart apart n (first ∷ names) = AllPairs-append (λ a b. a ≢ b) (units_in d n) (flat_map (λ a. a.units) (automata_from d (suc n) names))
      (pairs_map (λ a b. a ≢ b) (λ (u : UnitItem). u.name) (filter (is_in n) d.units) (AllPairs-filter Apart (is_in n) d.units apart))
      (units_apart apart (suc n) names)
      (λ a b there here same.
      let found = Contains-from_map (λ (u : UnitItem). u.name) (filter (is_in n) d.units) a there in
      let kept = Contains-from_filter (is_in n) found.0 d.units found.1 in
      let rest = unit_after (suc n) names b here in
      let one = one_item (λ (u : UnitItem). u.name) d.units found.0 rest.0 apart kept.0 rest.1 (found.2 ∙ same ∙ sym rest.2) in
      let number = eqb-true (automaton_number d ((found.0).automaton)) n kept.1 in
      let other = ap (λ (u : UnitItem). automaton_number d u.automaton) one in
      let low = rest.3 in
      omega arith)

  -- the place of a unit is one of its automaton
  places_low : (before units : List UnitItem) (p : UnitPlace) → Contains (places_after d before units) p → p.unit < length (filter (is_in p.automaton) (before ++ units))
  places_low before [] p there = absurd (Contains-nil p there)
  places_low before (u ∷ units) p there = ⊎_elim
      (λ (same : place_after d before u ≡ p). subst (λ (q : UnitPlace). q.unit < length (filter (is_in q.automaton) (before ++ u ∷ units))) same
      (let a = automaton_number d u.automaton in
      let number = number_of before u in
      let here = Contains-filter (is_in a) u (eq-eqb a a refl) (u ∷ units) (Contains-head u units) in
      let some = here.1 in
      let long = ap length (filter-append (is_in a) before (u ∷ units)) ∙ length-append (filter (is_in a) before) (filter (is_in a) (u ∷ units)) in
      omega (arith, number, some, long)))
      (λ (k : Contains (places_after d (before ++ u ∷ []) units) p).
      subst (λ (us : List UnitItem). p.unit < length (filter (is_in p.automaton) us)) (append_assoc before (u ∷ []) units) (places_low (before ++ u ∷ []) units p k))
      (Contains-cons_cases (place_after d before u) p (places_after d (before ++ u ∷ []) units) there)

  abbrev InPlace : UnitPlace → Type 0
  InPlace p = p.unit < length (units_in d p.automaton)

  unit_low : (name : List ℕ) (p : UnitPlace) → unit_place d name ≡ Some p → InPlace p
  unit_low name p e =
      let low = places_low [] d.units p (at_name_in name (map (λ u. u.name) d.units) (unit_places d) p e) in
      let long = length-map (filter (is_in p.automaton) d.units) (λ (u : UnitItem). u.name) in
      omega arith

  abbrev InSet : ℕ → Statement ℕ → Type 0
  InSet n s = All (λ u. u < length (units_in d n)) s.units × All (λ pattern. All (λ u. u < length (units_in d n)) pattern) s.patterns

  numbers_in : (n : ℕ) (names : List (List ℕ)) → are_inside n (places_of d names) ≡ true → All (λ u. u < length (units_in d n)) (unit_numbers (places_of d names))
  numbers_in n names inside = All-map (λ u. u < length (units_in d n)) (λ (p : UnitPlace). p.unit) (places_of d names)
      (all_from (λ p. p.unit < length (units_in d n)) (places_of d names)
      (λ p there.
      let found = from_filter_map (unit_place d) names p there in
      let same = eqb-true p.automaton n (each_passes (λ (u : UnitPlace). u.automaton == n) (places_of d names) p inside there) in
      subst (λ (a : ℕ). p.unit < length (units_in d a)) same (unit_low found.0 p found.2)))

  sets_low : (n : ℕ) → All (InSet n) (statements_in d n)
  sets_low n = All-map (InSet n) inside_statement (filter (is_inside n) (map (statement_of d) d.sets))
      (all_from (λ s. InSet n (inside_statement s)) (filter (is_inside n) (map (statement_of d) d.sets))
      (λ t there.
      let kept = Contains-from_filter (is_inside n) t (map (statement_of d) d.sets) there in
      let found = Contains-from_map (statement_of d) d.sets t kept.0 in
      subst (λ (t : Statement UnitPlace). InSet n (inside_statement t)) found.2
      (of_set found.0 (subst (λ (t : Statement UnitPlace). is_inside n t ≡ true) (sym found.2) kept.1))))
    where
      of_set : (s : SetItem) → is_inside n (statement_of d s) ≡ true → InSet n (inside_statement (statement_of d s))
      of_set s inside =
          let parts = and_parts (are_inside n (places_of d s.units)) (list_all (are_inside n) (map (places_of d) s.patterns)) inside in (
            numbers_in n s.units parts.0,
            All-map (λ pattern. All (λ u. u < length (units_in d n)) pattern) unit_numbers (map (places_of d) s.patterns)
                (All-map (λ pattern. All (λ u. u < length (units_in d n)) (unit_numbers pattern)) (places_of d) s.patterns
                (all_from (λ pattern. All (λ u. u < length (units_in d n)) (unit_numbers (places_of d pattern))) s.patterns
                (λ pattern there. numbers_in n pattern (each_passes (are_inside n) (map (places_of d) s.patterns) (places_of d pattern) parts.1 (Contains-map (places_of d) s.patterns pattern there))))),
          )

  -- what holds of what units and reservations have holds of what each name has
  known_of : (known : Known) (is : IsKnown d known) (Q : List (Alternative UnitPlace) → Type 0) → ((name : List ℕ) (u : UnitPlace) → unit_place d name ≡ Some u → Q (taking u ∷ [])) → Q []
      → ((r : ReservationItem) → Contains d.reservations r → ((name : List ℕ) → Mentions r.expression name → Q (known name)) → Q (alternatives_of known r.expression))
      → (n : ℕ) (name : List ℕ) → (is.unwinds).rank name < n → Q (known name)
  known_of known is Q taken none reserved zero name low = absurd (omega arith)
  known_of known is Q taken none reserved (suc n) name low = subst Q (sym (is.expands name)) (by_meaning (unit_place d name) (reservation_named d name) refl refl
      (λ e from other h. let falls = (is.unwinds).falls name other e from h in known_of known is Q taken none reserved n other (omega arith)))
    where
      by_meaning : (u : Option UnitPlace) (r : Option ReservationItem) → unit_place d name ≡ u → reservation_named d name ≡ r
          → ((e : _) → meaning d name ≡ Some (reservation e) → (other : List ℕ) → Mentions e other → Q (known other))
          → Q (alternatives_of_meaning known (meaning d name))
      by_meaning (Some u) r a b below = subst (λ (m : Option (Meaning UnitPlace)). Q (alternatives_of_meaning known m)) (sym (ap (λ (o : Option UnitPlace). unit_or_reservation o (reservation_named d name)) a)) (taken name u a)
      by_meaning None (Some r) a b below =
          let means : meaning d name ≡ Some (reservation r.expression) = ap (λ (o : Option UnitPlace). unit_or_reservation o (reservation_named d name)) a ∙ ap (unit_or_reservation None) b in
          subst (λ (m : Option (Meaning UnitPlace)). Q (alternatives_of_meaning known m)) (sym means) (reserved r (at_name_in name (map (λ r. r.name) d.reservations) d.reservations r b) (below r.expression means))
      by_meaning None None a b below =
          let means : meaning d name ≡ None = ap (λ (o : Option UnitPlace). unit_or_reservation o (reservation_named d name)) a ∙ ap (unit_or_reservation None) b in
          subst (λ (m : Option (Meaning UnitPlace)). Q (alternatives_of_meaning known m)) (sym means) none

  taking_place : (name : List ℕ) (u : UnitPlace) → unit_place d name ≡ Some u → AreAllOf InPlace (taking u ∷ [])
  taking_place name u e = record {
    each = λ a h. ⊎_elim
        (λ (same : taking u ≡ a). subst (λ (a : Alternative UnitPlace). AreAll InPlace a) same (record {
          each = λ p k. ⊎_elim
              (λ (is : record { unit = u; cycle = 0 } ≡ p). subst (λ (q : Pair UnitPlace). InPlace q.unit) is (unit_low name u e))
              (λ (none : Contains [] p). absurd (Contains-nil p none)) (Contains-cons_cases (record { unit = u; cycle = 0 }) p [] k);
        }))
        (λ (none : Contains [] a). absurd (Contains-nil a none)) (Contains-cons_cases (taking u) a [] h);
  }

  lists_zip : (R : List (List (Pair ℕ)) → AutomatonParts → Type 0) (f : ℕ → List (List (Pair ℕ))) → ((n : ℕ) (name : List ℕ) → R (f n) (automaton_parts d n name))
      → (n : ℕ) (names : List (List ℕ)) → AllZip R (map f (range_with_len n (length names))) (automata_from d n names)
  lists_zip R f each n [] = tt
  lists_zip R f each n (name ∷ names) =
      (each n name, (let next : suc n ≡ n + 1 = omega arith in subst (λ (m : ℕ). AllZip R (map f (range_with_len m (length names))) (automata_from d (suc n) names)) next (lists_zip R f each (suc n) names)))

  -- a list of grids with units of an automaton and cycles below the limit
  abbrev IsListOf : List (List (Pair ℕ)) → AutomatonParts → Type 0
  IsListOf grids a = All (λ grid. All (λ p. (p.unit < length a.units) × (p.cycle < cycle_limit)) grid) grids

  -- the list for each automaton is one
  abbrev AreGrids : List (List (List (Pair ℕ))) → Type 0
  AreGrids lists = (n : ℕ) (a : AutomatonParts) → slice_get (automata_of d) n ≡ Some a → IsListOf (get_or lists n []) a

  length_places : (before units : List UnitItem) → length (places_after d before units) ≡ length units
  length_places before [] = refl
  length_places before (u ∷ units) = ap suc (length_places (before ++ u ∷ []) units)

  reserves : (name : List ℕ) → is_reservable d name ≡ true → IsSome (meaning d name)
  reserves name h = some_meaning (unit_place d name) (reservation_named d name) (⊎_elim
      (λ (unit : is_unit d name ≡ true). inl (at_some name (map (λ u. u.name) d.units) (unit_places d) (from_among name (map (λ u. u.name) d.units) unit)
      (let a = length_places [] d.units in let b = length-map d.units (λ (u : UnitItem). u.name) in omega arith)))
      (λ (other : is_unit d name ≡ false). inr (at_some name (map (λ r. r.name) d.reservations) d.reservations
      (from_among name (map (λ r. r.name) d.reservations) (subst (λ (b : Bool). (b || is_among name (map (λ r. r.name) d.reservations)) ≡ true) other h))
      (let b = length-map d.reservations (λ (r : ReservationItem). r.name) in omega arith)))
      (cases_Bool (is_unit d name)))

  reservable : (e : Expression) (name : List ℕ) → Mentions e name → (Contains (unknown_in_expression d e) name → ⊥) → IsSome (meaning d name)
  reservable e name h none = reserves name (⊎_elim
      (λ (is : is_reservable d name ≡ true). is)
      (λ (other : is_reservable d name ≡ false). absurd (none (Contains-filter (λ n. not (is_reservable d n)) name (ap not other) (names_in e) (listed_from_mentions e name h))))
      (cases_Bool (is_reservable d name)))

  -- no two reservations have one name, and no two classes
  pub names_apart : first_reported (faults_of_names d) ≡ None → AllPairs (λ a b. a ≢ b) (map (λ (r : ReservationItem). r.name) d.reservations) × AllPairs (λ a b. a ≢ b) (map (λ (s : Reserving). s.site.name) (classes_of d))
  names_apart free =
      let none = none_stands (faults_of_names d) free 0 (record { fault = CheckFault.twice_defined; sites = [] }) (omega arith) in
      let empty = five_empty (repeated [] [] (automaton_sites d)) (repeated (reservation_sites d) [] (unit_sites d)) (repeated (unit_sites d) [] (reservation_sites d)) (repeated [] [] (class_sites d)) (repeated [] [] (attribute_sites d)) (flat_map repeated_values d.attributes) none in (
        (apart reservation_site (unit_sites d) [] d.reservations empty.0).1,
        subst (λ (names : List (List ℕ)). AllPairs (λ a b. a ≢ b) names) (sym (map-map (λ (s : Reserving). s.site.name) reserving_class d.classes)) ((apart class_site [] [] d.classes empty.1).1),
      )
    where
      five_empty : (a b c e f g : List Site) → a ++ b ++ c ++ e ++ f ++ g ≡ [] → (c ≡ []) × (e ≡ [])
      five_empty a b c e f g h =
          let four = front_empty (a ++ b ++ c ++ e) f (front_empty (a ++ b ++ c ++ e ++ f) g h) in
          (back_empty (a ++ b) c (front_empty (a ++ b ++ c) e four), back_empty (a ++ b ++ c) e four)

  module _ (known : Known) (formed : IsCheckable d) (sound : IsSound d known) where
    known_placed : (name : List ℕ) → AreAllOf InPlace (known name)
    known_placed name = known_of known ((sound.unfolded).right) (AreAllOf InPlace) taking_place (record { each = λ a h. absurd (Contains-nil a h) })
        (λ r there each. all_alternatives InPlace known r.expression each) (suc ((((sound.unfolded).right).unwinds).rank name)) name (omega arith)

    known_run : (name : List ℕ) → All IsRun (known name)
    known_run name = known_of known ((sound.unfolded).right) (All IsRun) (λ name u e. All-cons IsRun (taking u) [] (record { runs = omega arith; within = All-cons (λ p. p.cycle < 1) (record { unit = u; cycle = 0 }) [] (omega arith) (All-nil _) }) (All-nil IsRun)) (All-nil IsRun)
        (λ r there each. every_alternative IsRun idle_run followed_run beside_run known r.expression ((All-contains (IsCheckableReservation formed.kinds) d.reservations r formed.reservations there).expression) each)
        (suc ((((sound.unfolded).right).unwinds).rank name)) name (omega arith)

    no_names : All (λ s. s.sites ≡ []) (faults_of_names d)
    no_names = none_stands (faults_of_names d) ((sound.unfolded).defined)

    no_meanings : All (λ s. s.sites ≡ []) (faults_of_meanings d known sound.order)
    no_meanings = none_stands (faults_of_meanings d known sound.order) sound.free

    none : Standing CheckFault
    none = record { fault = CheckFault.twice_defined; sites = [] }

    once : (repeated [] [] (automaton_sites d) ≡ []) × (repeated [] [] (class_sites d) ≡ []) × (repeated [] [] (attribute_sites d) ≡ []) × (repeated (reservation_sites d) [] (unit_sites d) ≡ [])
    once = parts_empty (repeated [] [] (automaton_sites d)) (repeated (reservation_sites d) [] (unit_sites d)) (repeated (unit_sites d) [] (reservation_sites d))
        (repeated [] [] (class_sites d)) (repeated [] [] (attribute_sites d)) (flat_map repeated_values d.attributes) (no_names 0 none (omega arith))

    unit_items_apart : AllPairs Apart d.units
    unit_items_apart = unmapped (λ (u : UnitItem). u.name) d.units ((apart unit_site (reservation_sites d) [] d.units once.3).1)

    short : (c : ClassItem) → Contains d.classes c → (a : Alternative UnitPlace) → Contains (alternatives_of known c.expression) a → a.cycles ≤ cycle_limit
    short c there a h = ⊎_elim
        (λ (long : cycle_limit < a.cycles).
        absurd (none_passes (λ (r : Reserving). r.site) (has_too_long known) (classes_of d) (reserving_class c)
        (back_empty (map (λ r. r.site) (filter (has_too_long known) (reservations_of d))) (map (λ r. r.site) (filter (has_too_long known) (classes_of d))) (no_meanings 6 none (omega arith)))
        (Contains-map reserving_class d.classes c there) (any_of (λ a. nat_lt cycle_limit a.cycles) (alternatives_of known c.expression) a h (lt-ltb cycle_limit a.cycles long))))
        (λ (low : a.cycles ≤ cycle_limit). low)
        (cases_lt cycle_limit a.cycles)

    grids_of : (c : ClassItem) → Contains d.classes c → (n : ℕ) → All (λ grid. All (λ p. (p.unit < length (units_in d n)) × (p.cycle < cycle_limit)) grid) (list_in n (alternatives_of known c.expression))
    grids_of c there n = all_from (λ grid. All (λ p. (p.unit < length (units_in d n)) × (p.cycle < cycle_limit)) grid) (list_in n (alternatives_of known c.expression))
        (λ grid h.
        let from = Contains-from_list_in n (alternatives_of known c.expression) grid h in
        let a = from.0 in
        let is = ((all_alternatives InPlace known c.expression (λ name h. known_placed name)).each a from.1).each in
        let run = All-contains IsRun (alternatives_of known c.expression) a
        (every_alternative IsRun idle_run followed_run beside_run known c.expression ((All-contains (IsCheckableClass formed.kinds) d.classes c formed.classes there).expression) (λ name h. known_run name)) from.1 in
        subst (λ (grid : List (Pair ℕ)). All (λ p. (p.unit < length (units_in d n)) × (p.cycle < cycle_limit)) grid) from.2
        (all_from (λ p. (p.unit < length (units_in d n)) × (p.cycle < cycle_limit)) (cut n a.pairs)
        (λ p k.
        let found = Contains-from_map inside (filter (is_of n) (ascending a.pairs)) p k in
        let kept = Contains-from_filter (is_of n) found.0 (ascending a.pairs) found.1 in
        let q = found.0 in
        let pair = Contains-from_ascending q a.pairs kept.0 in
        let same = eqb-true q.unit.automaton n kept.1 in
        let cycle : q.cycle < a.cycles = All-contains (λ (p : Pair UnitPlace). p.cycle < a.cycles) a.pairs q run.within pair in
        let limit = short c there a from.1 in
        subst (λ (p : Pair ℕ). (p.unit < length (units_in d n)) × (p.cycle < cycle_limit)) found.2
        (subst (λ (m : ℕ). q.unit.unit < length (units_in d m)) same (is q pair), omega arith))))

    nothing_unknown : (flat_map (λ r. sites_of r.line r.form (unknown_in_expression d r.expression)) d.reservations ≡ [])
        × (flat_map (λ c. sites_of c.line c.form (unknown_in_condition d c.condition ++ unknown_in_expression d c.expression)) d.classes ≡ [])
    nothing_unknown = two_empty (flat_map (λ r. sites_of r.line r.form (unknown_in_expression d r.expression)) d.reservations)
        (flat_map (λ c. sites_of c.line c.form (unknown_in_condition d c.condition ++ unknown_in_expression d c.expression)) d.classes)
        (flat_map (λ b. sites_of b.line b.form (filter (λ name. not (is_class d name)) (names_of_bypass b))) d.bypasses)
        (flat_map (λ s. sites_of s.line s.form (filter (λ name. not (is_unit d name)) (names_of_set s))) d.sets)
        (flat_map (λ a. sites_of a.line a.form (filter (λ name. not (is_among name a.values)) (a.fallback ∷ []))) d.attributes)
        (no_names 2 none (omega arith))

    reservation_of : (name : List ℕ) (e : Expression) → meaning d name ≡ Some (reservation e) → (r : ReservationItem) × Contains d.reservations r × (r.expression ≡ e)
    reservation_of name e is =
        let found = from_meaning (unit_place d name) (reservation_named d name) e is in
        (found.0, at_name_in name (map (λ r. r.name) d.reservations) d.reservations found.0 found.1, found.2)

    closed : IsClosed (meaning d)
    closed = record {
      expressions = λ name e is. let r = reservation_of name e is in subst (λ (e : Expression). IsTrue (is_expression e)) r.2 ((All-contains (IsCheckableReservation formed.kinds) d.reservations r.0 formed.reservations r.1).expression);
      names = λ name other e is h. let r = reservation_of name e is in
          reservable e other h (λ there. in_none ((r.0).line) ((r.0).form) (unknown_in_expression d ((r.0).expression)) other
          (flat_empty (λ (r : ReservationItem). sites_of r.line r.form (unknown_in_expression d r.expression)) d.reservations r.0 nothing_unknown.0 r.1)
          (subst (λ (e : Expression). Contains (unknown_in_expression d e) other) (sym r.2) there));
    }

    some_of : (c : ClassItem) → Contains d.classes c → 0 < length (alternatives_of known c.expression)
    some_of c there = some_alternatives known c.expression ((All-contains (IsCheckableClass formed.kinds) d.classes c formed.classes there).expression)
        (λ name h. some_assigned (meaning d) (((sound.unfolded).right).unwinds) known (((sound.unfolded).right).expands) closed (suc ((((sound.unfolded).right).unwinds).rank name)) name (omega arith)
        (reservable c.expression name h (λ k. in_none c.line c.form (unknown_in_condition d c.condition ++ unknown_in_expression d c.expression) name
        (flat_empty (λ (c : ClassItem). sites_of c.line c.form (unknown_in_condition d c.condition ++ unknown_in_expression d c.expression)) d.classes c nothing_unknown.1 there)
        (Contains-append_right (unknown_in_condition d c.condition) (unknown_in_expression d c.expression) name k))))

    few_of : (c : ClassItem) → Contains d.classes c → length (alternatives_of known c.expression) ≤ alternative_limit
    few_of c there = ⊎_elim
        (λ (many : alternative_limit < length (alternatives_of known c.expression)).
        absurd (none_passes (λ (r : Reserving). r.site) (has_too_many known) (classes_of d) (reserving_class c)
        (back_empty (map (λ r. r.site) (filter (has_too_many known) (reservations_of d))) (map (λ r. r.site) (filter (has_too_many known) (classes_of d))) (no_meanings 5 none (omega arith)))
        (Contains-map reserving_class d.classes c there) (lt-ltb alternative_limit (length (alternatives_of known c.expression)) many)))
        (λ (low : length (alternatives_of known c.expression) ≤ alternative_limit). low)
        (cases_lt alternative_limit (length (alternatives_of known c.expression)))

    list_few : (c : ClassItem) → Contains d.classes c → (n : ℕ) → (1 ≤ length (list_in n (alternatives_of known c.expression))) × (length (list_in n (alternatives_of known c.expression)) ≤ alternative_limit)
    list_few c there n =
        let some = some_in_list n (alternatives_of known c.expression) (some_of c there) in
        let few = few_of c there in
        let fewer = length-without_repeats grid_eq (map (λ a. cut n a.pairs) (alternatives_of known c.expression)) in
        let long = length-map (alternatives_of known c.expression) (λ (a : Alternative UnitPlace). cut n a.pairs) in
        (omega (arith, some), omega (arith, few, fewer, long))

    pub kept : IsKept (automata_of d) (map (class_parts d known) d.classes) (map (bypass_parts d) d.bypasses) (attributes_of d)
    kept = record {
      some = let count = names_of_automata in let some = some_automata in omega arith;
      few = let count = names_of_automata in
          let few = few_automata (let long = length-map d.automata automaton_site in let less : length (automaton_sites d) ≤ automaton_limit = not_more automaton_limit (automaton_sites d) (no_meanings 2 none (omega arith)) in omega arith) in omega arith;
      units = all_automata (λ a. length a.units ≤ unit_limit)
          (λ automaton name. let few = few_units automaton [] d.units (omega arith) (no_meanings 3 none (omega arith)) in let long = length-map (filter (is_in automaton) d.units) (λ (u : UnitItem). u.name) in omega arith) 0 (automaton_names d);
      class_count = let less : length (class_sites d) ≤ class_limit = not_more class_limit (class_sites d) (no_meanings 4 none (omega arith)) in let a = length-map d.classes (class_parts d known) in let b = length-map d.classes class_site in omega arith;
      class_names = subst (λ (names : List (List ℕ)). AllPairs (λ a b. a ≢ b) names) (sym (map-map (λ (c : ClassParts). c.name) (class_parts d known) d.classes))
          ((apart class_site [] [] d.classes once.1).1);
      latencies = All-map (λ c. c.latency ≤ latency_limit) (class_parts d known) d.classes (All-weaker (IsCheckableClass formed.kinds) (λ c. c.latency ≤ latency_limit) (λ c h. h.latency) d.classes formed.classes);
      lists = All-map (λ c. length c.lists ≡ length (automata_of d)) (class_parts d known) d.classes
          (λ k e within. length-map-range_with_len (λ automaton. list_in automaton (alternatives_of known ((get_or d.classes k e).expression))) 0 (automaton_count d) ∙ sym names_of_automata);
      bypass_classes = All-map (λ b. All (λ n. n < length (map (class_parts d known) d.classes)) b.outs × All (λ n. n < length (map (class_parts d known) d.classes)) b.ins) (bypass_parts d) d.bypasses
          (λ k e within. let a = length-map d.classes (class_parts d known) in let b = length-map d.classes (λ (c : ClassItem). c.name) in
          let low = λ (names : List (List ℕ)). subst (λ (n : ℕ). All (λ m. m < n) (class_numbers d names)) (b ∙ sym a) (numbers_low (class_names d) names) in (low ((get_or d.bypasses k e).outs), low ((get_or d.bypasses k e).ins)));
      one_number = subst (λ (bs : List BypassParts). AllPairs SameNumber bs) (sym (kept_map (bypass_parts d) (λ b. not b.guard) d.bypasses))
          (pairs_map SameNumber (bypass_parts d) (unguarded d.bypasses)
          (λ i j e low within. same_number d (get_or (unguarded d.bypasses) i e) (get_or (unguarded d.bypasses) j e) ((agreed [] (unguarded d.bypasses) (no_meanings 10 none (omega arith))).1 i j e low within)));
      queries = all_automata (λ a. AllPairs (λ m n. m < n) a.queries × All (λ n. n < length a.units) a.queries)
          (λ automaton name. (queries_ascend d automaton, queries_low d automaton)) 0 (automaton_names d);
      unit_names = units_apart (unit_items_apart) 0 (automaton_names d);
      sets = all_automata (λ a. All (λ s. All (λ u. u < length a.units) s.units × All (λ pattern. All (λ u. u < length a.units) pattern) s.patterns) a.statements)
          (λ n name. sets_low n) 0 (automaton_names d);
      grids = All-map (λ c. AreGrids c.lists) (class_parts d known) d.classes
          (all_from (λ c. AreGrids (lists_of d known c)) d.classes
          (λ c there n a is. zip_at IsListOf [] (lists_of d known c) (automata_of d) (lists_zip IsListOf (λ n. list_in n (alternatives_of known c.expression)) (λ n name. grids_of c there n) 0 (automaton_names d)) n a is));
      alternatives = All-map (λ c. All (λ list. (1 ≤ length list) × (length list ≤ alternative_limit)) c.lists) (class_parts d known) d.classes
          (all_from (λ c. All (λ list. (1 ≤ length list) × (length list ≤ alternative_limit)) (lists_of d known c)) d.classes
          (λ c there. All-map (λ list. (1 ≤ length list) × (length list ≤ alternative_limit)) (λ n. list_in n (alternatives_of known c.expression)) (range_with_len 0 (automaton_count d)) (λ k e within. list_few c there (get_or (range_with_len 0 (automaton_count d)) k e))));
      bypass_numbers = All-map (λ b. b.number ≤ latency_limit) (bypass_parts d) d.bypasses (All-weaker (IsCheckableBypass formed.kinds) (λ b. b.number ≤ latency_limit) (λ b h. h.number) d.bypasses formed.bypasses);
      attribute_names = subst (λ (names : List (List ℕ)). AllPairs (λ a b. a ≢ b) names) (sym (map-map (λ (a : List ℕ × List (List ℕ)). a.0) (λ (a : AttributeItem). (a.name, a.values)) d.attributes))
          ((apart (λ (a : AttributeItem). record { line = a.line; form = a.form; name = a.name }) [] [] d.attributes once.2).1);
    }

pub parts_kept : (d : Description) (known : Known) → IsCheckable d → IsSound d known → IsKept (automata_of d) (map (class_parts d known) d.classes) (map (bypass_parts d) d.bypasses) (attributes_of d)
parts_kept d known formed sound = kept d known formed sound
