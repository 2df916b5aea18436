-- The earliest of the items that pass a limit of their extents.
use Rattle.std.proofs.Common.{◌≡◌, ℕ, ◌+◌, ◌-◌, ◌<◌, ◌≤◌, min, max, nat_lt, Bool, true, false, cond, List, [], ◌∷◌, ◌++◌, map, filter, length, get_or, drop, Contains, Option, Some, None, refl, sym, ap, ◌∙◌, subst, arith}
use Rattle.std.specs.Prelude.{◌||◌}
use Rattle.std.specs.List.{list_any}
use Rattle.std.proofs.lemmas.Bool.Decides.{nat_tests}
use Rattle.std.proofs.lemmas.List.{drop_more, append-nil, get_or-map, length-map}
use Rattle.std.proofs.lemmas.List.Elements.{Contains-append_left, Contains-append_right}
use Rattle.hz_base_model.specs.Limits.{cycle_limit}
use Rattle.hz_description_model.specs.Reservations.Limits.{alternative_limit}
use Rattle.hz_altern.specs.Tables.{AreRight}
use Rattle.hz_check_reservations.specs.declared.listing.extents.PastExtents.{PastExtents}
use Rattle.hz_check_reservations.specs.Past.{sites_of, AreCountable, AreRightFor, TellsAfter, ArePast}
use Rattle.hz_check_reservations.specs.Places.{reported}
use Rattle.hz_check_reservations.specs.Tables.{IsAfter, Holds, HasExtent}
use Rattle.hz_check_reservations.proofs.Holding.{all_held, right_extents}
use Rattle.hz_check_reservations.proofs.Ordered.{written, names_in_all}
use Rattle.hz_description_model.specs.Reservations.Alternatives.{Alternative, alternatives_of}
use Rattle.hz_description_model.specs.Reservations.AlternativeLists.{Extent, extent_of, greatest_length}
use Rattle.hz_description_model.specs.Reservations.Automata.{UnitPlace}
use Rattle.hz_description_model.specs.Check.CheckFaults.{faults_of_names, has_too_many, has_too_long}
use Rattle.hz_description_model.specs.Check.CountingOrder.{Reserving, alternatives_in, reservations_of, classes_of}
use Rattle.hz_description_model.specs.Check.FirstReported.{first_reported}
use Rattle.hz_description_model.specs.Reading.Descriptions.{Description}
use Rattle.hz_description_model.specs.Reading.DescriptionShape.{IsCheckable}
use Rattle.hz_description_model.specs.Check.Places.{IsKnown, Known}
use Rattle.hz_description_model.specs.Check.Sites.{Site, earlier, earliest}
use Rattle.hz_base_model.proofs.Elements.{Contains-head, Contains-tail}
use Rattle.hz_check_reservations.specs.Orders.{all_of, IsOrder, reservings}

-- what an extent tells

cut_many : (n : ℕ) → nat_lt alternative_limit n ≡ nat_lt alternative_limit (min n (alternative_limit + 1))
cut_many n = grind (arith, nat_tests)

cut_long : (n : ℕ) → nat_lt cycle_limit n ≡ nat_lt cycle_limit (min n (cycle_limit + 1))
cut_long n = grind (arith, nat_tests)

max_long : (m n : ℕ) → (nat_lt cycle_limit m || nat_lt cycle_limit n) ≡ nat_lt cycle_limit (max m n)
max_long m n = grind (arith, nat_tests)

pub some_long : (xs : List (Alternative UnitPlace)) → list_any (λ a. nat_lt cycle_limit a.cycles) xs ≡ nat_lt cycle_limit (greatest_length xs)
some_long [] = refl
some_long (x ∷ xs) = ap (λ (b : Bool). nat_lt cycle_limit x.cycles || b) (some_long xs) ∙ max_long x.cycles (greatest_length xs)

tells_many : (known : Known) (q : Reserving) (e : Extent) → e ≡ extent_of (alternatives_in known q) → has_too_many known q ≡ nat_lt alternative_limit e.count
tells_many known q e is = cut_many (length (alternatives_in known q)) ∙ ap (λ (x : Extent). nat_lt alternative_limit x.count) (sym is)

tells_long : (known : Known) (q : Reserving) (e : Extent) → e ≡ extent_of (alternatives_in known q) → has_too_long known q ≡ nat_lt cycle_limit e.longest
tells_long known q e is = some_long (alternatives_in known q) ∙ (cut_long (greatest_length (alternatives_in known q)) ∙ ap (λ (x : Extent). nat_lt cycle_limit x.longest) (sym is))

-- one item in front of others

in_front : (test : Reserving → Bool) (q : Reserving) (items : List Reserving) (beyond : List Site) (passed : Bool) → test q ≡ passed
    → earliest (sites_of test (q ∷ items) ++ beyond) ≡ earlier (cond passed (Some q.site) None) (earliest (sites_of test items ++ beyond))
in_front test q items beyond passed is = ap (λ (b : Bool). earliest (map (λ (r : Reserving). r.site) (cond b (q ∷ filter test items) (filter test items)) ++ beyond)) is ∙ by_test passed
  where
    by_test : (b : Bool) → earliest (map (λ (r : Reserving). r.site) (cond b (q ∷ filter test items) (filter test items)) ++ beyond) ≡ earlier (cond b (Some q.site) None) (earliest (sites_of test items ++ beyond))
    by_test true = refl
    by_test false = refl

right_tail : (table : List ℕ → Option Extent) (known : Known) (q : Reserving) (items : List Reserving) → AreRightFor table known (q ∷ items) → AreRightFor table known items
right_tail table known q items right = record { each = λ r h. right.each r (Contains-tail q r items h) }

module _ (table : List ℕ → Option Extent) (items : List Reserving) (old : PastExtents) where
  pub tells_more : (i : ℕ) (q : Reserving) (e : Extent) (now next : PastExtents) → 0 < i → i ≤ length items → q ≡ get_or items (i - 1) q
      → ((known : Known) → AreRight table known q.expression → e ≡ extent_of (alternatives_of known q.expression))
      → reported next.alternatives ≡ earlier (cond (nat_lt alternative_limit e.count) (Some q.site) None) (reported now.alternatives)
      → reported next.cycles ≡ earlier (cond (nat_lt cycle_limit e.longest) (Some q.site) None) (reported now.cycles)
      → TellsAfter table (drop i items) old now → TellsAfter table (drop (i - 1) items) old next
  tells_more i q e now next some within is counted many long tells =
      let step : (i - 1) + 1 ≡ i = omega arith in
      let parts : drop (i - 1) items ≡ q ∷ drop i items = drop_more items (i - 1) q (omega arith)
      ∙ (ap (λ (x : Reserving). x ∷ drop ((i - 1) + 1) items) (sym is) ∙ ap (λ (n : ℕ). q ∷ drop n items) step) in
      subst (λ (xs : List Reserving). TellsAfter table xs old next) (sym parts) (record {
        many = λ known right beyond begun.
            let e_is = counted known (right.each q (Contains-head q (drop i items))) in
            many ∙ (ap (earlier (cond (nat_lt alternative_limit e.count) (Some q.site) None)) (tells.many known (right_tail table known q (drop i items) right) beyond begun)
            ∙ sym (in_front (has_too_many known) q (drop i items) beyond (nat_lt alternative_limit e.count) (tells_many known q e e_is)));
        long = λ known right beyond begun.
            let e_is = counted known (right.each q (Contains-head q (drop i items))) in
            long ∙ (ap (earlier (cond (nat_lt cycle_limit e.longest) (Some q.site) None)) (tells.long known (right_tail table known q (drop i items) right) beyond begun)
            ∙ sym (in_front (has_too_long known) q (drop i items) beyond (nat_lt cycle_limit e.longest) (tells_long known q e e_is)));
      })

-- all of a description

module _ (d : Description) (reported_names : first_reported (faults_of_names d) ≡ None) (formed : IsCheckable d) (order : List ℕ) (ordered : IsOrder d order)
    (table : List ℕ → Option Extent) (h : Holds (HasExtent d) (IsAfter d order) table) where
  pub countable : (items : List Reserving) → ((r : Reserving) → Contains items r → Contains (all_of d) r) → AreCountable table items
  countable items inside = record {
    formed = λ r k. written d reported_names formed order ordered r (inside r k);
    held = λ r k. all_held (HasExtent d) (IsAfter d order) table h r.expression (names_in_all d reported_names formed order ordered r (inside r k));
  }

  right_for : (known : Known) → IsKnown d known → (items : List Reserving) → ((r : Reserving) → Contains items r → Contains (all_of d) r) → AreRightFor table known items
  right_for known right items inside = record { each = λ r k. right_extents d (IsAfter d order) known right table h r.expression (names_in_all d reported_names formed order ordered r (inside r k)) }

  pub of_classes : (r : Reserving) → Contains (classes_of d) r → Contains (all_of d) r
  of_classes r k = Contains-append_right (reservations_of d) (classes_of d) r k

  pub of_reservations : (r : Reserving) → Contains (reservations_of d) r → Contains (all_of d) r
  of_reservations r k = Contains-append_left (reservations_of d) (classes_of d) r k

  pub past_all : (none classes all : PastExtents) → reported none.alternatives ≡ None → reported none.cycles ≡ None → TellsAfter table (classes_of d) none classes → TellsAfter table (reservations_of d) classes all → ArePast d (reservings d order) all
  past_all none classes all no_many no_long first second = record {
    many = λ known right.
        let beyond = sites_of (has_too_many known) (classes_of d) in
        second.many known (right_for known right (reservations_of d) of_reservations) beyond
        (first.many known (right_for known right (classes_of d) of_classes) [] no_many ∙ ap earliest (append-nil beyond));
    long = λ known right.
        let beyond = sites_of (has_too_long known) (classes_of d) in
        second.long known (right_for known right (reservations_of d) of_reservations) beyond
        (first.long known (right_for known right (classes_of d) of_classes) [] no_long ∙ ap earliest (append-nil beyond));
  }

-- an item that the code holds, as a reservation or class
pub mapped_at : {A : Type 0} (f : A → Reserving) (items : List A) (k : ℕ) (x : A) (q : Reserving) → k < length items → x ≡ get_or items k x → q ≡ f x → q ≡ get_or (map f items) k q
mapped_at f items k x q lt is same = same ∙ (ap f is ∙ sym (get_or-map f items k x q lt))

pub mapped_in : {A : Type 0} (f : A → Reserving) (items : List A) (k : ℕ) (x : A) (q : Reserving) → k < length items → x ≡ get_or items k x → q ≡ f x → Contains (map f items) q
mapped_in f items k x q lt is same = (k, omega (arith, length-map items f), sym (mapped_at f items k x q lt is same))

pub map_twice : {A B C : Type 0} (f : B → C) (g : A → B) (xs : List A) → map f (map g xs) ≡ map (λ x. f (g x)) xs
map_twice f g [] = refl
map_twice f g (x ∷ xs) = ap (λ ys. f (g x) ∷ ys) (map_twice f g xs)

-- the items that the code holds
pub same_items : {A B : Type 0} (f : B → Reserving) (g : A → B) (slice items : List A) → slice ≡ items → map f (map g items) ≡ map (λ x. f (g x)) slice
same_items {A} f g slice items e = map_twice f g items ∙ ap (map (λ (x : A). f (g x))) (sym e)
