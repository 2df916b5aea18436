-- Where the query units of an automaton are, and how they are called.
use Rattle.std.proofs.Common.{◌≡◌, ◌≢◌, ℕ, zero, suc, ◌+◌, ◌<◌, ◌≤◌, ⊎_elim, Bool, true, false, cond, List, [], ◌∷◌, ◌++◌, length, map, filter, Contains, All, Some, get_or, slice_get, refl, ap, ◌∙◌, subst, arith}
use Rattle.std.specs.Prelude.{◌↔◌, IsTrue}
use Rattle.std.specs.List.{flat_map, AllPairs}
use Rattle.std.proofs.lemmas.Bool.{cond_both, both_ways}
use Rattle.std.proofs.lemmas.List.{length-map, length-append, append_assoc}
use Rattle.std.proofs.lemmas.List.Elements.{All-nil, All-cons, All-map, All-weaker, All-contains, All-head, All-tail, Contains-get_or, Contains-append_left, Contains-append_right, Contains-append_cases}
use Rattle.std.proofs.lemmas.List.Kept.{AllPairs-cons}
use Rattle.std.proofs.lemmas.Option.{none-some, same_Some}
use Rattle.hz_base_model.proofs.Ascending.{AllPairs-head, AllPairs-tail, AllPairs-append}
use Rattle.hz_base_model.proofs.Elements.{Contains-nil, Contains-head, Contains-tail, Contains-cons_cases, Contains-from_map}
use Rattle.hz_description_model.specs.Reading.Descriptions.{Description, UnitItem}
use Rattle.hz_description_model.specs.Check.CheckedParts.{AutomatonParts, unit_items_in, units_in, places_where, queries_in, ask_names_in, automaton_parts}
use Rattle.hz_description_model.specs.Check.CheckedShape.{ask_names}

get_there : {B : Type 0} (before : List B) (x : B) (after : List B) (e : B) → get_or (before ++ x ∷ after) (length before) e ≡ x
get_there [] x after e = refl
get_there (y ∷ before) x after e = get_there before x after e

-- Places of the items that pass a test.
module _ {A : Type 0} (test : A → Bool) where
  -- they lie among the places of the items
  pub places_among : (n : ℕ) (items : List A) → All (λ p. (n ≤ p) × (p < n + length items)) (places_where test n items)
  places_among n [] = All-nil (λ p. (n ≤ p) × (p < n + zero))
  places_among n (item ∷ items) =
      let later : All (λ p. (n ≤ p) × (p < n + suc (length items))) (places_where test (suc n) items)
      = All-weaker (λ p. (suc n ≤ p) × (p < suc n + length items)) (λ p. (n ≤ p) × (p < n + suc (length items))) (λ p h. let low = h.0 in let high = h.1 in (omega arith, omega arith)) (places_where test (suc n) items) (places_among (suc n) items) in
      cond_both (test item) (n ∷ places_where test (suc n) items) (places_where test (suc n) items) (λ ps. All (λ p. (n ≤ p) × (p < n + suc (length items))) ps)
      (λ _. All-cons (λ p. (n ≤ p) × (p < n + suc (length items))) n (places_where test (suc n) items) (omega arith, omega arith) later)
      (λ _. later)

  -- and ascend
  pub places_ascend : (n : ℕ) (items : List A) → AllPairs (λ p q. p < q) (places_where test n items)
  places_ascend n [] = λ i j e low within. absurd (omega arith)
  places_ascend n (item ∷ items) =
      let later = places_ascend (suc n) items in
      cond_both (test item) (n ∷ places_where test (suc n) items) (places_where test (suc n) items) (λ ps. AllPairs (λ p q. p < q) ps)
      (λ _. AllPairs-cons (λ p q. p < q) n (places_where test (suc n) items)
      (All-weaker (λ p. (suc n ≤ p) × (p < suc n + length items)) (λ p. n < p) (λ p h. let low = h.0 in omega arith) (places_where test (suc n) items) (places_among (suc n) items)) later)
      (λ _. later)

  -- the item at such a place passes
  pub place_passes : (n : ℕ) (items : List A) (p : ℕ) → Contains (places_where test n items) p → (k : ℕ) × (p ≡ n + k) × (x : A) × (slice_get items k ≡ Some x) × (test x ≡ true)
  place_passes n [] p there = absurd (Contains-nil p there)
  place_passes n (item ∷ items) p there =
      let later = λ (h : Contains (places_where test (suc n) items) p). let found = place_passes (suc n) items p h in let is = found.1 in let out : (k : ℕ) × (p ≡ n + k) × (x : A) × (slice_get (item ∷ items) k ≡ Some x) × (test x ≡ true) = (suc found.0, omega arith, found.2, found.3, found.4) in out in
      cond_both (test item) (n ∷ places_where test (suc n) items) (places_where test (suc n) items) (λ ps. Contains ps p → (k : ℕ) × (p ≡ n + k) × (x : A) × (slice_get (item ∷ items) k ≡ Some x) × (test x ≡ true))
      (λ passes h. ⊎_elim
      (λ (same : n ≡ p). (0, omega arith, item, refl, passes))
      (λ (k : Contains (places_where test (suc n) items) p). later k)
      (Contains-cons_cases n p (places_where test (suc n) items) h))
      (λ _ h. later h) there

  -- and each that passes has its place
  pub passing_place : (n : ℕ) (items : List A) (k : ℕ) (x : A) → slice_get items k ≡ Some x → test x ≡ true → Contains (places_where test n items) (n + k)
  passing_place n [] k x is passes = absurd (none-some x is)
  passing_place n (item ∷ items) zero x is passes =
      let same : item ≡ x = same_Some item x is in
      let here : n ≡ n + zero = omega arith in
      cond_both (test item) (n ∷ places_where test (suc n) items) (places_where test (suc n) items) (λ ps. Contains ps (n + zero))
      (λ _. subst (λ m. Contains (n ∷ places_where test (suc n) items) m) here (Contains-head n (places_where test (suc n) items)))
      (λ fails. absurd (both_ways (test item) fails (ap test same ∙ passes)))
  passing_place n (item ∷ items) (suc k) x is passes =
      let next : suc n + k ≡ n + suc k = omega arith in
      let later : Contains (places_where test (suc n) items) (n + suc k) = subst (λ m. Contains (places_where test (suc n) items) m) next (passing_place (suc n) items k x is passes) in
      cond_both (test item) (n ∷ places_where test (suc n) items) (places_where test (suc n) items) (λ ps. Contains ps (n + suc k))
      (λ _. Contains-tail n (n + suc k) (places_where test (suc n) items) later)
      (λ _. later)

  -- what a function gives of the items at these places
  pub at_places : {B : Type 0} (f : A → B) (e : B) (before : List B) (items : List A) → map (λ p. get_or (before ++ map f items) p e) (places_where test (length before) items) ≡ map f (filter test items)
  at_places f e before [] = refl
  at_places {B = B} f e before (item ∷ items) = by_test (test item) (moved (at_places f e (before ++ f item ∷ []) items))
    where
      long : length (before ++ f item ∷ []) ≡ suc (length before)
      long = length-append before (f item ∷ []) ∙ omega arith

      same : (before ++ f item ∷ []) ++ map f items ≡ before ++ map f (item ∷ items)
      same = append_assoc before (f item ∷ []) (map f items)

      moved : map (λ p. get_or ((before ++ f item ∷ []) ++ map f items) p e) (places_where test (length (before ++ f item ∷ [])) items) ≡ map f (filter test items)
          → map (λ p. get_or (before ++ map f (item ∷ items)) p e) (places_where test (suc (length before)) items) ≡ map f (filter test items)
      moved h = subst (λ n. map (λ p. get_or (before ++ map f (item ∷ items)) p e) (places_where test n items) ≡ map f (filter test items)) long
          (subst (λ (xs : List B). map (λ p. get_or xs p e) (places_where test (length (before ++ f item ∷ [])) items) ≡ map f (filter test items)) same h)

      by_test : (b : Bool) → map (λ p. get_or (before ++ map f (item ∷ items)) p e) (places_where test (suc (length before)) items) ≡ map f (filter test items)
          → map (λ p. get_or (before ++ map f (item ∷ items)) p e) (cond b (length before ∷ places_where test (suc (length before)) items) (places_where test (suc (length before)) items)) ≡ map f (cond b (item ∷ filter test items) (filter test items))
      by_test true rest = ap (λ (ys : List B). get_or (before ++ map f (item ∷ items)) (length before) e ∷ ys) rest ∙ ap (λ (y : B). y ∷ map f (filter test items)) (get_there before (f item) (map f items) e)
      by_test false rest = rest

-- Query units of an automaton.

pub queries_ascend : (d : Description) (automaton : ℕ) → AllPairs (λ m n. m < n) (queries_in d automaton)
queries_ascend d automaton = places_ascend (λ (u : UnitItem). u.query) 0 (unit_items_in d automaton)

pub queries_low : (d : Description) (automaton : ℕ) → All (λ n. n < length (units_in d automaton)) (queries_in d automaton)
queries_low d automaton =
    let long = length-map (unit_items_in d automaton) (λ (u : UnitItem). u.name) in
    All-weaker (λ p. (0 ≤ p) × (p < 0 + length (unit_items_in d automaton))) (λ n. n < length (units_in d automaton)) (λ n h. let low = h.1 in omega arith) (queries_in d automaton) (places_among (λ u. u.query) 0 (unit_items_in d automaton))

pub asked_names : (d : Description) (automaton : ℕ) (name : List ℕ) → ask_names (automaton_parts d automaton name) ≡ ask_names_in d automaton
asked_names d automaton name = at_places (λ (u : UnitItem). u.query) (λ u. u.name) [] [] (unit_items_in d automaton)

pub query_place : (d : Description) (automaton n : ℕ) → Contains (queries_in d automaton) n ↔ ((u : UnitItem) × (slice_get (unit_items_in d automaton) n ≡ Some u) × IsTrue u.query)
query_place d automaton n = (
  λ h. let found = place_passes (λ (u : UnitItem). u.query) 0 (unit_items_in d automaton) n h in
      let same : found.0 ≡ n = let is = found.1 in omega arith in
      (found.2, subst (λ m. slice_get (unit_items_in d automaton) m ≡ Some found.2) same found.3, found.4),
  λ found. let zero_more : 0 + n ≡ n = omega arith in
      subst (λ m. Contains (queries_in d automaton) m) zero_more (passing_place (λ (u : UnitItem). u.query) 0 (unit_items_in d automaton) n found.0 found.1 found.2),
)

-- Names of query units.

-- the parts of pairs that stand side by side
front_pairs : {A : Type 0} (R : A → A → Type 0) (xs ys : List A) → AllPairs R (xs ++ ys) → AllPairs R xs × AllPairs R ys × ((x y : A) → Contains xs x → Contains ys y → R x y)
front_pairs R [] ys h = (λ i j e low within. absurd (omega arith), h, λ x y there here. absurd (Contains-nil x there))
front_pairs R (x ∷ xs) ys h =
    let first = AllPairs-head R x (xs ++ ys) h in
    let rest = front_pairs R xs ys (AllPairs-tail R x (xs ++ ys) h) in (
      AllPairs-cons R x xs (λ k e within. All-contains (R x) (xs ++ ys) (get_or xs k e) first (Contains-append_left xs ys (get_or xs k e) (Contains-get_or xs k e within))) rest.0,
      rest.1,
      λ y z there here. ⊎_elim
          (λ (same : x ≡ y). subst (λ w. R w z) same (All-contains (R x) (xs ++ ys) z first (Contains-append_right xs ys z here)))
          (λ (k : Contains xs y). rest.2 y z k here)
          (Contains-cons_cases x y xs there),
    )

-- items at places that ascend are apart as all are
picked_apart : (names : List (List ℕ)) (places : List ℕ) → AllPairs (λ a b. a ≢ b) names → AllPairs (λ m n. m < n) places → All (λ n. n < length names) places → AllPairs (λ a b. a ≢ b) (map (λ n. get_or names n []) places)
picked_apart names [] apart ascend low = λ i j e before within. absurd (omega arith)
picked_apart names (n ∷ places) apart ascend low = AllPairs-cons (λ a b. a ≢ b) (get_or names n []) (map (λ n. get_or names n []) places)
    (All-map (λ b. get_or names n [] ≢ b) (λ n. get_or names n []) places
    (λ k e within.
    let after : n < get_or places k e = AllPairs-head (λ m n. m < n) n places ascend k e within in
    let inside : get_or places k e < length names = All-tail (λ n. n < length names) n places low k e within in
    apart n (get_or places k e) [] after inside))
    (picked_apart names places apart (AllPairs-tail (λ m n. m < n) n places ascend) (All-tail (λ n. n < length names) n places low))

abbrev AreQueries : AutomatonParts → Type 0
AreQueries a = AllPairs (λ m n. m < n) a.queries × All (λ n. n < length a.units) a.queries

-- what is asked of an automaton is a unit of it
asked_unit : (a : AutomatonParts) → AreQueries a → (name : List ℕ) → Contains (ask_names a) name → Contains a.units name
asked_unit a are name there =
    let found = Contains-from_map (λ n. get_or a.units n []) a.queries name there in
    let low = All-contains (λ n. n < length a.units) a.queries found.0 are.1 found.1 in
    subst (λ x. Contains a.units x) found.2 (Contains-get_or a.units found.0 [] low)

asked_units : (automata : List AutomatonParts) → All AreQueries automata → (name : List ℕ) → Contains (flat_map ask_names automata) name → Contains (flat_map (λ a. a.units) automata) name
asked_units [] are name there = absurd (Contains-nil name there)
asked_units (a ∷ automata) are name there = ⊎_elim
    (λ (k : Contains (ask_names a) name). Contains-append_left a.units (flat_map (λ a. a.units) automata) name (asked_unit a (All-head AreQueries a automata are) name k))
    (λ (k : Contains (flat_map ask_names automata) name). Contains-append_right a.units (flat_map (λ a. a.units) automata) name (asked_units automata (All-tail AreQueries a automata are) name k))
    (Contains-append_cases (ask_names a) (flat_map ask_names automata) name there)

pub names_of_their_own : (automata : List AutomatonParts) → AllPairs (λ a b. a ≢ b) (flat_map (λ a. a.units) automata) → All AreQueries automata → AllPairs (λ a b. a ≢ b) (flat_map ask_names automata)
names_of_their_own [] apart are = λ i j e before within. absurd (omega arith)
names_of_their_own (a ∷ automata) apart are =
    let parts = front_pairs (λ a b. a ≢ b) a.units (flat_map (λ a. a.units) automata) apart in
    let first = All-head AreQueries a automata are in
    let others = All-tail AreQueries a automata are in
    AllPairs-append (λ a b. a ≢ b) (ask_names a) (flat_map ask_names automata)
    (picked_apart a.units a.queries parts.0 first.0 first.1)
    (names_of_their_own automata parts.1 others)
    (λ x y there here. parts.2 x y (asked_unit a first x there) (asked_units automata others y here))
