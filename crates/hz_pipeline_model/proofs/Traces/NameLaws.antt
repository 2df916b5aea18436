-- Places of names: of classes, and of query units over all automata.
use Rattle.std.proofs.Common.{◌≡◌, ℕ, zero, suc, ◌+◌, ◌<◌, Bool, true, false, cond, nat_lt, List, [], ◌∷◌, ◌++◌, length, All, Option, Some, None, get_or, slice_get, slice_index_or, refl, sym, ap, ◌∙◌, subst, arith, zero-add}
use Rattle.std.specs.Prelude.{◌≢◌}
use Rattle.std.specs.List.{AllPairs, Contains, flat_map, position_or_len}
use Rattle.std.specs.Str.{bytes_eq}
use Rattle.std.proofs.lemmas.Slice.Eq.{bytes_eq-Decides}
use Rattle.std.proofs.lemmas.Bool.{lt-ltb, ltb-false}
use Rattle.std.proofs.lemmas.Option.{none-some, same_Some, slice_get-get_or, slice_get_within, get_or_from_slice_get}
use Rattle.std.proofs.lemmas.List.Quantifiers.{position-Some}
use Rattle.std.proofs.lemmas.List.Sums.{position_or_len_is, fails_before_first}
use Rattle.std.proofs.lemmas.List.{get_or_append_left, length-append}
use Rattle.std.proofs.lemmas.List.Elements.{All-nil, All-cons, All-contains, Contains-get_or, Contains-append_left, Contains-append_right}
use Rattle.hz_base_model.specs.Lines.{place_of}
use Rattle.hz_base_model.proofs.Ascending.{AllPairs-head, AllPairs-tail}
use Rattle.hz_pipeline_model.specs.Accepting.Events.{Event, issue, advance, ask, IsOfClass}
use Rattle.hz_pipeline_model.specs.Accepting.Asking.{IsOfQuery}
use Rattle.hz_pipeline_model.specs.Traces.TraceNames.{TraceNames, found_first, query_from, query_place}
use Rattle.hz_pipeline_model.specs.Traces.Traces.{says, line_says, Say}
use Rattle.hz_pipeline_model.proofs.Traces.WordLaws.{issue_line, ask_line}

-- ---- one list of names

pub place_named : (name : List ℕ) (names : List (List ℕ)) (k : ℕ) → place_of name names ≡ Some k → slice_get names k ≡ Some name
place_named name names k h =
    let found = position-Some (bytes_eq name) names k [] h in
    slice_get-get_or names k [] found.0 ∙ ap Some (sym ((bytes_eq-Decides name (get_or names k [])).0 found.1))

place_within : (name : List ℕ) (names : List (List ℕ)) (k : ℕ) → place_of name names ≡ Some k → k < length names
place_within name names k h = slice_get_within names k name (place_named name names k h)

not_same : (a b : List ℕ) → a ≢ b → bytes_eq a b ≡ false
not_same a b other = by_test (bytes_eq a b) refl
  where
    by_test : (t : Bool) → bytes_eq a b ≡ t → t ≡ false
    by_test true e = absurd (other ((bytes_eq-Decides a b).0 e))
    by_test false e = refl

-- a name that stands at a place, and at none before
first_placed : (name : List ℕ) (names : List (List ℕ)) (k : ℕ) → slice_get names k ≡ Some name → ((i : ℕ) → i < k → name ≢ get_or names i []) → place_of name names ≡ Some k
first_placed name names k h before =
    let within : k < length names = slice_get_within names k name h in
    let here : get_or names k [] ≡ name = get_or_from_slice_get names k name [] h in
    let is : position_or_len (bytes_eq name) names ≡ k =
    position_or_len_is (bytes_eq name) names k [] (omega (arith, within)) (λ i low. not_same name (get_or names i []) (before i low)) (λ low. (bytes_eq-Decides name (get_or names k [])).1 (sym here)) in
    let low : nat_lt k (length names) ≡ true = lt-ltb k (length names) within in
    rw (is, low) refl

name_placed : (name : List ℕ) (names : List (List ℕ)) (k : ℕ) → AllPairs (λ a b. a ≢ b) names → slice_get names k ≡ Some name → place_of name names ≡ Some k
name_placed name names k apart h =
    first_placed name names k h
    (λ i low same. apart i k [] low (slice_get_within names k name h) (sym same ∙ sym (get_or_from_slice_get names k name [] h)))

-- a name that stands at some place is found at one
no_place : (names : List (List ℕ)) (name : List ℕ) (k : ℕ) → slice_get names k ≡ Some name → place_of name names ≡ None → ⊥
no_place names name k h none = by_end (nat_lt (position_or_len (bytes_eq name) names) (length names)) refl none
  where
    by_end : (b : Bool) → nat_lt (position_or_len (bytes_eq name) names) (length names) ≡ b → cond b (Some (position_or_len (bytes_eq name) names)) None ≡ None → ⊥
    by_end true e is = absurd (cc)
    by_end false e is =
        let end = ltb-false (position_or_len (bytes_eq name) names) (length names) e in
        let within = slice_get_within names k name h in
        let other : bytes_eq name (get_or names k []) ≡ false = fails_before_first (bytes_eq name) names k [] (omega (arith, end, within)) in
        let passes : bytes_eq name (get_or names k []) ≡ true = (bytes_eq-Decides name (get_or names k [])).1 (sym (get_or_from_slice_get names k name [] h)) in
        cc

-- ---- lists one after the other

module _ {X : Type 0} (R : X → X → Type 0) where
  front_apart : (xs ys : List X) → AllPairs R (xs ++ ys) → AllPairs R xs
  front_apart xs ys h i j d low within =
      let long = length-append xs ys in
      let early : i < length xs = omega (arith, low, within) in
      let apart : R (get_or (xs ++ ys) i d) (get_or (xs ++ ys) j d) = h i j d low (omega (arith, within, long)) in
      subst (λ (x : X). R x (get_or xs j d)) (get_or_append_left xs ys d i early) (subst (λ (y : X). R (get_or (xs ++ ys) i d) y) (get_or_append_left xs ys d j within) apart)

  back_apart : (xs ys : List X) → AllPairs R (xs ++ ys) → AllPairs R ys
  back_apart [] ys h = h
  back_apart (x ∷ xs) ys h = back_apart xs ys (AllPairs-tail R x (xs ++ ys) h)

  across : (xs ys : List X) (x y : X) → AllPairs R (xs ++ ys) → (i : ℕ) → slice_get xs i ≡ Some x → Contains ys y → R x y
  across [] ys x y h i at there = absurd (cc)
  across (first ∷ xs) ys x y h zero at there = subst (λ (z : X). R z y) (same_Some first x at) (All-contains (R first) (xs ++ ys) y (AllPairs-head R first (xs ++ ys) h) (Contains-append_right xs ys y there))
  across (first ∷ xs) ys x y h (suc i) at there = across xs ys x y (AllPairs-tail R first (xs ++ ys) h) i at there

-- ---- query units over all automata

abbrev all_of : List (List (List ℕ)) → List (List ℕ)
all_of lists = flat_map (λ (units : List (List ℕ)). units) lists

-- the name stands in a list at a place
abbrev Stands : List (List (List ℕ)) → ℕ → ℕ → List ℕ → Type 0
Stands lists automaton query name = slice_get (slice_index_or lists automaton []) query ≡ Some name

stands_among : (lists : List (List (List ℕ))) (automaton query : ℕ) (name : List ℕ) → Stands lists automaton query name → Contains (all_of lists) name
stands_among [] automaton query name h = absurd (cc)
stands_among (units ∷ others) zero query name h =
    Contains-append_left units (all_of others) name
    (subst (Contains units) (get_or_from_slice_get units query name [] h) (Contains-get_or units query [] (slice_get_within units query name h)))
stands_among (units ∷ others) (suc automaton) query name h = Contains-append_right units (all_of others) name (stands_among others automaton query name h)

module _ (name : List ℕ) where
  record Found (from : ℕ) (lists : List (List (List ℕ))) (automaton query : ℕ) : Type 0 where
    at : ℕ
    counted : automaton ≡ from + at
    stands : Stands lists at query name

  found_from : (from : ℕ) (lists : List (List (List ℕ))) (automaton query : ℕ) → query_from from lists name ≡ Some (automaton, query) → Found from lists automaton query
  found_from from [] automaton query h = absurd (cc)
  found_from from (units ∷ others) automaton query h = by_place (place_of name units) refl h (found_from (from + 1) others automaton query)
    where
      by_place : (here : Option ℕ) → place_of name units ≡ here → found_first from here (query_from (from + 1) others name) ≡ Some (automaton, query)
          → (query_from (from + 1) others name ≡ Some (automaton, query) → Found (from + 1) others automaton query) → Found from (units ∷ others) automaton query
      by_place (Some k) is h later =
          let same : ◌≡◌ {A = ℕ × ℕ} (from, k) (automaton, query) = same_Some (from, k) (automaton, query) h in
          let there : k ≡ query = ap (λ (p : ℕ × ℕ). p.1) same in
          let first : from ≡ automaton = ap (λ (p : ℕ × ℕ). p.0) same in
          record { at = 0; counted = omega (arith, first); stands = subst (λ (q : ℕ). slice_get units q ≡ Some name) there (place_named name units k is) }
      by_place None is h later =
          let f = later h in
          let count = f.counted in
          record { at = suc f.at; counted = omega (arith, count); stands = f.stands }

  -- a name that stands in a list is found in it or before
  none_stands : (from : ℕ) (lists : List (List (List ℕ))) → query_from from lists name ≡ None → (automaton query : ℕ) → Stands lists automaton query name → ⊥
  none_stands from [] h automaton query there = absurd (cc)
  none_stands from (units ∷ others) h automaton query there = by_place (place_of name units) refl h (none_stands (from + 1) others) automaton there
    where
      by_place : (here : Option ℕ) → place_of name units ≡ here → found_first from here (query_from (from + 1) others name) ≡ None
          → (query_from (from + 1) others name ≡ None → (automaton query : ℕ) → Stands others automaton query name → ⊥) → (automaton : ℕ) → Stands (units ∷ others) automaton query name → ⊥
      by_place (Some k) is h later automaton there = absurd (none-some (from, k) (sym h))
      by_place None is h later zero there = no_place units name query there is
      by_place None is h later (suc automaton) there = later h automaton query there

  placed_from : (from : ℕ) (lists : List (List (List ℕ))) → AllPairs (λ a b. a ≢ b) (all_of lists) → (automaton query : ℕ) → Stands lists automaton query name
      → query_from from lists name ≡ Some (from + automaton, query)
  placed_from from [] apart automaton query there = absurd (cc)
  placed_from from (units ∷ others) apart zero query there =
      let here = name_placed name units query (front_apart (λ a b. a ≢ b) units (all_of others) apart) there in
      let count : from ≡ from + 0 = omega arith in
      ap (λ (o : Option ℕ). found_first from o (query_from (from + 1) others name)) here ∙ ap (λ (n : ℕ). Some (n, query)) count
  placed_from from (units ∷ others) apart (suc automaton) query there =
      let beyond = placed_from (from + 1) others (back_apart (λ a b. a ≢ b) units (all_of others) apart) automaton query there in
      let none : place_of name units ≡ None = not_before (place_of name units) refl in
      let count : from + 1 + automaton ≡ from + suc automaton = omega arith in
      ap (λ (o : Option ℕ). found_first from o (query_from (from + 1) others name)) none ∙ (beyond ∙ ap (λ (n : ℕ). Some (n, query)) count)
    where
      not_before : (o : Option ℕ) → place_of name units ≡ o → place_of name units ≡ None
      not_before None is = is
      not_before (Some k) is = absurd (across (λ a b. a ≢ b) units (all_of others) name name apart k (place_named name units k is) (stands_among others automaton query name there) refl)

-- ---- what is found

pub query_named : (names : TraceNames) (name : List ℕ) (automaton query : ℕ) → query_place names name ≡ Some (automaton, query) → slice_get (slice_index_or names.queries automaton []) query ≡ Some name
query_named names name automaton query h =
    let f = found_from name 0 names.queries automaton query h in
    let count = f.counted in
    let same : f.at ≡ automaton = omega (arith, count) in
    subst (λ (a : ℕ). Stands names.queries a query name) same f.stands

pub query_placed : (names : TraceNames) → AllPairs (λ a b. a ≢ b) (flat_map (λ units. units) names.queries) → (name : List ℕ) (automaton query : ℕ)
    → slice_get (slice_index_or names.queries automaton []) query ≡ Some name → query_place names name ≡ Some (automaton, query)
query_placed names apart name automaton query h = rw zero-add at (placed_from name 0 names.queries apart automaton query h)

pub no_query_placed : (names : TraceNames) (name : List ℕ) → query_place names name ≡ None → (automaton query : ℕ) → slice_get (slice_index_or names.queries automaton []) query ≡ Some name → ⊥
no_query_placed names name h = none_stands name 0 names.queries h

pub query_missing : (names : TraceNames) (name : List ℕ) → ((automaton query : ℕ) → slice_get (slice_index_or names.queries automaton []) query ≡ Some name → ⊥) → query_place names name ≡ None
query_missing names name none = by_place (query_place names name) refl
  where
    by_place : (o : Option (ℕ × ℕ)) → query_place names name ≡ o → query_place names name ≡ None
    by_place None is = is
    by_place (Some place) is = absurd (none place.0 place.1 (query_named names name place.0 place.1 is))

-- ---- the events of a trace are of its names

module _ (names : TraceNames) where
  of_class : (line : List ℕ) (e : Event) → line_says names line ≡ says e → IsOfClass (length names.classes) e
  of_class line (issue k) h = let made = (issue_line names line k).0 h in place_within made.0 names.classes k made.3
  of_class line (advance n) h = tt
  of_class line (ask a u) h = tt

  of_query : (line : List ℕ) (e : Event) → line_says names line ≡ says e → IsOfQuery names.queries e
  of_query line (issue k) h = tt
  of_query line (advance n) h = tt
  of_query line (ask a u) h =
      let made = (ask_line names line a u).0 h in
      slice_get_within (slice_index_or names.queries a []) u made.0 (query_named names made.0 a u made.3)

  pub events_of_classes : {lines : List (List ℕ)} {events : List Event} → Say names lines events → All (IsOfClass (length names.classes)) events
  events_of_classes Say.nothing = All-nil (IsOfClass (length names.classes))
  events_of_classes (Say.skips is rest) = events_of_classes rest
  events_of_classes (Say.tells {line = line} {event = event} {events = events} is rest) = All-cons (IsOfClass (length names.classes)) event events (of_class line event is) (events_of_classes rest)

  pub events_of_queries : {lines : List (List ℕ)} {events : List Event} → Say names lines events → All (IsOfQuery names.queries) events
  events_of_queries Say.nothing = All-nil (IsOfQuery names.queries)
  events_of_queries (Say.skips is rest) = events_of_queries rest
  events_of_queries (Say.tells {line = line} {event = event} {events = events} is rest) = All-cons (IsOfQuery names.queries) event events (of_query line event is) (events_of_queries rest)
