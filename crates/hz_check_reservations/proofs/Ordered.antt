-- Orders in which each reservation comes after those that it names.
use Rattle.std.proofs.Common.{◌≡◌, ℕ, zero, suc, ◌+◌, ◌-◌, ◌<◌, ◌≤◌, ◌⊎◌, inl, inr, ⊎_elim, true, List, [], ◌∷◌, ◌++◌, length, get_or, take, Contains, Option, Some, None, refl, sym, ap, ◌∙◌, subst, arith, slice_get}
use Rattle.std.specs.Prelude.{IsTrue}
use Rattle.std.specs.List.{filter_map, cons_option}
use Rattle.std.proofs.lemmas.Bool.{cases_lt, or_cases}
use Rattle.std.proofs.lemmas.List.{take_more, length-map, length-append, get_or_append_left, get_or-append_right, get_or-map}
use Rattle.std.proofs.lemmas.List.Elements.{Contains-get_or, Contains-append_left, Contains-append_cases, Contains-push, Contains-push_cases, All-contains}
use Rattle.std.proofs.lemmas.Option.{none-some, same_Some, slice_get-get_or, slice_get_within, slice_get_past, get_or_from_slice_get}
use Rattle.hz_check_reservations.specs.Tables.{unit_names, reservation_names, IsAfter}
use Rattle.hz_check_reservations.proofs.Names.{no_unit_named}
use Rattle.hz_description_model.specs.Check.CheckFaults.{faults_of_names, is_unit, is_reservable}
use Rattle.hz_description_model.specs.Check.CountingOrder.{Reserving, reserving_reservation, reserving_class, reservations_of, classes_of}
use Rattle.hz_description_model.specs.Check.FirstReported.{first_reported}
use Rattle.hz_description_model.specs.Reservations.NamesIn.{names_in}
use Rattle.hz_description_model.specs.Reading.Descriptions.{Description, ReservationItem, ClassItem}
use Rattle.hz_description_model.specs.Reading.DescriptionShape.{IsCheckable, IsCheckableReservation, IsCheckableClass}
use Rattle.hz_description_model.specs.Reservations.Expressions.{is_expression}
use Rattle.hz_description_model.specs.Reservations.Meanings.{Mentions}
use Rattle.hz_description_model.specs.Check.Sites.{is_among}
use Rattle.hz_description_model.proofs.Check.CircleLaws.{named_there}
use Rattle.hz_base_model.proofs.Elements.{Contains-nil, Contains-head, Contains-tail, Contains-cons_cases, Contains-from_map}
use Rattle.hz_check_reservations.specs.Graphs.{At}
use Rattle.hz_check_reservations.specs.Orders.{all_of, reserving, nothing_reserved, number_of, IsOrder}
use Rattle.hz_check_reservations.proofs.NameFacts.{AreNamed, are_named, Contains-from_among, place_apart}
use Rattle.hz_check_reservations.proofs.Places.{At_within, Contains-from_At}

-- what a filter of a map keeps
pub Contains-filter_map : {A B : Type 0} (f : A → Option B) (xs : List A) (x : A) (y : B) → Contains xs x → f x ≡ Some y → Contains (filter_map f xs) y
Contains-filter_map f [] x y h is = absurd (Contains-nil x h)
Contains-filter_map f (z ∷ xs) x y h is = ⊎_elim
    (λ (e : z ≡ x). subst (λ o. Contains (cons_option o (filter_map f xs)) y) (sym (ap f e ∙ is)) (Contains-head y (filter_map f xs)))
    (λ (k : Contains xs x). beyond (f z) (filter_map f xs) (Contains-filter_map f xs x y k is))
    (Contains-cons_cases z x xs h)
  where
    beyond : (o : Option _) (ys : List _) → Contains ys y → Contains (cons_option o ys) y
    beyond None ys k = k
    beyond (Some w) ys k = Contains-tail w y ys k

-- what stands before a place
pub at_take : {A : Type 0} (xs : List A) (i j : ℕ) (x : A) → j < i → slice_get xs j ≡ Some x → Contains (take i xs) x
at_take [] i j x lt h = absurd (cc)
at_take (y ∷ xs) zero j x lt h = absurd (omega arith)
at_take {A} (y ∷ xs) (suc i) zero x lt h = let same : y ≡ x = cc in subst (λ (z : A). Contains (y ∷ take i xs) z) same (Contains-head y (take i xs))
at_take (y ∷ xs) (suc i) (suc j) x lt h = Contains-tail y x (take i xs) (at_take xs i j x (omega arith) h)

pub at_from_take : {A : Type 0} (xs : List A) (i : ℕ) (x : A) → Contains (take i xs) x → (j : ℕ) × (j < i) × (slice_get xs j ≡ Some x)
at_from_take [] zero x h = absurd (Contains-nil x h)
at_from_take [] (suc i) x h = absurd (Contains-nil x h)
at_from_take (y ∷ xs) zero x h = absurd (Contains-nil x h)
at_from_take (y ∷ xs) (suc i) x h = ⊎_elim
    (λ (e : y ≡ x). (zero, omega arith, ap Some e))
    (λ (k : Contains (take i xs) x). let rest = at_from_take xs i x k in (suc rest.0, omega (arith, rest.1), rest.2))
    (Contains-cons_cases y x (take i xs) h)

-- the reservation of a number
pub record IsReservationAt (d : Description) (number : ℕ) : Type 0 where
  pub item : ReservationItem
  pub there : slice_get d.reservations number ≡ Some item
  pub is : reserving d number ≡ reserving_reservation item

pub record IsClassAt (d : Description) (number : ℕ) : Type 0 where
  pub item : ClassItem
  pub there : Contains d.classes item
  pub is : reserving d number ≡ reserving_class item
  pub past : length d.reservations ≤ number

module _ (d : Description) where
  pub reservation_or_class : (number : ℕ) → number < length (all_of d) → IsReservationAt d number ⊎ IsClassAt d number
  reservation_or_class number within = ⊎_elim first second (cases_lt number (length d.reservations))
    where
      long : length (reservations_of d) ≡ length d.reservations
      long = length-map d.reservations reserving_reservation

      many : length (classes_of d) ≡ length d.classes
      many = length-map d.classes reserving_class

      all : length (all_of d) ≡ length (reservations_of d) + length (classes_of d)
      all = length-append (reservations_of d) (classes_of d)

      first : number < length d.reservations → IsReservationAt d number ⊎ IsClassAt d number
      first lt = there_is (slice_get d.reservations number) refl
        where
          there_is : (o : Option ReservationItem) → slice_get d.reservations number ≡ o → IsReservationAt d number ⊎ IsClassAt d number
          there_is None e = let found = Contains-from_map reserving_reservation d.reservations (get_or (reservations_of d) number nothing_reserved) (Contains-get_or (reservations_of d) number nothing_reserved (omega (arith, long, many, all))) in
              absurd (none-some (get_or d.reservations number found.0) (sym e ∙ slice_get-get_or d.reservations number found.0 lt))
          there_is (Some item) e = inl (record {
            item = item;
            there = e;
            is = get_or_append_left (reservations_of d) (classes_of d) nothing_reserved number (omega (arith, long, many, all))
                ∙ (get_or-map reserving_reservation d.reservations number item nothing_reserved lt ∙ ap reserving_reservation (get_or_from_slice_get d.reservations number item item e));
          })

      second : length d.reservations ≤ number → IsReservationAt d number ⊎ IsClassAt d number
      second ge =
          let at : number - length (reservations_of d) < length (classes_of d) = omega (arith, long, many, all) in
          let here : reserving d number ≡ get_or (classes_of d) (number - length (reservations_of d)) nothing_reserved = get_or-append_right (reservations_of d) (classes_of d) (length (reservations_of d)) number nothing_reserved refl (omega (arith, long, many, all)) in
          let found = Contains-from_map reserving_class d.classes (get_or (classes_of d) (number - length (reservations_of d)) nothing_reserved) (Contains-get_or (classes_of d) (number - length (reservations_of d)) nothing_reserved at) in
          inr (record { item = found.0; there = found.1; is = here ∙ sym found.2; past = ge })

module _ (d : Description) (reported : first_reported (faults_of_names d) ≡ None) (formed : IsCheckable d) (order : List ℕ) (ordered : IsOrder d order) where
  named : AreNamed d
  named = are_named d reported formed

  -- what all reservations and classes name is a unit or reservation
  pub reservable : (r : Reserving) → Contains (all_of d) r → (name : List ℕ) → Mentions r.expression name → IsTrue (is_reservable d name)
  reservable r there name m = ⊎_elim
      (λ (k : Contains (reservations_of d) r).
      let found = Contains-from_map reserving_reservation d.reservations r k in
      named.in_reservations found.0 found.1 name (named_there (found.0).expression name (subst (λ (q : Reserving). Mentions q.expression name) (sym found.2) m)))
      (λ (k : Contains (classes_of d) r).
      let found = Contains-from_map reserving_class d.classes r k in
      named.in_classes found.0 found.1 name (named_there (found.0).expression name (subst (λ (q : Reserving). Mentions q.expression name) (sym found.2) m)))
      (Contains-append_cases (reservations_of d) (classes_of d) r there)

  -- and each can be written
  pub written : (r : Reserving) → Contains (all_of d) r → IsTrue (is_expression r.expression)
  written r there = ⊎_elim
      (λ (k : Contains (reservations_of d) r).
      let found = Contains-from_map reserving_reservation d.reservations r k in
      subst (λ (q : Reserving). IsTrue (is_expression q.expression)) found.2 (All-contains (IsCheckableReservation formed.kinds) d.reservations found.0 formed.reservations found.1).expression)
      (λ (k : Contains (classes_of d) r).
      let found = Contains-from_map reserving_class d.classes r k in
      subst (λ (q : Reserving). IsTrue (is_expression q.expression)) found.2 (All-contains (IsCheckableClass formed.kinds) d.classes found.0 formed.classes found.1).expression)
      (Contains-append_cases (reservations_of d) (classes_of d) r there)

  -- a name is that of a unit, or of the reservation of a number
  pub unit_or_number : (name : List ℕ) → IsTrue (is_reservable d name) → Contains (unit_names d) name ⊎ ((k : ℕ) × (slice_get (reservation_names d) k ≡ Some name))
  unit_or_number name h = ⊎_elim
      (λ (u : is_unit d name ≡ true). inl (Contains-from_among name (unit_names d) u))
      (λ (r : is_among name (reservation_names d) ≡ true).
      let found = Contains-from_among name (reservation_names d) r in
      inr (found.0, slice_get-get_or (reservation_names d) found.0 name found.1 ∙ ap Some found.2))
      (or_cases (is_unit d name) (is_among name (reservation_names d)) h)

  pub number_is : (k : ℕ) (name : List ℕ) → slice_get (reservation_names d) k ≡ Some name → number_of d name ≡ Some k
  number_is k name is = place_apart (reservation_names d) named.apart k name is

  pub in_all : (number : ℕ) → number < length (all_of d) → Contains (all_of d) (reserving d number)
  in_all number lt = Contains-get_or (all_of d) number nothing_reserved lt

  -- what stands at a place names units and reservations before it
  pub names_before : (i number : ℕ) → At order i number → (name : List ℕ) → Mentions (reserving d number).expression name → IsAfter d (take i order) name
  names_before i number at name m =
      let there = in_all number (ordered.within number (Contains-from_At order i number at)) in
      ⊎_elim
      (λ (u : Contains (unit_names d) name). inl u)
      (λ (r : (k : ℕ) × (slice_get (reservation_names d) k ≡ Some name)).
      let among = Contains-filter_map (number_of d) (names_in (reserving d number).expression) name r.0 (named_there (reserving d number).expression name m) (number_is r.0 name r.1) in
      let before = ordered.ready i number r.0 at among in
      inr (r.0, at_take order i before.0 r.0 before.1 before.2, r.1))
      (unit_or_number name (reservable (reserving d number) there name m))

  -- all names have come in the end
  pub names_in_all : (r : Reserving) → Contains (all_of d) r → (name : List ℕ) → Mentions r.expression name → IsAfter d order name
  names_in_all r there name m = ⊎_elim
      (λ (u : Contains (unit_names d) name). inl u)
      (λ (q : (k : ℕ) × (slice_get (reservation_names d) k ≡ Some name)).
      let low = slice_get_within (reservation_names d) q.0 name q.1 in
      inr (q.0, ordered.complete q.0 (omega (arith, length-map d.reservations (λ (r : ReservationItem). r.name), length-map d.reservations reserving_reservation, length-append (reservations_of d) (classes_of d))), q.1))
      (unit_or_number name (reservable r there name m))

  -- the name of a reservation has not come before
  pub fresh_name : (i number : ℕ) (name : List ℕ) → At order i number → slice_get (reservation_names d) number ≡ Some name → IsAfter d (take i order) name → ⊥
  fresh_name i number name at is h = ⊎_elim
      (λ (u : Contains (unit_names d) name). no_unit_named d reported formed number name is u)
      (λ (q : (k : ℕ) × Contains (take i order) k × (slice_get (reservation_names d) k ≡ Some name)).
      let same : q.0 ≡ number = named.apart.same q.0 number name q.2 is in
      let before = at_from_take order i q.0 q.1 in
      let place : before.0 ≡ i = ordered.once.same before.0 i number (subst (λ (k : ℕ). At order before.0 k) same before.2) at in
      absurd (omega (arith, before.1)))
      h

  At_read : (i number : ℕ) → At order i number → take (i + 1) order ≡ take i order ++ number ∷ []
  At_read i number at = take_more order i number (At_within order i number at) ∙ ap (λ (n : ℕ). take i order ++ n ∷ []) (get_or_from_slice_get order i number number at)

  -- one place further
  pub after_more : (i number : ℕ) (name : List ℕ) → At order i number → slice_get (reservation_names d) number ≡ Some name → (other : List ℕ) → IsAfter d (take (i + 1) order) other → IsAfter d (take i order) other ⊎ (name ≡ other)
  after_more i number name at is other h = ⊎_elim
      (λ (u : Contains (unit_names d) other). inl (inl u))
      (λ (q : (k : ℕ) × Contains (take (i + 1) order) k × (slice_get (reservation_names d) k ≡ Some other)). ⊎_elim
      (λ (old : Contains (take i order) q.0). inl (inr (q.0, old, q.2)))
      (λ (e : number ≡ q.0). inr (same_Some name other (sym is ∙ (ap (slice_get (reservation_names d)) e ∙ q.2))))
      (Contains-push_cases (take i order) number q.0 (subst (λ (xs : List ℕ). Contains xs q.0) (At_read i number at) q.1)))
      h

  pub after_kept : (i number : ℕ) (other : List ℕ) → At order i number → IsAfter d (take i order) other → IsAfter d (take (i + 1) order) other
  after_kept i number other at h = ⊎_elim
      (λ (u : Contains (unit_names d) other). inl u)
      (λ (q : (k : ℕ) × Contains (take i order) k × (slice_get (reservation_names d) k ≡ Some other)).
      inr (q.0, subst (λ (xs : List ℕ). Contains xs q.0) (sym (At_read i number at)) (Contains-append_left (take i order) (number ∷ []) q.0 q.1), q.2))
      h

  pub after_here : (i number : ℕ) (name other : List ℕ) → At order i number → slice_get (reservation_names d) number ≡ Some name → name ≡ other → IsAfter d (take (i + 1) order) other
  after_here i number name other at is e = inr (number, subst (λ (xs : List ℕ). Contains xs number) (sym (At_read i number at)) (Contains-push (take i order) number), is ∙ ap Some e)

  -- a class makes no name known
  pub after_class : (i number : ℕ) (other : List ℕ) → At order i number → length d.reservations ≤ number → IsAfter d (take (i + 1) order) other → IsAfter d (take i order) other
  after_class i number other at past h = ⊎_elim
      (λ (u : Contains (unit_names d) other). inl u)
      (λ (q : (k : ℕ) × Contains (take (i + 1) order) k × (slice_get (reservation_names d) k ≡ Some other)). ⊎_elim
      (λ (old : Contains (take i order) q.0). inr (q.0, old, q.2))
      (λ (e : number ≡ q.0). absurd (none-some other (sym (slice_get_past (reservation_names d) q.0 (omega (arith, length-map d.reservations (λ (r : ReservationItem). r.name)))) ∙ q.2)))
      (Contains-push_cases (take i order) number q.0 (subst (λ (xs : List ℕ). Contains xs q.0) (At_read i number at) q.1)))
      h
