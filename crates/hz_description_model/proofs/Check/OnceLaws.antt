-- The counting order of a description has each reservation and each class exactly once.
use Rattle.std.proofs.Common.{◌≡◌, ◌≢◌, ℕ, ◌<◌, ◌⊎◌, inl, inr, ⊎_elim, Bool, true, false, List, [], ◌∷◌, ◌++◌, map, Contains, All, Option, Some, None, refl, sym, ap, ◌∙◌, subst, arith, get_or}
use Rattle.std.specs.Prelude.{IsTrue, IsFalse, not, ◌&&◌}
use Rattle.std.specs.List.{AllPairs}
use Rattle.std.specs.Option.{option_map}
use Rattle.std.specs.Str.{bytes_eq}
use Rattle.std.proofs.lemmas.Bool.{cases_Bool, cond_both, both_ways}
use Rattle.std.proofs.lemmas.List.Elements.{All-contains, Contains-append_left, Contains-append_right, Contains-append_cases, Contains-get_or}
use Rattle.std.proofs.lemmas.List.Kept.{AllPairs-cons}
use Rattle.std.proofs.lemmas.Option.{same_Some, none-some}
use Rattle.std.proofs.lemmas.Slice.Eq.{bytes_eq-Decides}
use Rattle.hz_base_model.proofs.Ascending.{AllPairs-head, AllPairs-tail, AllPairs-append}
use Rattle.hz_base_model.proofs.Elements.{Contains-nil, Contains-head, Contains-tail, Contains-cons_cases, Contains-map, Contains-from_map}
use Rattle.hz_description_model.specs.Reservations.Meanings.{reservation, Unwinds}
use Rattle.hz_description_model.specs.Reservations.NamesIn.{names_in}
use Rattle.hz_description_model.specs.Reading.Descriptions.{Description, ReservationItem, ClassItem}
use Rattle.hz_description_model.specs.Reading.DescriptionShape.{IsCheckable}
use Rattle.hz_description_model.specs.Check.CheckFaults.{IsUnfolded}
use Rattle.hz_description_model.specs.Check.CountingOrder.{Reserving, reserving_reservation, reserving_class, reservations_of, classes_of, Merged, named_by, has_come, reservation_names, Counted}
use Rattle.hz_description_model.specs.Check.Places.{Known, at_name, unit_or_reservation, reservation_named, meaning}
use Rattle.hz_description_model.specs.Check.Sites.{is_among}
use Rattle.hz_description_model.proofs.Check.CircleLaws.{mentioned_there}
use Rattle.hz_description_model.proofs.Check.CountingLaws.{at_name_named}
use Rattle.hz_description_model.proofs.Check.CheckTotal.{no_unit}
use Rattle.hz_description_model.proofs.Check.KeptLaws.{among, from_among, names_apart}
use Rattle.hz_description_model.proofs.Check.PlaceLaws.{from_filter_map, at_name_in}

-- a test does not both pass and fail
never : (b : Bool) → b ≡ true → b ≡ false → ⊥
never b passes fails = both_ways b fails passes

-- what holds of all that a list contains
each : {A : Type 0} (P : A → Type 0) (xs : List A) → ((x : A) → Contains xs x → P x) → All P xs
each P xs h i d within = h (get_or xs i d) (Contains-get_or xs i d within)

-- two that a list contains, where no two are alike
two_of : {A : Type 0} (R : A → A → Type 0) (xs : List A) → ((x y : A) → Contains xs x → Contains xs y → R x y) → AllPairs R xs
two_of R xs h i j d lt within = h (get_or xs i d) (get_or xs j d) (Contains-get_or xs i d (omega arith)) (Contains-get_or xs j d within)

-- an item that is alone of its name is the first of its name
first_named : {A : Type 0} (f : A → List ℕ) (items : List A) (x : A) → AllPairs (λ a b. a ≢ b) (map f items) → Contains items x → at_name (f x) (map f items) items ≡ Some x
first_named f [] x apart there = absurd (Contains-nil x there)
first_named f (y ∷ items) x apart there = ⊎_elim
    (λ (same : y ≡ x). cond_both (bytes_eq (f x) (f y)) (Some y) (at_name (f x) (map f items) items) (λ (o : Option _). o ≡ Some x)
    (λ _. ap Some same)
    (λ other. absurd (never (bytes_eq (f x) (f y)) ((bytes_eq-Decides (f x) (f y)).1 (ap f (sym same))) other)))
    (λ (k : Contains items x). cond_both (bytes_eq (f x) (f y)) (Some y) (at_name (f x) (map f items) items) (λ (o : Option _). o ≡ Some x)
    (λ equal. absurd (All-contains (λ b. f y ≢ b) (map f items) (f x) (AllPairs-head (λ a b. a ≢ b) (f y) (map f items) apart) (Contains-map f items x k) (sym ((bytes_eq-Decides (f x) (f y)).0 equal))))
    (λ _. first_named f items x (AllPairs-tail (λ a b. a ≢ b) (f y) (map f items) apart) k))
    (Contains-cons_cases y x items there)

-- the names of reservations are those of some, and each has its name among them
from_names : (xs : List Reserving) (name : List ℕ) → Contains (reservation_names xs) name → (x : Reserving) × Contains xs x × (x.is_class ≡ false) × (x.site.name ≡ name)
from_names [] name h = absurd (Contains-nil name h)
from_names (x ∷ xs) name h = cond_both x.is_class (reservation_names xs) (x.site.name ∷ reservation_names xs) (λ ns. Contains ns name → (y : Reserving) × Contains (x ∷ xs) y × (y.is_class ≡ false) × (y.site.name ≡ name))
    (λ _ h. let found = from_names xs name h in (found.0, Contains-tail x found.0 xs found.1, found.2, found.3))
    (λ e h. ⊎_elim
    (λ (same : x.site.name ≡ name). (x, Contains-head x xs, e, same))
    (λ (k : Contains (reservation_names xs) name). let found = from_names xs name k in (found.0, Contains-tail x found.0 xs found.1, found.2, found.3))
    (Contains-cons_cases x.site.name name (reservation_names xs) h))
    h

to_names : (xs : List Reserving) (x : Reserving) → Contains xs x → x.is_class ≡ false → Contains (reservation_names xs) x.site.name
to_names [] x there is = absurd (Contains-nil x there)
to_names (y ∷ xs) x there is = cond_both y.is_class (reservation_names xs) (y.site.name ∷ reservation_names xs) (λ ns. Contains ns x.site.name)
    (λ class. ⊎_elim
    (λ (same : y ≡ x). absurd (never y.is_class class (ap (λ (r : Reserving). r.is_class) same ∙ is)))
    (λ (k : Contains xs x). to_names xs x k is)
    (Contains-cons_cases y x xs there))
    (λ _. ⊎_elim
    (λ (same : y ≡ x). subst (λ (n : List ℕ). Contains (n ∷ reservation_names xs) x.site.name) (ap (λ (r : Reserving). r.site.name) (sym same)) (Contains-head x.site.name (reservation_names xs)))
    (λ (k : Contains xs x). Contains-tail y.site.name x.site.name (reservation_names xs) (to_names xs x k is))
    (Contains-cons_cases y x xs there))

-- a reservation that has come has its name among those before, and one that has not has not
came_before : (before : List (List ℕ)) (r : Reserving) → IsTrue (has_come before r) → (r.is_class ≡ false) × Contains before r.site.name
came_before before r h = by_class r.is_class refl (is_among r.site.name before) refl h
  where
    by_class : (b : Bool) → r.is_class ≡ b → (c : Bool) → is_among r.site.name before ≡ c → (not b && c) ≡ true → (r.is_class ≡ false) × Contains before r.site.name
    by_class true e c is h = absurd (cc)
    by_class false e true is h = (e, from_among r.site.name before is)
    by_class false e false is h = absurd (cc)

not_before : (before : List (List ℕ)) (r : Reserving) → IsFalse (has_come before r) → r.is_class ≡ false → Contains before r.site.name → ⊥
not_before before r h is there =
    let come : (not r.is_class && is_among r.site.name before) ≡ true = ap (λ (b : Bool). not b && is_among r.site.name before) is ∙ among r.site.name before there in
    never (has_come before r) come h

module _ (d : Description) where
  -- what holds of items and goes from each to those that it names holds of all that are counted
  along : (P : Reserving → Type 0) → ((r q : Reserving) → P r → Contains (named_by d r) q → P q)
      → (before : List (List ℕ)) (items order : List Reserving) → Counted d before items order → ((r : Reserving) → Contains items r → P r) → (r : Reserving) → Contains order r → P r
  along P closed _ _ _ Counted.ends h x there = absurd (Contains-nil x there)
  along P closed _ _ _ (Counted.came {before = before} {r = r} {items = items} {order = order} t c) h x there = along P closed before items order c (λ s k. h s (Contains-tail r s items k)) x there
  along P closed _ _ _ (Counted.comes {before = before} {r = r} {items = items} {inner = inner} {order = order} f c c') h x there = ⊎_elim
      (λ (k : Contains inner x). along P closed before (named_by d r) inner c (λ q named. closed r q (h r (Contains-head r items)) named) x k)
      (λ (k : Contains (r ∷ order) x). ⊎_elim
      (λ (same : r ≡ x). subst P same (h r (Contains-head r items)))
      (λ (l : Contains order x). along P closed (before ++ reservation_names (inner ++ r ∷ [])) items order c' (λ s k. h s (Contains-tail r s items k)) x l)
      (Contains-cons_cases r x order k))
      (Contains-append_cases inner (r ∷ order) x there)

  -- a reservation of the description, and one of its reservations or classes
  abbrev IsReservation : Reserving → Type 0
  IsReservation q = (r : ReservationItem) × Contains d.reservations r × (reserving_reservation r ≡ q)

  abbrev IsItem : Reserving → Type 0
  IsItem q = IsReservation q ⊎ ((c : ClassItem) × Contains d.classes c × (reserving_class c ≡ q))

  no_class : (q : Reserving) → IsReservation q → q.is_class ≡ false
  no_class q is = ap (λ (r : Reserving). r.is_class) (sym is.2)

  of_item : (q : Reserving) → IsItem q → q.is_class ≡ false → IsReservation q
  of_item q (inl is) e = is
  of_item q (inr c) e = let class = ap (λ (r : Reserving). r.is_class) c.2 in absurd (cc)

  -- what is named is a reservation, found by a name in the expression
  named_of : (r q : Reserving) → Contains (named_by d r) q → IsReservation q × Contains (names_in r.expression) q.site.name
  named_of r q there =
      let found = from_filter_map (λ name. option_map reserving_reservation (reservation_named d name)) (names_in r.expression) q there in
      by_name found.0 (reservation_named d found.0) refl found.1 found.2
    where
      by_name : (name : List ℕ) (o : Option ReservationItem) → reservation_named d name ≡ o → Contains (names_in r.expression) name → option_map reserving_reservation o ≡ Some q → IsReservation q × Contains (names_in r.expression) q.site.name
      by_name name None is stands e = absurd (none-some q e)
      by_name name (Some item) is stands e =
          let same = same_Some (reserving_reservation item) q e in
          let name_is = at_name_named (λ (r : ReservationItem). r.name) name d.reservations item is in (
            (item, at_name_in name (map (λ r. r.name) d.reservations) d.reservations item is, same),
            subst (λ (n : List ℕ). Contains (names_in r.expression) n) (sym name_is ∙ ap (λ (s : Reserving). s.site.name) same) stands,
          )

  -- what has come again is none of these
  fresh : (before : List (List ℕ)) (items order : List Reserving) → Counted d before items order → (x : Reserving) → Contains order x → x.is_class ≡ false → Contains before x.site.name → ⊥
  fresh _ _ _ Counted.ends x there is name = Contains-nil x there
  fresh _ _ _ (Counted.came {before = before} {items = items} {order = order} t c) x there is name = fresh before items order c x there is name
  fresh _ _ _ (Counted.comes {before = before} {r = r} {items = items} {inner = inner} {order = order} f c c') x there is name = ⊎_elim
      (λ (k : Contains inner x). fresh before (named_by d r) inner c x k is name)
      (λ (k : Contains (r ∷ order) x). ⊎_elim
      (λ (same : r ≡ x). not_before before r f (ap (λ (s : Reserving). s.is_class) same ∙ is) (subst (λ (s : Reserving). Contains before s.site.name) (sym same) name))
      (λ (l : Contains order x). fresh (before ++ reservation_names (inner ++ r ∷ [])) items order c' x l is (Contains-append_left before (reservation_names (inner ++ r ∷ [])) x.site.name name))
      (Contains-cons_cases r x order k))
      (Contains-append_cases inner (r ∷ order) x there)

  -- a class that is counted is one of the items
  class_of_items : (before : List (List ℕ)) (items order : List Reserving) → Counted d before items order → (x : Reserving) → Contains order x → x.is_class ≡ true → Contains items x
  class_of_items _ _ _ Counted.ends x there is = absurd (Contains-nil x there)
  class_of_items _ _ _ (Counted.came {before = before} {r = r} {items = items} {order = order} t c) x there is = Contains-tail r x items (class_of_items before items order c x there is)
  class_of_items _ _ _ (Counted.comes {before = before} {r = r} {items = items} {inner = inner} {order = order} f c c') x there is = ⊎_elim
      (λ (k : Contains inner x). absurd (never x.is_class is (no_class x (along IsReservation (λ r q h named. (named_of r q named).0) before (named_by d r) inner c (λ q named. (named_of r q named).0) x k))))
      (λ (k : Contains (r ∷ order) x). ⊎_elim
      (λ (same : r ≡ x). subst (λ (s : Reserving). Contains (s ∷ items) x) (sym same) (Contains-head x items))
      (λ (l : Contains order x). Contains-tail r x items (class_of_items (before ++ reservation_names (inner ++ r ∷ [])) items order c' x l is))
      (Contains-cons_cases r x order k))
      (Contains-append_cases inner (r ∷ order) x there)

  -- two classes among items differ
  abbrev AreApart : Reserving → Reserving → Type 0
  AreApart a b = a.is_class ≡ true → b.is_class ≡ true → a ≢ b

  module _ (unwinds : Unwinds (meaning d)) (means : (r : ReservationItem) → Contains d.reservations r → meaning d r.name ≡ Some (reservation r.expression)) where
    -- what a reservation names has a lower rank
    lower : (r q : Reserving) → IsReservation r → Contains (named_by d r) q → unwinds.rank q.site.name < unwinds.rank r.site.name
    lower r q is named =
        let found = named_of r q named in
        let stands = subst (λ (s : Reserving). Contains (names_in s.expression) q.site.name) (sym is.2) found.1 in
        subst (λ (s : Reserving). unwinds.rank q.site.name < unwinds.rank s.site.name) is.2
        (unwinds.falls ((is.0).name) q.site.name ((is.0).expression) (means is.0 is.1) (mentioned_there ((is.0).expression) q.site.name stands))

    -- what stands before a reservation because of it has a lower rank
    inner_lower : (before : List (List ℕ)) (r : Reserving) (inner : List Reserving) → IsReservation r → Counted d before (named_by d r) inner → (x : Reserving) → Contains inner x → unwinds.rank x.site.name < unwinds.rank r.site.name
    inner_lower before r inner is c x there =
        (along (λ q. IsReservation q × (unwinds.rank q.site.name < unwinds.rank r.site.name))
        (λ s q h named. let falls = lower s q h.0 named in let low = h.1 in ((named_of s q named).0, omega arith))
        before (named_by d r) inner c (λ q named. ((named_of r q named).0, lower r q is named)) x there).1

    once : (before : List (List ℕ)) (items order : List Reserving) → Counted d before items order → ((r : Reserving) → Contains items r → IsItem r) → AllPairs AreApart items → AllPairs (λ a b. a ≢ b) order
    once _ _ _ Counted.ends items apart = λ i j x lt within. absurd (omega arith)
    once _ _ _ (Counted.came {before = before} {r = r} {items = items} {order = order} t c) those apart = once before items order c (λ s k. those s (Contains-tail r s items k)) (AllPairs-tail AreApart r items apart)
    once _ _ _ (Counted.comes {before = before} {r = r} {items = items} {inner = inner} {order = order} f c c') those apart =
        AllPairs-append (λ a b. a ≢ b) inner (r ∷ order)
        (once before (named_by d r) inner c (λ q named. inl (named_of r q named).0) (two_of AreApart (named_by d r) (λ x y k l class other. absurd (never x.is_class class (no_class x (named_of r x k).0)))))
        (AllPairs-cons (λ a b. a ≢ b) r order (each (λ b. r ≢ b) order (λ x k same. no_more x k same)) (once after items order c' (λ s k. those s (Contains-tail r s items k)) (AllPairs-tail AreApart r items apart)))
        (λ x y k l same. ⊎_elim
        (λ (e : r ≡ y). not_itself x k (same ∙ sym e))
        (λ (m : Contains order y). fresh after items order c' y m (ap (λ (s : Reserving). s.is_class) (sym same) ∙ no_class x (reserved x k))
        (subst (λ (s : Reserving). Contains after s.site.name) same (Contains-append_right before (reservation_names (inner ++ r ∷ [])) x.site.name (to_names (inner ++ r ∷ []) x (Contains-append_left inner (r ∷ []) x k) (no_class x (reserved x k))))))
        (Contains-cons_cases r y order l))
      where
        after : List (List ℕ)
        after = before ++ reservation_names (inner ++ r ∷ [])

        reserved : (x : Reserving) → Contains inner x → IsReservation x
        reserved = along IsReservation (λ s q h named. (named_of s q named).0) before (named_by d r) inner c (λ q named. (named_of r q named).0)

        not_itself : (x : Reserving) → Contains inner x → x ≡ r → ⊥
        not_itself x k same =
            let is = reserved x k in
            let low = inner_lower before r inner (subst IsReservation same is) c x k in
            let equal : unwinds.rank x.site.name ≡ unwinds.rank r.site.name = ap (λ (s : Reserving). unwinds.rank s.site.name) same in
            omega arith

        no_more : (x : Reserving) → Contains order x → r ≡ x → ⊥
        no_more x k same = ⊎_elim
            (λ (class : r.is_class ≡ true).
            let there = class_of_items after items order c' x k (ap (λ (s : Reserving). s.is_class) (sym same) ∙ class) in
            All-contains (AreApart r) items x (AllPairs-head AreApart r items apart) there class (ap (λ (s : Reserving). s.is_class) (sym same) ∙ class) same)
            (λ (is : r.is_class ≡ false).
            fresh after items order c' x k (ap (λ (s : Reserving). s.is_class) (sym same) ∙ is)
            (subst (λ (s : Reserving). Contains after s.site.name) same (Contains-append_right before (reservation_names (inner ++ r ∷ [])) r.site.name (to_names (inner ++ r ∷ []) r (Contains-append_right inner (r ∷ []) r (Contains-head r [])) is))))
            (cases_Bool r.is_class)

  module _ (alone : (r : ReservationItem) → Contains d.reservations r → reservation_named d r.name ≡ Some r) where
    -- reservations of one name are one
    same_named : (x y : Reserving) → IsReservation x → IsReservation y → x.site.name ≡ y.site.name → x ≡ y
    same_named x y a b e =
        let names : (a.0).name ≡ (b.0).name = ap (λ (s : Reserving). s.site.name) a.2 ∙ (e ∙ ap (λ (s : Reserving). s.site.name) (sym b.2)) in
        let same : a.0 ≡ b.0 = same_Some a.0 b.0 (sym (alone a.0 a.1) ∙ (ap (reservation_named d) names ∙ alone b.0 b.1)) in
        sym a.2 ∙ (ap reserving_reservation same ∙ b.2)

    complete : (before : List (List ℕ)) (items order : List Reserving) → Counted d before items order → ((r : Reserving) → Contains items r → IsItem r) → (x : Reserving) → Contains items x → Contains order x ⊎ ((x.is_class ≡ false) × Contains before x.site.name)
    complete _ _ _ Counted.ends those x there = absurd (Contains-nil x there)
    complete _ _ _ (Counted.came {before = before} {r = r} {items = items} {order = order} t c) those x there = ⊎_elim
        (λ (same : r ≡ x). inr (subst (λ (s : Reserving). (s.is_class ≡ false) × Contains before s.site.name) same (came_before before r t)))
        (λ (k : Contains items x). complete before items order c (λ s l. those s (Contains-tail r s items l)) x k)
        (Contains-cons_cases r x items there)
    complete _ _ _ (Counted.comes {before = before} {r = r} {items = items} {inner = inner} {order = order} f c c') those x there = ⊎_elim
        (λ (same : r ≡ x). inl (Contains-append_right inner (r ∷ order) x (subst (λ (s : Reserving). Contains (r ∷ order) s) same (Contains-head r order))))
        (λ (k : Contains items x). ⊎_elim
        (λ (l : Contains order x). inl (Contains-append_right inner (r ∷ order) x (Contains-tail r x order l)))
        (λ (l : (x.is_class ≡ false) × Contains (before ++ reservation_names (inner ++ r ∷ [])) x.site.name). ⊎_elim
        (λ (m : Contains before x.site.name). inr (l.0, m))
        (λ (m : Contains (reservation_names (inner ++ r ∷ [])) x.site.name).
        let found = from_names (inner ++ r ∷ []) x.site.name m in
        let y = found.0 in
        let stands = moved y found.1 in
        let same = same_named y x (of_item y (counted y stands) found.2) (of_item x (those x there) l.0) found.3 in
        inl (subst (λ (s : Reserving). Contains (inner ++ r ∷ order) s) same stands))
        (Contains-append_cases before (reservation_names (inner ++ r ∷ [])) x.site.name l.1))
        (complete (before ++ reservation_names (inner ++ r ∷ [])) items order c' (λ s m. those s (Contains-tail r s items m)) x k))
        (Contains-cons_cases r x items there)
      where
        moved : (y : Reserving) → Contains (inner ++ r ∷ []) y → Contains (inner ++ r ∷ order) y
        moved y h = ⊎_elim
            (λ (k : Contains inner y). Contains-append_left inner (r ∷ order) y k)
            (λ (k : Contains (r ∷ []) y). ⊎_elim
            (λ (same : r ≡ y). Contains-append_right inner (r ∷ order) y (subst (λ (s : Reserving). Contains (r ∷ order) s) same (Contains-head r order)))
            (λ (l : Contains [] y). absurd (Contains-nil y l))
            (Contains-cons_cases r y [] k))
            (Contains-append_cases inner (r ∷ []) y h)

        counted : (y : Reserving) → Contains (inner ++ r ∷ order) y → IsItem y
        counted = along IsItem (λ s q h named. inl (named_of s q named).0) before (r ∷ items) (inner ++ r ∷ order) (Counted.comes f c c') those

  -- Two lists as one in the order of the file.
  merged_from : (first second merged : List Reserving) → Merged first second merged → (x : Reserving) → Contains merged x → Contains first x ⊎ Contains second x
  merged_from _ _ _ Merged.no_first x there = inr there
  merged_from _ _ _ Merged.no_second x there = inl there
  merged_from _ _ _ (Merged.from_first {r = r} {s = s} {first = first} {second = second} {merged = merged} low m) x there = ⊎_elim
      (λ (same : r ≡ x). inl (subst (λ (q : Reserving). Contains (r ∷ first) q) same (Contains-head r first)))
      (λ (k : Contains merged x). ⊎_elim (λ (l : Contains first x). inl (Contains-tail r x first l)) (λ (l : Contains (s ∷ second) x). inr l) (merged_from first (s ∷ second) merged m x k))
      (Contains-cons_cases r x merged there)
  merged_from _ _ _ (Merged.from_second {r = r} {s = s} {first = first} {second = second} {merged = merged} high m) x there = ⊎_elim
      (λ (same : s ≡ x). inr (subst (λ (q : Reserving). Contains (s ∷ second) q) same (Contains-head s second)))
      (λ (k : Contains merged x). ⊎_elim (λ (l : Contains (r ∷ first) x). inl l) (λ (l : Contains second x). inr (Contains-tail s x second l)) (merged_from (r ∷ first) second merged m x k))
      (Contains-cons_cases s x merged there)

  merged_to : (first second merged : List Reserving) → Merged first second merged → (x : Reserving) → Contains first x ⊎ Contains second x → Contains merged x
  merged_to _ _ _ (Merged.no_first {second = second}) x (inl h) = absurd (Contains-nil x h)
  merged_to _ _ _ (Merged.no_first {second = second}) x (inr h) = h
  merged_to _ _ _ (Merged.no_second {first = first}) x (inl h) = h
  merged_to _ _ _ (Merged.no_second {first = first}) x (inr h) = absurd (Contains-nil x h)
  merged_to _ _ _ (Merged.from_first {r = r} {s = s} {first = first} {second = second} {merged = merged} low m) x (inl h) = ⊎_elim
      (λ (same : r ≡ x). subst (λ (q : Reserving). Contains (r ∷ merged) q) same (Contains-head r merged))
      (λ (k : Contains first x). Contains-tail r x merged (merged_to first (s ∷ second) merged m x (inl k)))
      (Contains-cons_cases r x first h)
  merged_to _ _ _ (Merged.from_first {r = r} {s = s} {first = first} {second = second} {merged = merged} low m) x (inr h) = Contains-tail r x merged (merged_to first (s ∷ second) merged m x (inr h))
  merged_to _ _ _ (Merged.from_second {r = r} {s = s} {first = first} {second = second} {merged = merged} high m) x (inl h) = Contains-tail s x merged (merged_to (r ∷ first) second merged m x (inl h))
  merged_to _ _ _ (Merged.from_second {r = r} {s = s} {first = first} {second = second} {merged = merged} high m) x (inr h) = ⊎_elim
      (λ (same : s ≡ x). subst (λ (q : Reserving). Contains (s ∷ merged) q) same (Contains-head s merged))
      (λ (k : Contains second x). Contains-tail s x merged (merged_to (r ∷ first) second merged m x (inr k)))
      (Contains-cons_cases s x second h)

  -- where the first list has no class, and no two of the second are alike, classes are apart in both together
  merged_apart : (first second merged : List Reserving) → Merged first second merged → ((x : Reserving) → Contains first x → x.is_class ≡ false) → AllPairs (λ a b. a ≢ b) second → AllPairs AreApart merged
  merged_apart _ _ _ (Merged.no_first {second = second}) none apart = λ i j x lt within class other. apart i j x lt within
  merged_apart _ _ _ (Merged.no_second {first = first}) none apart = two_of AreApart first (λ x y k l class other. absurd (never x.is_class class (none x k)))
  merged_apart _ _ _ (Merged.from_first {r = r} {s = s} {first = first} {second = second} {merged = merged} low m) none apart =
      AllPairs-cons AreApart r merged (each (AreApart r) merged (λ x k class other. absurd (never r.is_class class (none r (Contains-head r first)))))
      (merged_apart first (s ∷ second) merged m (λ x k. none x (Contains-tail r x first k)) apart)
  merged_apart _ _ _ (Merged.from_second {r = r} {s = s} {first = first} {second = second} {merged = merged} high m) none apart =
      AllPairs-cons AreApart s merged (each (AreApart s) merged (λ x k class other. ⊎_elim
      (λ (l : Contains (r ∷ first) x). absurd (never x.is_class other (none x l)))
      (λ (l : Contains second x). All-contains (λ b. s ≢ b) second x (AllPairs-head (λ a b. a ≢ b) s second apart) l)
      (merged_from (r ∷ first) second merged m x k)))
      (merged_apart (r ∷ first) second merged m none (AllPairs-tail (λ a b. a ≢ b) s second apart))

  module _ (known : Known) (order : List Reserving) (formed : IsCheckable d) (u : IsUnfolded d known order) where
    alone : (r : ReservationItem) → Contains d.reservations r → reservation_named d r.name ≡ Some r
    alone r there = first_named (λ (r : ReservationItem). r.name) d.reservations r (names_apart d u.defined).0 there

    means : (r : ReservationItem) → Contains d.reservations r → meaning d r.name ≡ Some (reservation r.expression)
    means r there = ap (λ o. unit_or_reservation o (reservation_named d r.name)) (no_unit d formed u.defined r.name r (alone r there)) ∙ ap (unit_or_reservation None) (alone r there)

    reservations_are : (x : Reserving) → Contains (reservations_of d) x → IsReservation x
    reservations_are x there = let found = Contains-from_map reserving_reservation d.reservations x there in found

    items_are : (x : Reserving) → Contains (reservations_of d) x ⊎ Contains (classes_of d) x → IsItem x
    items_are x (inl h) = inl (reservations_are x h)
    items_are x (inr h) = inr (Contains-from_map reserving_class d.classes x h)

    classes_apart : AllPairs (λ a b. a ≢ b) (classes_of d)
    classes_apart = unlike (λ (s : Reserving). s.site.name) (classes_of d) (names_apart d u.defined).1
      where
        unlike : {A : Type 0} (f : A → List ℕ) (xs : List A) → AllPairs (λ a b. a ≢ b) (map f xs) → AllPairs (λ a b. a ≢ b) xs
        unlike f [] h = λ i j x lt within. absurd (omega arith)
        unlike f (x ∷ xs) h = AllPairs-cons (λ a b. a ≢ b) x xs
            (each (λ b. x ≢ b) xs (λ y k same. All-contains (λ b. f x ≢ b) (map f xs) (f y) (AllPairs-head (λ a b. a ≢ b) (f x) (map f xs) h) (Contains-map f xs y k) (ap f same)))
            (unlike f xs (AllPairs-tail (λ a b. a ≢ b) (f x) (map f xs) h))

    file_items : (x : Reserving) → Contains (u.counts).file x → IsItem x
    file_items x there = items_are x (merged_from (reservations_of d) (classes_of d) (u.counts).file (u.counts).merged x there)

    pub each_once : AllPairs (λ a b. a ≢ b) order
    each_once = once (u.right).unwinds means [] (u.counts).file order (u.counts).counted file_items
        (merged_apart (reservations_of d) (classes_of d) (u.counts).file (u.counts).merged (λ x k. no_class x (reservations_are x k)) classes_apart)

    pub all_counted : (x : Reserving) → Contains order x → Contains (reservations_of d) x ⊎ Contains (classes_of d) x
    all_counted x there = along (λ q. Contains (reservations_of d) q ⊎ Contains (classes_of d) q) (λ r q h named. inl (reserving q (named_of r q named).0)) [] (u.counts).file order (u.counts).counted
        (λ q k. merged_from (reservations_of d) (classes_of d) (u.counts).file (u.counts).merged q k) x there
      where
        reserving : (q : Reserving) → IsReservation q → Contains (reservations_of d) q
        reserving q is = subst (λ (s : Reserving). Contains (reservations_of d) s) is.2 (Contains-map reserving_reservation d.reservations is.0 is.1)

    pub all_count : (x : Reserving) → Contains (reservations_of d) x ⊎ Contains (classes_of d) x → Contains order x
    all_count x h = ⊎_elim
        (λ (k : Contains order x). k)
        (λ (k : (x.is_class ≡ false) × Contains [] x.site.name). absurd (Contains-nil x.site.name k.1))
        (complete alone [] (u.counts).file order (u.counts).counted file_items x (merged_to (reservations_of d) (classes_of d) (u.counts).file (u.counts).merged x h))
