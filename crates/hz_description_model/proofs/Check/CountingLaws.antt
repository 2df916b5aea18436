-- Where the reservations of a description unwind, they and its classes have a counting order.
use Rattle.std.proofs.Common.{◌≡◌, ℕ, zero, suc, ◌<◌, ⊎_elim, List, [], ◌∷◌, ◌++◌, map, Contains, Option, Some, None, refl, sym, ap, ◌∙◌, subst, arith}
use Rattle.std.specs.Prelude.{nat_lt}
use Rattle.std.specs.Option.{option_map}
use Rattle.std.specs.Str.{bytes_eq}
use Rattle.std.proofs.lemmas.Bool.{cases_Bool, cond_both}
use Rattle.std.proofs.lemmas.Option.{same_Some, none-some}
use Rattle.std.proofs.lemmas.Slice.Eq.{bytes_eq-Decides}
use Rattle.hz_description_model.specs.Check.CountingOrder.{Reserving, reserving_reservation, reservations_of, classes_of, Merged, named_by, has_come, reservation_names, Counted, IsCountingOrder}
use Rattle.hz_description_model.specs.Reservations.NamesIn.{names_in}
use Rattle.hz_description_model.specs.Reading.Descriptions.{Description, ReservationItem}
use Rattle.hz_description_model.specs.Check.Places.{at_name, unit_place, reservation_named, unit_or_reservation, meaning}
use Rattle.hz_description_model.specs.Reservations.Meanings.{reservation, Unwinds}
use Rattle.hz_description_model.proofs.Check.CircleLaws.{mentioned_there}
use Rattle.hz_base_model.proofs.Elements.{Contains-head, Contains-tail}
use Rattle.hz_description_model.proofs.Check.PlaceLaws.{from_filter_map}

-- two lists can be merged
merge_along : (r : Reserving) (first : List Reserving) → ((second : List Reserving) → (merged : List Reserving) × Merged first second merged)
    → (second : List Reserving) → (merged : List Reserving) × Merged (r ∷ first) second merged
merge_along r first some [] = (r ∷ first, Merged.no_second)
merge_along r first some (s ∷ second) = ⊎_elim
    (λ low. let rest = some (s ∷ second) in (r ∷ rest.0, Merged.from_first low rest.1))
    (λ high. let rest = merge_along r first some second in (s ∷ rest.0, Merged.from_second high rest.1))
    (cases_Bool (nat_lt r.site.form s.site.form))

some_merge : (first second : List Reserving) → (merged : List Reserving) × Merged first second merged
some_merge [] second = (second, Merged.no_first)
some_merge (r ∷ first) second = merge_along r first (some_merge first) second

-- what is found by a name has the name
pub at_name_named : {A : Type 0} (f : A → List ℕ) (name : List ℕ) (items : List A) (item : A) → at_name name (map f items) items ≡ Some item → f item ≡ name
at_name_named f name [] item e = absurd (none-some item e)
at_name_named f name (x ∷ items) item e = cond_both (bytes_eq name (f x)) (Some x) (at_name name (map f items) items) (λ (o : Option _). o ≡ Some item → f item ≡ name)
    (λ same (s : Some x ≡ Some item). sym ((bytes_eq-Decides name (f x)).0 same ∙ ap f (same_Some x item s)))
    (λ _ s. at_name_named f name items item s) e

module _ (d : Description) where
  abbrev HasOrder : List (List ℕ) → List Reserving → Type 0
  HasOrder before items = (order : List Reserving) × Counted d before items order

  -- items have an order where what they name has one
  counts_along : (P : Reserving → Type 0) → ((before : List (List ℕ)) (items : List Reserving) → ((q : Reserving) → Contains items q → P q) → HasOrder before items)
      → (before : List (List ℕ)) (items : List Reserving) → ((r : Reserving) → Contains items r → (q : Reserving) → Contains (named_by d r) q → P q) → HasOrder before items
  counts_along P inner before [] h = ([], Counted.ends)
  counts_along P inner before (r ∷ items) h =
      let others = λ (s : Reserving) (there : Contains items s). h s (Contains-tail r s items there) in
      ⊎_elim
      (λ came. let rest = counts_along P inner before items others in (rest.0, Counted.came came rest.1))
      (λ fresh.
      let named = inner before (named_by d r) (h r (Contains-head r items)) in
      let rest = counts_along P inner (before ++ reservation_names (named.0 ++ r ∷ [])) items others in
      (named.0 ++ r ∷ rest.0, Counted.comes fresh named.1 rest.1))
      (cases_Bool (has_come before r))

  module _ (unwinds : Unwinds (meaning d)) (apart : (name : List ℕ) (r : ReservationItem) → reservation_named d name ≡ Some r → unit_place d name ≡ None) where
    -- a reservation that a name stands for, of low rank
    record IsNamed (n : ℕ) (q : Reserving) : Type 0 where
      item : ReservationItem
      is : reserving_reservation item ≡ q
      means : meaning d item.name ≡ Some (reservation item.expression)
      low : unwinds.rank item.name < n

    by_name : (n : ℕ) (q : Reserving) (name : List ℕ) → unwinds.rank name < n → (o : Option ReservationItem) → reservation_named d name ≡ o → option_map reserving_reservation o ≡ Some q → IsNamed n q
    by_name n q name low None is e = absurd (none-some q e)
    by_name n q name low (Some item) is e =
        let same = at_name_named (λ (r : ReservationItem). r.name) name d.reservations item is in
        let means : meaning d name ≡ Some (reservation item.expression) = ap (λ u. unit_or_reservation u (reservation_named d name)) (apart name item is) ∙ ap (unit_or_reservation None) is in
        record {
          item = item;
          is = same_Some (reserving_reservation item) q e;
          means = subst (λ (name : List ℕ). meaning d name ≡ Some (reservation item.expression)) (sym same) means;
          low = subst (λ (name : List ℕ). unwinds.rank name < n) (sym same) low;
        }

    -- what is named comes from a name in the expression
    from_name : (n : ℕ) (r q : Reserving) → ((name : List ℕ) → Contains (names_in r.expression) name → unwinds.rank name < n) → Contains (named_by d r) q → IsNamed n q
    from_name n r q low there =
        let found = from_filter_map (λ name. option_map reserving_reservation (reservation_named d name)) (names_in r.expression) q there in
        by_name n q found.0 (low found.0 found.1) (reservation_named d found.0) refl found.2

    below : (n : ℕ) (r q : Reserving) → IsNamed (suc n) r → Contains (named_by d r) q → IsNamed n q
    below n r q named = from_name n r q (λ name there.
        let mentioned = mentioned_there (named.item).expression name (subst (λ (s : Reserving). Contains (names_in s.expression) name) (sym named.is) there) in
        let falls = unwinds.falls (named.item).name name (named.item).expression named.means mentioned in
        let low = named.low in omega arith)

    of_rank : (n : ℕ) (before : List (List ℕ)) (items : List Reserving) → ((q : Reserving) → Contains items q → IsNamed n q) → HasOrder before items
    of_rank zero before [] h = ([], Counted.ends)
    of_rank zero before (q ∷ items) h = let low = (h q (Contains-head q items)).low in absurd (omega arith)
    of_rank (suc n) before items h = counts_along (IsNamed n) (of_rank n) before items (λ r there q named. below n r q (h r there) named)

    pub some_order : (n : ℕ) → ((name : List ℕ) → unwinds.rank name < n) → (order : List Reserving) × IsCountingOrder d order
    some_order n low =
        let file = some_merge (reservations_of d) (classes_of d) in
        let counted = counts_along (IsNamed n) (of_rank n) [] file.0 (λ r there q named. from_name n r q (λ name _. low name) named) in
        (counted.0, record { file = file.0; merged = file.1; counted = counted.1 })
