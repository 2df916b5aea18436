-- Reservations and classes in the order of the file, one after the other.
use Rattle.std.proofs.Common.{◌≡◌, ℕ, zero, suc, ◌+◌, ◌<◌, ◌≤◌, ◌⊎◌, ⊎_elim, true, false, List, [], ◌∷◌, length, drop, map, Option, Some, None, refl, sym, ap, ◌∙◌, subst, arith, slice_get}
use Rattle.std.proofs.lemmas.Bool.{cases_lt}
use Rattle.std.proofs.lemmas.List.{drop_all, drop_more, get_or-map, length-map}
use Rattle.std.proofs.lemmas.Option.{slice_get_within, get_or_from_slice_get}
use Rattle.hz_mdread.specs.declared.items.ClassItem.{ClassItem}
use Rattle.hz_mdread.specs.declared.items.ReservationItem.{ReservationItem}
use Rattle.hz_mdread.specs.Shape.{class_item, reservation_item}
use Rattle.hz_description_model.specs.Check.CountingOrder.{reserving_reservation, reserving_class}
use Rattle.hz_check_reservations.specs.Orders.{Numbered, done, last_first, last_second, from_first, from_second, comes_first, reservings_of, class_reservings_of}

-- a list has an item at each place within
some_at : {A : Type 0} (xs : List A) (i : ℕ) → i < length xs → slice_get xs i ≡ None → ⊥
some_at [] i lt h = absurd (omega arith)
some_at (x ∷ xs) zero lt h = absurd (cc)
some_at (x ∷ xs) (suc i) lt h = some_at xs i (omega arith) h

module _ {A B : Type 0} (f : A → B) where
  drop_some : (xs : List A) (i : ℕ) (x : A) → slice_get xs i ≡ Some x → drop i (map f xs) ≡ f x ∷ drop (i + 1) (map f xs)
  drop_some xs i x h =
      let lt = slice_get_within xs i x h in
      drop_more (map f xs) i (f x) (omega (arith, length-map xs f)) ∙ ap (λ (y : B). y ∷ drop (i + 1) (map f xs)) (get_or-map f xs i x (f x) lt ∙ ap f (get_or_from_slice_get xs i x x h))

  drop_none : (xs : List A) (i : ℕ) → slice_get xs i ≡ None → drop i (map f xs) ≡ []
  drop_none xs i h = ⊎_elim
      (λ (lt : i < length xs). absurd (some_at xs i lt h))
      (λ (le : length xs ≤ i). drop_all i (map f xs) (omega (arith, length-map xs f)))
      (cases_lt i (length xs))

-- what is left in the order of the file
abbrev pub Rest : List ReservationItem → List ClassItem → (i j : ℕ) → List ℕ → Type 0
Rest reservations classes i j rest = Numbered (drop i (reservings_of reservations)) (drop j (class_reservings_of classes)) i (length reservations + j) rest

module _ (reservations : List ReservationItem) (classes : List ClassItem) (i j : ℕ) (rest : List ℕ) where
  pub reservation_comes : comes_first (slice_get reservations i) (slice_get classes j) ≡ true → Rest reservations classes (i + 1) j rest → Rest reservations classes i j (i ∷ rest)
  reservation_comes test h = by_items (slice_get reservations i) (slice_get classes j) refl refl test
    where
      reservations_now : (r : ReservationItem) → slice_get reservations i ≡ Some r → drop i (reservings_of reservations) ≡ reserving_reservation (reservation_item r) ∷ drop (i + 1) (reservings_of reservations)
      reservations_now r e = drop_some (λ item. reserving_reservation (reservation_item item)) reservations i r e

      by_items : (a : Option ReservationItem) (b : Option ClassItem) → slice_get reservations i ≡ a → slice_get classes j ≡ b → comes_first a b ≡ true → Rest reservations classes i j (i ∷ rest)
      by_items None b ea eb t = absurd (cc)
      by_items (Some r) None ea eb t =
          let none = drop_none (λ item. reserving_class (class_item item)) classes j eb in
          subst (λ xs. Numbered xs (drop j (class_reservings_of classes)) i (length reservations + j) (i ∷ rest)) (sym (reservations_now r ea))
          (subst (λ xs. Numbered (reserving_reservation (reservation_item r) ∷ drop (i + 1) (reservings_of reservations)) xs i (length reservations + j) (i ∷ rest)) (sym none)
          (last_first (subst (λ xs. Numbered (drop (i + 1) (reservings_of reservations)) xs (i + 1) (length reservations + j) rest) none h)))
      by_items (Some r) (Some c) ea eb t =
          let some = drop_some (λ item. reserving_class (class_item item)) classes j c eb in
          subst (λ xs. Numbered xs (drop j (class_reservings_of classes)) i (length reservations + j) (i ∷ rest)) (sym (reservations_now r ea))
          (subst (λ xs. Numbered (reserving_reservation (reservation_item r) ∷ drop (i + 1) (reservings_of reservations)) xs i (length reservations + j) (i ∷ rest)) (sym some)
          (from_first t (subst (λ xs. Numbered (drop (i + 1) (reservings_of reservations)) xs (i + 1) (length reservations + j) rest) some h)))

  pub class_comes : (i < length reservations) ⊎ (j < length classes) → comes_first (slice_get reservations i) (slice_get classes j) ≡ false → Rest reservations classes i (j + 1) rest
      → Rest reservations classes i j ((length reservations + j) ∷ rest)
  class_comes some test h = by_items (slice_get reservations i) (slice_get classes j) refl refl test
    where
      h' : Numbered (drop i (reservings_of reservations)) (drop (j + 1) (class_reservings_of classes)) i ((length reservations + j) + 1) rest
      h' = let e : length reservations + (j + 1) ≡ (length reservations + j) + 1 = omega arith in
          subst (λ (n : ℕ). Numbered (drop i (reservings_of reservations)) (drop (j + 1) (class_reservings_of classes)) i n rest) e h

      classes_now : (c : ClassItem) → slice_get classes j ≡ Some c → drop j (class_reservings_of classes) ≡ reserving_class (class_item c) ∷ drop (j + 1) (class_reservings_of classes)
      classes_now c e = drop_some (λ item. reserving_class (class_item item)) classes j c e

      by_items : (a : Option ReservationItem) (b : Option ClassItem) → slice_get reservations i ≡ a → slice_get classes j ≡ b → comes_first a b ≡ false
          → Rest reservations classes i j ((length reservations + j) ∷ rest)
      by_items None None ea eb t = ⊎_elim
          (λ (lt : i < length reservations). absurd (some_at reservations i lt ea))
          (λ (lt : j < length classes). absurd (some_at classes j lt eb))
          some
      by_items None (Some c) ea eb t =
          let none = drop_none (λ item. reserving_reservation (reservation_item item)) reservations i ea in
          subst (λ xs. Numbered (drop i (reservings_of reservations)) xs i (length reservations + j) ((length reservations + j) ∷ rest)) (sym (classes_now c eb))
          (subst (λ xs. Numbered xs (reserving_class (class_item c) ∷ drop (j + 1) (class_reservings_of classes)) i (length reservations + j) ((length reservations + j) ∷ rest)) (sym none)
          (last_second (subst (λ xs. Numbered xs (drop (j + 1) (class_reservings_of classes)) i ((length reservations + j) + 1) rest) none h')))
      by_items (Some r) None ea eb t = absurd (cc)
      by_items (Some r) (Some c) ea eb t =
          let now = drop_some (λ item. reserving_reservation (reservation_item item)) reservations i r ea in
          subst (λ xs. Numbered (drop i (reservings_of reservations)) xs i (length reservations + j) ((length reservations + j) ∷ rest)) (sym (classes_now c eb))
          (subst (λ xs. Numbered xs (reserving_class (class_item c) ∷ drop (j + 1) (class_reservings_of classes)) i (length reservations + j) ((length reservations + j) ∷ rest)) (sym now)
          (from_second t (subst (λ xs. Numbered xs (drop (j + 1) (class_reservings_of classes)) i ((length reservations + j) + 1) rest) now h')))

pub nothing_rests : (reservations : List ReservationItem) (classes : List ClassItem) (i j : ℕ) → length reservations ≤ i → length classes ≤ j → Rest reservations classes i j []
nothing_rests reservations classes i j a b =
    let none = drop_all i (reservings_of reservations) (omega (arith, length-map reservations (λ item. reserving_reservation (reservation_item item)))) in
    let none' = drop_all j (class_reservings_of classes) (omega (arith, length-map classes (λ item. reserving_class (class_item item)))) in
    subst (λ xs. Numbered xs (drop j (class_reservings_of classes)) i (length reservations + j) []) (sym none)
    (subst (λ xs. Numbered [] xs i (length reservations + j) []) (sym none') done)

pub comes_first_within : (reservations : List ReservationItem) (classes : List ClassItem) (i j : ℕ) → comes_first (slice_get reservations i) (slice_get classes j) ≡ true → i + 1 ≤ length reservations
comes_first_within reservations classes i j h = by_item (slice_get reservations i) refl h
  where
    by_item : (a : Option ReservationItem) → slice_get reservations i ≡ a → comes_first a (slice_get classes j) ≡ true → i + 1 ≤ length reservations
    by_item None e t = absurd (cc)
    by_item (Some r) e t = let lt = slice_get_within reservations i r e in omega arith

pub comes_second_within : (reservations : List ReservationItem) (classes : List ClassItem) (i j : ℕ) → (i < length reservations) ⊎ (j < length classes) → comes_first (slice_get reservations i) (slice_get classes j) ≡ false → j + 1 ≤ length classes
comes_second_within reservations classes i j some h = by_items (slice_get reservations i) (slice_get classes j) refl refl h
  where
    by_items : (a : Option ReservationItem) (b : Option ClassItem) → slice_get reservations i ≡ a → slice_get classes j ≡ b → comes_first a b ≡ false → j + 1 ≤ length classes
    by_items None None ea eb t = ⊎_elim
        (λ (lt : i < length reservations). absurd (some_at reservations i lt ea))
        (λ (lt : j < length classes). absurd (some_at classes j lt eb))
        some
    by_items None (Some c) ea eb t = let lt = slice_get_within classes j c eb in omega arith
    by_items (Some r) None ea eb t = absurd (cc)
    by_items (Some r) (Some c) ea eb t = let lt = slice_get_within classes j c eb in omega arith
