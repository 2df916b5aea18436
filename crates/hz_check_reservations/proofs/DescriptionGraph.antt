-- The graph that the code makes of a description.
use Rattle.std.proofs.Common.{◌≡◌, ℕ, List, [], ◌∷◌, ◌++◌, length, map, Option, refl, sym, ap, ◌∙◌, subst}
use Rattle.std.specs.List.{filter_map, cons_option}
use Rattle.std.proofs.lemmas.List.{length-map, map-append}
use Rattle.hz_mdread.specs.declared.items.ClassItem.{ClassItem}
use Rattle.hz_mdread.specs.declared.items.ReservationItem.{ReservationItem}
use Rattle.hz_mdread.specs.Shape.{class_item, reservation_item}
use Rattle.hz_description_model.specs.Check.CountingOrder.{Reserving, reserving_reservation, reserving_class, reservations_of, classes_of}
use Rattle.hz_description_model.specs.Reservations.NamesIn.{names_in}
use Rattle.hz_description_model.specs.Reading.Descriptions.{Description}
use Rattle.hz_regexp.specs.Shape.{expression}
use Rattle.hz_check_reservations.specs.Orders.{Numbered, number_of, numbers_in, reservings_of, class_reservings_of, IsGraph}

pub map-map : {A B C : Type 0} (f : B → C) (g : A → B) (xs : List A) → map f (map g xs) ≡ map (λ x. f (g x)) xs
map-map f g [] = refl
map-map f g (x ∷ xs) = ap (λ ys. f (g x) ∷ ys) (map-map f g xs)

pub map_agree : {A B : Type 0} (f g : A → B) → ((x : A) → f x ≡ g x) → (xs : List A) → map f xs ≡ map g xs
map_agree f g same [] = refl
map_agree f g same (x ∷ xs) = ap (λ y. y ∷ map f xs) (same x) ∙ ap (λ ys. g x ∷ ys) (map_agree f g same xs)

pub filter_map_agree : {A B : Type 0} (f g : A → Option B) → ((x : A) → f x ≡ g x) → (xs : List A) → filter_map f xs ≡ filter_map g xs
filter_map_agree f g same [] = refl
filter_map_agree f g same (x ∷ xs) = ap (λ o. cons_option o (filter_map f xs)) (same x) ∙ ap (cons_option (g x)) (filter_map_agree f g same xs)

module _ (d : Description) (found : List ℕ → Option ℕ) (right : (name : List ℕ) → found name ≡ number_of d name) (reservations : List ReservationItem) (classes : List ClassItem)
    (these : d.reservations ≡ map reservation_item reservations) (those : d.classes ≡ map class_item classes) where
  abbrev reservation_lists : List (List ℕ)
  reservation_lists = map (λ item. filter_map found (names_in (expression item.expr))) reservations

  abbrev class_lists : List (List ℕ)
  class_lists = map (λ item. filter_map found (names_in (expression item.expr))) classes

  reservations_same : reservations_of d ≡ reservings_of reservations
  reservations_same = ap (map reserving_reservation) these ∙ map-map reserving_reservation reservation_item reservations

  classes_same : classes_of d ≡ class_reservings_of classes
  classes_same = ap (map reserving_class) those ∙ map-map reserving_class class_item classes

  first_lists : reservation_lists ≡ map (λ r. numbers_in d r.expression) (reservations_of d)
  first_lists = map_agree (λ (item : ReservationItem). filter_map found (names_in (expression item.expr))) (λ item. numbers_in d (expression item.expr)) (λ item. filter_map_agree found (number_of d) right (names_in (expression item.expr))) reservations
      ∙ (sym (map-map (λ r. numbers_in d r.expression) (λ (item : ReservationItem). reserving_reservation (reservation_item item)) reservations)
      ∙ ap (map (λ (r : Reserving). numbers_in d r.expression)) (sym reservations_same))

  second_lists : class_lists ≡ map (λ r. numbers_in d r.expression) (classes_of d)
  second_lists = map_agree (λ (item : ClassItem). filter_map found (names_in (expression item.expr))) (λ item. numbers_in d (expression item.expr)) (λ item. filter_map_agree found (number_of d) right (names_in (expression item.expr))) classes
      ∙ (sym (map-map (λ r. numbers_in d r.expression) (λ (item : ClassItem). reserving_class (class_item item)) classes)
      ∙ ap (map (λ (r : Reserving). numbers_in d r.expression)) (sym classes_same))

  pub graph_is : (file : List ℕ) (lists : List (List ℕ)) → Numbered (reservings_of reservations) (class_reservings_of classes) 0 (length reservations) file
      → lists ≡ (reservation_lists ++ class_lists) ++ file ∷ [] → IsGraph d lists
  graph_is file lists numbered made = record {
    file = file;
    numbered = subst (λ xs. Numbered xs (classes_of d) 0 (length d.reservations) file) (sym reservations_same)
        (subst (λ xs. Numbered (reservings_of reservations) xs 0 (length d.reservations) file) (sym classes_same)
        (subst (λ (n : ℕ). Numbered (reservings_of reservations) (class_reservings_of classes) 0 n file) (sym (ap length these ∙ length-map reservations reservation_item)) numbered));
    edges = made ∙ ap (λ (xs : List (List ℕ)). xs ++ file ∷ [])
        (ap (λ (xs : List (List ℕ)). xs ++ class_lists) first_lists ∙ (ap (λ (xs : List (List ℕ)). map (λ r. numbers_in d r.expression) (reservations_of d) ++ xs) second_lists
        ∙ sym (map-append (λ r. numbers_in d r.expression) (reservations_of d) (classes_of d))));
  }
