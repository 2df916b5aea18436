-- The classes of a counting order, which are those of the file.
use Rattle.std.proofs.Common.{◌≡◌, ℕ, true, false, cond, List, [], ◌∷◌, ◌++◌, filter, Contains, Option, Some, None, refl, sym, ap, ◌∙◌}
use Rattle.std.specs.Prelude.{not}
use Rattle.std.specs.Option.{option_map}
use Rattle.std.proofs.lemmas.Bool.{and_parts, not-true, cond-true, cond-false}
use Rattle.std.proofs.lemmas.List.Elements.{filter-append}
use Rattle.std.proofs.lemmas.Option.{none-some, same_Some}
use Rattle.hz_description_model.specs.Check.CountingOrder.{Reserving, reserving_reservation, reserving_class, reservations_of, classes_of, Merged, Counted, IsCountingOrder, named_by}
use Rattle.hz_description_model.specs.Reservations.NamesIn.{names_in}
use Rattle.hz_description_model.specs.Reading.Descriptions.{Description, ReservationItem}
use Rattle.hz_description_model.specs.Check.Places.{reservation_named}
use Rattle.hz_description_model.specs.Check.Sites.{is_among}
use Rattle.hz_base_model.proofs.Elements.{Contains-head, Contains-tail, Contains-from_map}
use Rattle.hz_description_model.proofs.Check.PlaceLaws.{from_filter_map}

-- the classes among items
abbrev pub classes_among : List Reserving → List Reserving
classes_among items = filter (λ r. r.is_class) items

no_classes : (items : List Reserving) → ((r : Reserving) → Contains items r → r.is_class ≡ false) → classes_among items ≡ []
no_classes [] each = refl
no_classes (r ∷ items) each = cond-false r.is_class (r ∷ classes_among items) (classes_among items) (each r (Contains-head r items)) ∙ no_classes items (λ q h. each q (Contains-tail r q items h))

all_classes : (items : List Reserving) → ((r : Reserving) → Contains items r → r.is_class ≡ true) → classes_among items ≡ items
all_classes [] each = refl
all_classes (r ∷ items) each = cond-true r.is_class (r ∷ classes_among items) (classes_among items) (each r (Contains-head r items)) ∙ ap (λ (rs : List Reserving). r ∷ rs) (all_classes items (λ q h. each q (Contains-tail r q items h)))

merged_classes : (first second merged : List Reserving) → ((r : Reserving) → Contains first r → r.is_class ≡ false) → ((s : Reserving) → Contains second s → s.is_class ≡ true) → Merged first second merged → classes_among merged ≡ second
merged_classes _ second _ plain class Merged.no_first = all_classes second class
merged_classes first _ _ plain class Merged.no_second = no_classes first plain
merged_classes _ _ _ plain class (Merged.from_first {r = r} {s = s} {first = first} {second = second} {merged = merged} low rest) =
    cond-false r.is_class (r ∷ classes_among merged) (classes_among merged) (plain r (Contains-head r first))
    ∙ merged_classes first (s ∷ second) merged (λ q h. plain q (Contains-tail r q first h)) class rest
merged_classes _ _ _ plain class (Merged.from_second {r = r} {s = s} {first = first} {second = second} {merged = merged} high rest) =
    cond-true s.is_class (s ∷ classes_among merged) (classes_among merged) (class s (Contains-head s second))
    ∙ ap (λ (rs : List Reserving). s ∷ rs) (merged_classes (r ∷ first) second merged plain (λ q h. class q (Contains-tail s q second h)) rest)

module _ (d : Description) where
  named_plain : (r q : Reserving) → Contains (named_by d r) q → q.is_class ≡ false
  named_plain r q h =
      let found = from_filter_map (λ name. option_map reserving_reservation (reservation_named d name)) (names_in r.expression) q h in
      by_item (reservation_named d found.0) found.2
    where
      by_item : (o : Option ReservationItem) → option_map reserving_reservation o ≡ Some q → q.is_class ≡ false
      by_item None e = absurd (none-some q e)
      by_item (Some item) e = ap (λ (s : Reserving). s.is_class) (sym (same_Some (reserving_reservation item) q e))

  counted_classes : (before : List (List ℕ)) (items order : List Reserving) → Counted d before items order → classes_among order ≡ classes_among items
  counted_classes _ _ _ Counted.ends = refl
  counted_classes _ _ _ (Counted.came {before = before} {r = r} {items = items} {order = order} t rest) =
      let plain = not-true r.is_class (and_parts (not r.is_class) (is_among (r.site).name before) t).0 in
      counted_classes before items order rest ∙ sym (cond-false r.is_class (r ∷ classes_among items) (classes_among items) plain)
  counted_classes _ _ _ (Counted.comes {before = before} {r = r} {items = items} {inner = inner} {order = order} f first rest) =
      let none : classes_among inner ≡ [] = counted_classes before (named_by d r) inner first ∙ no_classes (named_by d r) (named_plain r) in
      filter-append (λ (q : Reserving). q.is_class) inner (r ∷ order)
      ∙ (ap (λ (rs : List Reserving). rs ++ classes_among (r ∷ order)) none
      ∙ ap (λ (rs : List Reserving). cond r.is_class (r ∷ rs) rs) (counted_classes _ items order rest))

  -- the classes come in the order of the file
  pub classes_in_order : (order : List Reserving) → IsCountingOrder d order → classes_among order ≡ classes_of d
  classes_in_order order counts = counted_classes [] counts.file order counts.counted
      ∙ merged_classes (reservations_of d) (classes_of d) counts.file
      (λ r h. let found = Contains-from_map reserving_reservation d.reservations r h in ap (λ (s : Reserving). s.is_class) (sym found.2))
      (λ s h. let found = Contains-from_map reserving_class d.classes s h in ap (λ (s : Reserving). s.is_class) (sym found.2))
      counts.merged
