-- The order in which the reservations and classes of a description count, by numbers: each reservation has its place among
-- the reservations, and each class its place among the classes after all reservations.
use Rattle.std.specs.Prelude.{◌≡◌, ℕ, ◌+◌, ◌<◌, Bool, true, false, List, [], ◌∷◌, ◌++◌, length, map, nat_lt, slice_index_or, IsTrue, IsFalse, Option, Some, None}
use Rattle.std.specs.List.{Contains, filter_map}
use Rattle.hz_description_model.specs.Reservations.Alternatives.{Expression}
use Rattle.hz_description_model.specs.Reservations.Alternatives as expression
use Rattle.hz_mdread.specs.declared.items.ClassItem.{ClassItem}
use Rattle.hz_mdread.specs.declared.items.ReservationItem.{ReservationItem}
use Rattle.hz_mdread.specs.Shape.{class_item, reservation_item}
use Rattle.hz_description_model.specs.Check.CountingOrder.{Reserving, reserving_reservation, reserving_class, reservations_of, classes_of, IsCountingOrder}
use Rattle.hz_description_model.specs.Reservations.NamesIn.{names_in}
use Rattle.hz_description_model.specs.Reading.Descriptions.{Description}
use Rattle.hz_base_model.specs.Lines.{place_of}
use Rattle.hz_check_reservations.specs.Graphs.{At, IsOnce}

-- reservations, and after them classes
abbrev pub all_of : Description → List Reserving
all_of d = reservations_of d ++ classes_of d

-- what has no number
abbrev pub nothing_reserved : Reserving
nothing_reserved = record { site = record { line = 0; form = 0; name = [] }; expression = expression.nothing; is_class = true }

-- the reservation or class of a number
abbrev pub reserving : Description → ℕ → Reserving
reserving d number = slice_index_or (all_of d) number nothing_reserved

-- the reservations and classes of numbers
abbrev pub reservings : Description → List ℕ → List Reserving
reservings d numbers = map (reserving d) numbers

-- the number of the reservation of a name
abbrev pub number_of : Description → List ℕ → Option ℕ
number_of d name = place_of name (map (λ r. r.name) d.reservations)

-- the numbers of the reservations that an expression names, from left to right
abbrev pub numbers_in : Description → Expression → List ℕ
numbers_in d e = filter_map (number_of d) (names_in e)

-- Reservations and classes, each in the order of its forms, by number as one list in the order of the file; the first ones
-- that are left have these numbers.
pub data Numbered : (first second : List Reserving) (i j : ℕ) (file : List ℕ) → Type 0 where
  done : {i j : ℕ} → Numbered [] [] i j []
  last_first : {r : Reserving} {first : List Reserving} {i j : ℕ} {file : List ℕ} → Numbered first [] (i + 1) j file → Numbered (r ∷ first) [] i j (i ∷ file)
  last_second : {s : Reserving} {second : List Reserving} {i j : ℕ} {file : List ℕ} → Numbered [] second i (j + 1) file → Numbered [] (s ∷ second) i j (j ∷ file)
  from_first : {r s : Reserving} {first second : List Reserving} {i j : ℕ} {file : List ℕ} → IsTrue (nat_lt r.site.form s.site.form) → Numbered first (s ∷ second) (i + 1) j file
      → Numbered (r ∷ first) (s ∷ second) i j (i ∷ file)
  from_second : {r s : Reserving} {first second : List Reserving} {i j : ℕ} {file : List ℕ} → IsFalse (nat_lt r.site.form s.site.form) → Numbered (r ∷ first) second i (j + 1) file
      → Numbered (r ∷ first) (s ∷ second) i j (j ∷ file)

-- the reservations and classes that the code holds
abbrev pub reservings_of : List ReservationItem → List Reserving
reservings_of items = map (λ item. reserving_reservation (reservation_item item)) items

abbrev pub class_reservings_of : List ClassItem → List Reserving
class_reservings_of items = map (λ item. reserving_class (class_item item)) items

-- whether the reservation comes before the class in the order of the file, where there are both
abbrev pub comes_first : Option ReservationItem → Option ClassItem → Bool
comes_first (Some r) (Some c) = nat_lt r.form c.form
comes_first (Some r) None = true
comes_first None _ = false

-- the graph of a description, and of a root whose edges lead to all in the order of the file
abbrev pub graph_of : Description → List ℕ → List (List ℕ)
graph_of d file = map (λ r. numbers_in d r.expression) (all_of d) ++ file ∷ []

-- such a graph
pub record IsGraph (d : Description) (lists : List (List ℕ)) : Type 0 where
  pub file : List ℕ
  pub numbered : Numbered (reservations_of d) (classes_of d) 0 (length d.reservations) file
  pub edges : lists ≡ graph_of d file

-- The counting order of a description by numbers: all have come, each once, and each after the reservations that it names.
pub record IsOrder (d : Description) (order : List ℕ) : Type 0 where
  pub counts : IsCountingOrder d (reservings d order)
  pub within : (number : ℕ) → Contains order number → number < length (all_of d)
  pub complete : (number : ℕ) → number < length (all_of d) → Contains order number
  pub once : IsOnce order
  pub ready : (i number named : ℕ) → At order i number → Contains (numbers_in d (reserving d number).expression) named → (j : ℕ) × (j < i) × At order j named
