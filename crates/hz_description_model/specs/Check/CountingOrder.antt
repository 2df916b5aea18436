-- Reservations and classes in the order in which they count, and where their sizes together pass the limit. This profile, docs/RULES.md.
use Rattle.std.specs.Prelude.{ℕ, ◌+◌, Bool, true, false, ◌&&◌, not, nat_lt, List, [], ◌∷◌, ◌++◌, map, if◌then◌else◌, IsTrue, IsFalse}
use Rattle.std.specs.Option.{option_map}
use Rattle.std.specs.List.{filter_map}
use Rattle.hz_description_model.specs.Reservations.Limits.{size_limit}
use Rattle.hz_description_model.specs.Reservations.Alternatives.{Alternative, Expression, alternatives_of}
use Rattle.hz_description_model.specs.Reservations.Automata.{UnitPlace, total_size}
use Rattle.hz_description_model.specs.Reservations.NamesIn.{names_in}
use Rattle.hz_description_model.specs.Reading.Descriptions.{Description, ReservationItem, ClassItem}
use Rattle.hz_description_model.specs.Check.Places.{Known, reservation_named}
use Rattle.hz_description_model.specs.Check.Sites.{Site, is_among}

-- A reservation or a class, as it counts.
pub record Reserving : Type 0 where
  pub site : Site
  pub expression : Expression
  pub is_class : Bool

abbrev pub reservation_site : ReservationItem → Site
reservation_site r = record { line = r.line; form = r.form; name = r.name }

abbrev pub reserving_reservation : ReservationItem → Reserving
reserving_reservation r = record { site = reservation_site r; expression = r.expression; is_class = false }

abbrev pub reserving_class : ClassItem → Reserving
reserving_class c = record { site = record { line = c.line; form = c.form; name = c.name }; expression = c.expression; is_class = true }

abbrev pub reservations_of : Description → List Reserving
reservations_of d = map reserving_reservation d.reservations

abbrev pub classes_of : Description → List Reserving
classes_of d = map reserving_class d.classes

-- the alternatives of a reservation or of a class
abbrev pub alternatives_in : Known → Reserving → List (Alternative UnitPlace)
alternatives_in known r = alternatives_of known r.expression

-- Two lists, each in the order of its forms, as one in the order of the file.
pub data Merged : (first second merged : List Reserving) → Type 0 where
  no_first : {second : List Reserving} → Merged [] second second
  no_second : {first : List Reserving} → Merged first [] first
  from_first : {r s : Reserving} {first second merged : List Reserving} → IsTrue (nat_lt r.site.form s.site.form)
      → Merged first (s ∷ second) merged → Merged (r ∷ first) (s ∷ second) (r ∷ merged)
  from_second : {r s : Reserving} {first second merged : List Reserving} → IsFalse (nat_lt r.site.form s.site.form)
      → Merged (r ∷ first) second merged → Merged (r ∷ first) (s ∷ second) (s ∷ merged)

-- the reservations that one names, from left to right
abbrev pub named_by : Description → Reserving → List Reserving
named_by d r = filter_map (λ name. option_map reserving_reservation (reservation_named d name)) (names_in r.expression)

-- it is a reservation that came before
abbrev pub has_come : List (List ℕ) → Reserving → Bool
has_come before r = not r.is_class && is_among r.site.name before

-- the names of those that are reservations
abbrev pub reservation_names : List Reserving → List (List ℕ)
reservation_names [] = []
reservation_names (r ∷ others) = if r.is_class then reservation_names others else r.site.name ∷ reservation_names others

-- The order in which they count, after reservations of these names: directly before each come the reservations that
-- it names and that have not come before, from left to right, and so before each of these.
pub data Counted (d : Description) : (before : List (List ℕ)) (items order : List Reserving) → Type 0 where
  ends : {before : List (List ℕ)} → Counted d before [] []
  came : {before : List (List ℕ)} {r : Reserving} {items order : List Reserving} → IsTrue (has_come before r) → Counted d before items order
      → Counted d before (r ∷ items) order
  comes : {before : List (List ℕ)} {r : Reserving} {items inner order : List Reserving} → IsFalse (has_come before r) → Counted d before (named_by d r) inner
      → Counted d (before ++ reservation_names (inner ++ r ∷ [])) items order → Counted d before (r ∷ items) (inner ++ r ∷ order)

-- the counting order of a description
pub record IsCountingOrder (d : Description) (order : List Reserving) : Type 0 where
  pub file : List Reserving
  pub merged : Merged (reservations_of d) (classes_of d) file
  pub counted : Counted d [] file order

-- the first of them at which the sizes together pass the limit, after those that have this size together
abbrev pub past_size : Known → ℕ → List Reserving → List Site
past_size known beyond [] = []
past_size known beyond (r ∷ others) =
    if nat_lt size_limit (beyond + total_size (alternatives_in known r)) then r.site ∷ [] else past_size known (beyond + total_size (alternatives_in known r)) others
