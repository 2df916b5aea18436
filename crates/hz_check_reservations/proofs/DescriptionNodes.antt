-- The nodes of a description's graph and their edges, as reservations, classes and names.
use Rattle.std.proofs.Common.{◌≡◌, ℕ, zero, suc, ◌+◌, ◌-◌, ◌<◌, ◌≤◌, ⊎_elim, false, List, [], ◌∷◌, length, map, Contains, Option, Some, None, refl, sym, ap, ◌∙◌, subst, arith, slice_get}
use Rattle.std.specs.List.{list_any}
use Rattle.std.specs.Option.{is_some, option_map}
use Rattle.std.specs.Str.{bytes_eq}
use Rattle.std.proofs.lemmas.Bool.{cases_lt}
use Rattle.std.proofs.lemmas.List.{get_or_at, get_or_append_left, get_or-append_right, get_or-map, get_or_past, length-append, length-map}
use Rattle.std.proofs.lemmas.Option.{slice_get_within, get_or_from_slice_get, slice_get-map}
use Rattle.hz_base_model.proofs.Elements.{Contains-nil}
use Rattle.hz_description_model.proofs.Check.PlaceLaws.{from_filter_map}
use Rattle.hz_description_model.specs.Reservations.Alternatives.{Expression}
use Rattle.hz_description_model.specs.Check.CountingOrder.{Reserving, reserving_reservation, reserving_class, reservations_of, classes_of, named_by}
use Rattle.hz_description_model.specs.Reservations.NamesIn.{names_in}
use Rattle.hz_description_model.specs.Reading.Descriptions.{Description, ReservationItem, ClassItem}
use Rattle.hz_description_model.specs.Check.Places.{reservation_named}
use Rattle.hz_check_reservations.specs.Graphs.{AreInside, ends_in}
use Rattle.hz_check_reservations.specs.Orders.{all_of, nothing_reserved, reserving, reservings, number_of, numbers_in, Numbered, graph_of}
use Rattle.hz_check_reservations.proofs.ByName.{at_place, at_none, map-filter_map}
use Rattle.hz_check_reservations.proofs.DescriptionGraph.{filter_map_agree}
use Rattle.hz_check_reservations.proofs.Files.{file_number, file_first, file_second}
use Rattle.hz_check_reservations.proofs.NameFacts.{reservation_names_of, among_any, place_at}

module _ (d : Description) where
  -- so many reservations, and so many of both
  abbrev pub first_count : ℕ
  first_count = length d.reservations

  abbrev pub all_count : ℕ
  all_count = length (all_of d)

  pub counts : all_count ≡ first_count + length d.classes
  counts = omega (arith, length-append (reservations_of d) (classes_of d), length-map d.reservations reserving_reservation, length-map d.classes reserving_class)

  -- the reservation of a number
  pub reserving_first : (v : ℕ) (r : ReservationItem) → slice_get d.reservations v ≡ Some r → reserving d v ≡ reserving_reservation r
  reserving_first v r h =
      let lt = slice_get_within d.reservations v r h in
      get_or_append_left (reservations_of d) (classes_of d) nothing_reserved v (omega (arith, length-map d.reservations reserving_reservation))
      ∙ (get_or-map reserving_reservation d.reservations v r nothing_reserved lt ∙ ap reserving_reservation (get_or_from_slice_get d.reservations v r r h))

  -- the class of a number
  pub reserving_second : (v : ℕ) (c : ClassItem) → first_count ≤ v → slice_get d.classes (v - first_count) ≡ Some c → reserving d v ≡ reserving_class c
  reserving_second v c le h =
      let lt = slice_get_within d.classes (v - first_count) c h in
      get_or-append_right (reservations_of d) (classes_of d) first_count v nothing_reserved (length-map d.reservations reserving_reservation) le
      ∙ (get_or-map reserving_class d.classes (v - first_count) c nothing_reserved lt ∙ ap reserving_class (get_or_from_slice_get d.classes (v - first_count) c c h))

  pub reservation_at : (v : ℕ) → v < first_count → (r : ReservationItem) × (slice_get d.reservations v ≡ Some r)
  reservation_at v lt = some_at d.reservations v lt
    where
      some_at : (rs : List ReservationItem) (v : ℕ) → v < length rs → (r : ReservationItem) × (slice_get rs v ≡ Some r)
      some_at [] v lt = absurd (omega arith)
      some_at (r ∷ rs) zero lt = (r, refl)
      some_at (r ∷ rs) (suc v) lt = some_at rs v (omega arith)

  pub class_at : (v : ℕ) → first_count ≤ v → v < all_count → (c : ClassItem) × (slice_get d.classes (v - first_count) ≡ Some c)
  class_at v le lt = some_at d.classes (v - first_count) (omega (arith, counts))
    where
      some_at : (cs : List ClassItem) (v : ℕ) → v < length cs → (c : ClassItem) × (slice_get cs v ≡ Some c)
      some_at [] v lt = absurd (omega arith)
      some_at (c ∷ cs) zero lt = (c, refl)
      some_at (c ∷ cs) (suc v) lt = some_at cs v (omega arith)

  -- the reservation that has a number by its name
  pub numbered_item : (name : List ℕ) (v : ℕ) → number_of d name ≡ Some v → (r : ReservationItem) × (slice_get d.reservations v ≡ Some r) × (r.name ≡ name)
  numbered_item name v h =
      let at : slice_get (reservation_names_of d) v ≡ Some name = place_at name (reservation_names_of d) v h in
      let low : v < first_count = omega (arith, slice_get_within (reservation_names_of d) v name at, length-map d.reservations (λ (r : ReservationItem). r.name)) in
      let item = reservation_at v low in
      let same : Some (item.0).name ≡ Some name = sym (slice_get-map (λ (r : ReservationItem). r.name) d.reservations v ∙ ap (option_map (λ (r : ReservationItem). r.name)) item.1) ∙ at in
      (item.0, item.1, cc)

  pub number_small : (name : List ℕ) (v : ℕ) → number_of d name ≡ Some v → v < first_count
  number_small name v h = let item = numbered_item name v h in slice_get_within d.reservations v item.0 item.1

  pub numbers_small : (e : Expression) (v : ℕ) → Contains (numbers_in d e) v → v < first_count
  numbers_small e v h = let found = from_filter_map (number_of d) (names_in e) v h in number_small found.0 v found.2

  -- the reservation of a name, by its number
  pub named_item : (name : List ℕ) → option_map reserving_reservation (reservation_named d name) ≡ option_map (reserving d) (number_of d name)
  named_item name = by_place (number_of d name) refl
    where
      by_place : (o : Option ℕ) → number_of d name ≡ o → option_map reserving_reservation (reservation_named d name) ≡ option_map (reserving d) o
      by_place None e = ap (option_map reserving_reservation) (at_none name (reservation_names_of d) d.reservations (not_among e))
        where
          not_among : number_of d name ≡ None → list_any (bytes_eq name) (reservation_names_of d) ≡ false
          not_among h = sym (among_any name (reservation_names_of d)) ∙ ap is_some h
      by_place (Some v) e =
          let item = numbered_item name v e in
          ap (option_map reserving_reservation) (at_place name v (reservation_names_of d) d.reservations e ∙ item.1) ∙ ap Some (sym (reserving_first v item.0 item.1))

  -- what one names, by numbers
  pub named_by_numbers : (r : Reserving) → named_by d r ≡ reservings d (numbers_in d r.expression)
  named_by_numbers r =
      filter_map_agree (λ name. option_map reserving_reservation (reservation_named d name)) (λ name. option_map (reserving d) (number_of d name)) named_item (names_in r.expression)
      ∙ sym (map-filter_map (reserving d) (number_of d) (names_in r.expression))

  module _ (file : List ℕ) (numbered : Numbered (reservations_of d) (classes_of d) 0 first_count file) where
    abbrev pub edges : ℕ → List ℕ
    edges = ends_in (graph_of d file)

    abbrev lists : List (List ℕ)
    lists = map (λ r. numbers_in d r.expression) (all_of d)

    pub graph_count : length (graph_of d file) ≡ all_count + 1
    graph_count = omega (arith, length-append lists (file ∷ []), length-map (all_of d) (λ (r : Reserving). numbers_in d r.expression))

    pub edges_at : (v : ℕ) → v < all_count → edges v ≡ numbers_in d (reserving d v).expression
    edges_at v lt =
        get_or_append_left lists (file ∷ []) [] v (omega (arith, length-map (all_of d) (λ (r : Reserving). numbers_in d r.expression)))
        ∙ get_or-map (λ (r : Reserving). numbers_in d r.expression) (all_of d) v nothing_reserved [] lt

    pub edges_root : edges all_count ≡ file
    edges_root = get_or_at lists file [] [] all_count (length-map (all_of d) (λ (r : Reserving). numbers_in d r.expression))

    pub edge_small : (v w : ℕ) → v < all_count → Contains (edges v) w → w < first_count
    edge_small v w lt h = numbers_small (reserving d v).expression w (subst (λ (xs : List ℕ). Contains xs w) (edges_at v lt) h)

    pub file_small : (w : ℕ) → Contains file w → w < all_count
    file_small w h = ⊎_elim
        (λ (g : (0 ≤ w) × (w < 0 + length (reservations_of d))). omega (arith, g.1, length-map d.reservations reserving_reservation, counts))
        (λ (g : (first_count ≤ w) × (w < first_count + length (classes_of d))). omega (arith, g.1, length-map d.classes reserving_class, counts))
        (file_number numbered w h)

    pub graph_inside : AreInside (length (graph_of d file)) (graph_of d file)
    graph_inside = λ node end h. ⊎_elim
        (λ (lt : node < all_count). omega (arith, edge_small node end lt h, graph_count, counts))
        (λ (le : all_count ≤ node). ⊎_elim
        (λ (lt : node < length (graph_of d file)).
        let e : node ≡ all_count = omega (arith, graph_count) in
        omega (arith, file_small end (subst (λ (xs : List ℕ). Contains xs end) (ap edges e ∙ edges_root) h), graph_count))
        (λ (past : length (graph_of d file) ≤ node). absurd (Contains-nil end (subst (λ (xs : List ℕ). Contains xs end) (get_or_past (graph_of d file) node [] past) h)))
        (cases_lt node (length (graph_of d file))))
        (cases_lt node all_count)

    -- each number stands in the file
    pub in_file : (v : ℕ) → v < all_count → Contains file v
    in_file v lt = ⊎_elim
        (λ (low : v < first_count). file_first numbered v (omega arith) (omega (arith, length-map d.reservations reserving_reservation)))
        (λ (high : first_count ≤ v). file_second numbered v high (omega (arith, length-map d.classes reserving_class, counts)))
        (cases_lt v (first_count))
