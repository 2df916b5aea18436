-- A walk through the graph of a description is its counting order.
use Rattle.std.proofs.Common.{◌≡◌, ℕ, ◌<◌, ◌≤◌, ⊎_elim, Bool, true, false, cond, List, [], ◌∷◌, ◌++◌, Contains, Some, refl, sym, ap, ◌∙◌, subst, arith, slice_get}
use Rattle.std.proofs.lemmas.Bool.{cases_lt, false_from_ne_true}
use Rattle.std.proofs.lemmas.List.{length-map, map-append, same_from_push}
use Rattle.std.proofs.lemmas.List.Elements.{Contains-append_cases, Contains-push_cases}
use Rattle.std.proofs.lemmas.Option.{slice_get-map}
use Rattle.std.specs.Option.{option_map}
use Rattle.hz_base_model.proofs.Elements.{Contains-nil, Contains-head, Contains-tail, Contains-cons_cases}
use Rattle.hz_description_model.specs.Check.CountingOrder.{Reserving, reserving_reservation, reserving_class, reservations_of, classes_of, named_by, has_come, reservation_names, Counted, IsCountingOrder}
use Rattle.hz_description_model.specs.Check.CountingOrder as model
use Rattle.hz_description_model.specs.Reading.Descriptions.{Description, ReservationItem}
use Rattle.hz_description_model.specs.Check.Sites.{is_among}
use Rattle.hz_check_reservations.specs.Graphs.{At, IsOnce, Visited, ends, came, comes}
use Rattle.hz_check_reservations.specs.Orders.{nothing_reserved, reserving, reservings, Numbered, IsOrder}
use Rattle.hz_check_reservations.proofs.DescriptionNodes.{first_count, all_count, counts, reserving_first, reserving_second, reservation_at, class_at, named_by_numbers, edges, edges_at, edges_root, edge_small, file_small, in_file}
use Rattle.hz_check_reservations.proofs.Files.{IsOnceFrom, none, one, Stand, stand_all, file_once, file_merged}
use Rattle.hz_check_reservations.proofs.NameFacts.{AreApart, reservation_names_of, among_from_Contains, Contains-from_among}
use Rattle.hz_check_reservations.proofs.Places.{At-append, Contains-from_At}
use Rattle.hz_check_reservations.proofs.Visits.{visited_all, visited_each, visited_ready, visited_root}

pub reservation_names-append : (xs ys : List Reserving) → reservation_names (xs ++ ys) ≡ reservation_names xs ++ reservation_names ys
reservation_names-append [] ys = refl
reservation_names-append (x ∷ xs) ys = by_kind x.is_class (reservation_names-append xs ys)
  where
    by_kind : (b : Bool) → reservation_names (xs ++ ys) ≡ reservation_names xs ++ reservation_names ys
        → cond b (reservation_names (xs ++ ys)) (x.site.name ∷ reservation_names (xs ++ ys)) ≡ cond b (reservation_names xs) (x.site.name ∷ reservation_names xs) ++ reservation_names ys
    by_kind true rest = rest
    by_kind false rest = ap (λ (ns : List (List ℕ)). x.site.name ∷ ns) rest

module _ (d : Description) (apart : AreApart (reservation_names_of d)) where
  abbrev names_of_numbers : List ℕ → List (List ℕ)
  names_of_numbers numbers = reservation_names (reservings d numbers)

  pub name_at : (v : ℕ) (r : ReservationItem) → slice_get d.reservations v ≡ Some r → slice_get (reservation_names_of d) v ≡ Some r.name
  name_at v r h = slice_get-map (λ (r : ReservationItem). r.name) d.reservations v ∙ ap (option_map (λ (r : ReservationItem). r.name)) h

  -- a reservation among numbers, by its name
  named_from_number : (numbers : List ℕ) (v : ℕ) (r : ReservationItem) → slice_get d.reservations v ≡ Some r → Contains numbers v → Contains (names_of_numbers numbers) r.name
  named_from_number [] v r h k = absurd (Contains-nil v k)
  named_from_number (u ∷ numbers) v r h k = ⊎_elim
      (λ (e : u ≡ v).
      let is : reserving d u ≡ reserving_reservation r = ap (reserving d) e ∙ reserving_first d v r h in
      subst (λ (x : Reserving). Contains (reservation_names (x ∷ reservings d numbers)) r.name) (sym is) (Contains-head r.name (names_of_numbers numbers)))
      (λ (other : Contains numbers v). beyond (reserving d u) (named_from_number numbers v r h other))
      (Contains-cons_cases u v numbers k)
    where
      beyond : (x : Reserving) → Contains (names_of_numbers numbers) r.name → Contains (reservation_names (x ∷ reservings d numbers)) r.name
      beyond x g = by_kind x.is_class
        where
          by_kind : (b : Bool) → Contains (cond b (names_of_numbers numbers) (x.site.name ∷ names_of_numbers numbers)) r.name
          by_kind true = g
          by_kind false = Contains-tail x.site.name r.name (names_of_numbers numbers) g

  number_from_name : (numbers : List ℕ) → ((u : ℕ) → Contains numbers u → u < all_count d) → (v : ℕ) (r : ReservationItem) → slice_get d.reservations v ≡ Some r → Contains (names_of_numbers numbers) r.name → Contains numbers v
  number_from_name [] small v r h k = absurd (Contains-nil r.name k)
  number_from_name (u ∷ numbers) small v r h k =
      let again : Contains (names_of_numbers numbers) r.name → Contains numbers v = λ g. number_from_name numbers (λ w q. small w (Contains-tail u w numbers q)) v r h g in
      ⊎_elim
      (λ (lt : u < first_count d).
      let item = reservation_at d u lt in
      ⊎_elim
      (λ (e : (item.0).name ≡ r.name).
      let same : u ≡ v = apart.same u v r.name (name_at u item.0 item.1 ∙ ap Some e) (name_at v r h) in
      subst (Contains (u ∷ numbers)) same (Contains-head u numbers))
      (λ (other : Contains (names_of_numbers numbers) r.name). Contains-tail u v numbers (again other))
      (Contains-cons_cases (item.0).name r.name (names_of_numbers numbers) (subst (λ (x : Reserving). Contains (reservation_names (x ∷ reservings d numbers)) r.name) (reserving_first d u item.0 item.1) k)))
      (λ (le : first_count d ≤ u).
      let item = class_at d u le (small u (Contains-head u numbers)) in
      Contains-tail u v numbers (again (subst (λ (x : Reserving). Contains (reservation_names (x ∷ reservings d numbers)) r.name) (reserving_second d u item.0 le item.1) k)))
      (cases_lt u (first_count d))

  -- it is a reservation that came before, by numbers
  come : (numbers : List ℕ) (v : ℕ) → v < first_count d → Contains numbers v → has_come (names_of_numbers numbers) (reserving d v) ≡ true
  come numbers v lt h =
      let item = reservation_at d v lt in
      ap (has_come (names_of_numbers numbers)) (reserving_first d v item.0 item.1) ∙ among_from_Contains (item.0).name (names_of_numbers numbers) (named_from_number numbers v item.0 item.1 h)

  not_come : (numbers : List ℕ) → ((u : ℕ) → Contains numbers u → u < all_count d) → (v : ℕ) → v < all_count d → (Contains numbers v → ⊥) → has_come (names_of_numbers numbers) (reserving d v) ≡ false
  not_come numbers small v lt new = ⊎_elim
      (λ (low : v < first_count d).
      let item = reservation_at d v low in
      ap (has_come (names_of_numbers numbers)) (reserving_first d v item.0 item.1)
      ∙ false_from_ne_true (is_among (item.0).name (names_of_numbers numbers)) (λ among. new (number_from_name numbers small v item.0 item.1 (Contains-from_among (item.0).name (names_of_numbers numbers) among))))
      (λ (high : first_count d ≤ v).
      let item = class_at d v high lt in
      ap (has_come (names_of_numbers numbers)) (reserving_second d v item.0 high item.1))
      (cases_lt v (first_count d))

  module _ (file : List ℕ) (numbered : Numbered (reservations_of d) (classes_of d) 0 (first_count d) file) where
    abbrev E : ℕ → List ℕ
    E = edges d file numbered

    -- the classes among nodes come once
    record IsFresh (before nodes : List ℕ) : Type 0 where
      new : (v : ℕ) → Contains nodes v → first_count d ≤ v → Contains before v → ⊥
      once : IsOnceFrom (first_count d) nodes
      small : (v : ℕ) → Contains nodes v → v < all_count d

    once_small : (nodes : List ℕ) → ((v : ℕ) → Contains nodes v → v < first_count d) → IsOnceFrom (first_count d) nodes
    once_small [] h = none
    once_small (v ∷ nodes) h = one (λ le _. absurd (omega (arith, h v (Contains-head v nodes)))) (once_small nodes (λ w k. h w (Contains-tail v w nodes k)))

    once_tail : (v : ℕ) (nodes : List ℕ) → IsOnceFrom (first_count d) (v ∷ nodes) → (first_count d ≤ v → Contains nodes v → ⊥) × IsOnceFrom (first_count d) nodes
    once_tail v nodes (one h rest) = (h, rest)

    counted : {before nodes order : List ℕ} → Visited E before nodes order → IsFresh before nodes → ((v : ℕ) → Contains before v → v < all_count d)
        → Counted d (names_of_numbers before) (reservings d nodes) (reservings d order)
    counted ends fresh small = model.ends
    counted (came {before = before} {node = node} {nodes = nodes} there rest) fresh small = ⊎_elim
        (λ (lt : node < first_count d). model.came (come before node lt there)
        (counted rest (record {
          new = λ v h. fresh.new v (Contains-tail node v nodes h);
          once = (once_tail node nodes fresh.once).1;
          small = λ v h. fresh.small v (Contains-tail node v nodes h);
        }) small))
        (λ (le : first_count d ≤ node). absurd (fresh.new node (Contains-head node nodes) le there))
        (cases_lt node (first_count d))
    counted (comes {before = before} {node = node} {nodes = nodes} {inner = inner} {order = order} new below rest) fresh small =
        subst (Counted d (names_of_numbers before) (reserving d node ∷ reservings d nodes)) (sym (map-append (reserving d) inner (node ∷ order)))
        (model.comes (not_come before small node here new)
        (subst (λ (rs : List Reserving). Counted d (names_of_numbers before) rs (reservings d inner)) (sym named) (counted below fresh_below small))
        (subst (λ (ns : List (List ℕ)). Counted d ns (reservings d nodes) (reservings d order)) names_now (counted rest fresh_rest small_rest)))
      where
        here : node < all_count d
        here = fresh.small node (Contains-head node nodes)

        edge_low : (v : ℕ) → Contains (E node) v → v < first_count d
        edge_low v h = edge_small d file numbered node v here h

        inner_low : (v : ℕ) → Contains inner v → v < first_count d
        inner_low v h = visited_each E (λ u. u < first_count d) (λ u w lt e. edge_small d file numbered u w (omega (arith, counts d)) e) below edge_low v h

        named : named_by d (reserving d node) ≡ reservings d (E node)
        named = named_by_numbers d (reserving d node) ∙ ap (reservings d) (sym (edges_at d file numbered node here))

        fresh_below : IsFresh before (E node)
        fresh_below = record {
          new = λ v h le _. absurd (omega (arith, edge_low v h));
          once = once_small (E node) edge_low;
          small = λ v h. omega (arith, edge_low v h, counts d);
        }

        names_now : names_of_numbers (before ++ (inner ++ node ∷ [])) ≡ names_of_numbers before ++ reservation_names (reservings d inner ++ reserving d node ∷ [])
        names_now = ap reservation_names (map-append (reserving d) before (inner ++ node ∷ []) ∙ ap (λ (rs : List Reserving). reservings d before ++ rs) (map-append (reserving d) inner (node ∷ [])))
            ∙ reservation_names-append (reservings d before) (reservings d inner ++ reserving d node ∷ [])

        fresh_rest : IsFresh (before ++ (inner ++ node ∷ [])) nodes
        fresh_rest = record {
          new = λ v h le old. ⊎_elim
              (λ (k : Contains before v). fresh.new v (Contains-tail node v nodes h) le k)
              (λ (k : Contains (inner ++ node ∷ []) v). ⊎_elim
              (λ (g : Contains inner v). absurd (omega (arith, inner_low v g)))
              (λ (e : node ≡ v). (once_tail node nodes fresh.once).0 (omega arith) (subst (Contains nodes) (sym e) h))
              (Contains-push_cases inner node v k))
              (Contains-append_cases before (inner ++ node ∷ []) v old);
          once = (once_tail node nodes fresh.once).1;
          small = λ v h. fresh.small v (Contains-tail node v nodes h);
        }

        small_rest : (v : ℕ) → Contains (before ++ (inner ++ node ∷ [])) v → v < all_count d
        small_rest v h = ⊎_elim
            (λ (k : Contains before v). small v k)
            (λ (k : Contains (inner ++ node ∷ []) v). ⊎_elim
            (λ (g : Contains inner v). omega (arith, inner_low v g, counts d))
            (λ (e : node ≡ v). subst (λ (u : ℕ). u < all_count d) e here)
            (Contains-push_cases inner node v k))
            (Contains-append_cases before (inner ++ node ∷ []) v h)

    stands : Stand (reserving d) 0 (reservations_of d) × Stand (reserving d) (first_count d) (classes_of d)
    stands =
        let parts = stand_all nothing_reserved (reservations_of d) (classes_of d) in
        (parts.0, subst (λ (n : ℕ). Stand (reserving d) n (classes_of d)) (length-map d.reservations reserving_reservation) parts.1)

    fresh_file : IsFresh [] file
    fresh_file = record {
      new = λ v h le none. Contains-nil v none;
      once = file_once (first_count d) numbered (omega (arith, length-map d.reservations reserving_reservation)) (omega arith);
      small = file_small d file numbered;
    }

    -- what was left before the root, all of it
    pub order_is : (walked order : List ℕ) → IsOnce walked → walked ≡ order ++ all_count d ∷ [] → Visited E [] (all_count d ∷ []) walked → IsOrder d order
    order_is walked order once is visited =
        let root = visited_root E visited in
        let same : root.0 ≡ order = fronts_same root.0 order (sym root.1 ∙ is) in
        let inner : Visited E [] file order = subst (λ (xs : List ℕ). Visited E [] file xs) same (subst (λ (xs : List ℕ). Visited E [] xs root.0) (edges_root d file numbered) root.2) in
        record {
          counts = record { file = reservings d file; merged = file_merged (reserving d) numbered stands.0 stands.1; counted = counted inner fresh_file (λ v h. absurd (Contains-nil v h)) };
          within = λ v h. visited_each E (λ u. u < all_count d) (λ u w lt e. omega (arith, edge_small d file numbered u w lt e, counts d)) inner (file_small d file numbered) v h;
          complete = λ v lt. ⊎_elim (λ (none : Contains [] v). absurd (Contains-nil v none)) (λ (h : Contains order v). h) (visited_all E inner v (in_file d file numbered v lt));
          once = record { same = λ i j v a b. once.same i j v (subst (λ (xs : List ℕ). At xs i v) (sym is) (At-append order (all_count d ∷ []) i v a)) (subst (λ (xs : List ℕ). At xs j v) (sym is) (At-append order (all_count d ∷ []) j v b)) };
          ready = λ i v w at h.
              let low = visited_each E (λ u. u < all_count d) (λ u w lt e. omega (arith, edge_small d file numbered u w lt e, counts d)) inner (file_small d file numbered) v (Contains-from_At order i v at) in
              ⊎_elim (λ (none : Contains [] w). absurd (Contains-nil w none)) (λ (k : (j : ℕ) × (j < i) × At order j w). k)
              (visited_ready E inner i v w at (subst (λ (xs : List ℕ). Contains xs w) (sym (edges_at d file numbered v low)) h));
        }
      where
        fronts_same : (a b : List ℕ) → a ++ all_count d ∷ [] ≡ b ++ all_count d ∷ [] → a ≡ b
        fronts_same a b e = (same_from_push a b (all_count d) (all_count d) e).0
