-- Paths through the graph of a description are those by which its names lead to others.
use Rattle.std.proofs.Common.{◌≡◌, ℕ, zero, suc, ◌+◌, ◌<◌, ◌≤◌, ◌⊎◌, inl, inr, ⊎_elim, Bool, cond, List, [], ◌∷◌, ◌++◌, take, drop, Contains, Option, Some, None, refl, sym, ap, ◌∙◌, subst, arith, slice_get, get_or, eqb}
use Rattle.std.specs.Prelude.{IsSomeAnd}
use Rattle.std.specs.Option.{is_some}
use Rattle.std.proofs.lemmas.Bool.{cases_lt, eq-eqb, ne_eqb, false_from_ne_true}
use Rattle.std.proofs.lemmas.List.{drop_more, get_or_past, get_or-take, length-take-le, take-append-drop}
use Rattle.std.proofs.lemmas.Option.{slice_get_within, slice_get-get_or, get_or_from_slice_get}
use Rattle.hz_base_model.proofs.Elements.{Contains-nil}
use Rattle.hz_description_model.proofs.Check.PlaceLaws.{from_filter_map}
use Rattle.hz_description_model.proofs.Reservations.MentionLaws.{listed_from_mentions, mentions_from_listed}
use Rattle.hz_description_model.specs.Reservations.Alternatives.{Expression}
use Rattle.hz_description_model.specs.Reservations.Automata.{UnitPlace}
use Rattle.hz_description_model.specs.Check.CheckFaults.{IsCircular, IsFirst}
use Rattle.hz_description_model.specs.Check.CountingOrder.{Reserving, reservations_of, classes_of}
use Rattle.hz_description_model.specs.Reservations.NamesIn.{names_in}
use Rattle.hz_description_model.specs.Reading.Descriptions.{Description, ReservationItem}
use Rattle.hz_description_model.specs.Check.Places.{meaning, unit_or_reservation, unit_place, unit_places, reservation_named}
use Rattle.hz_description_model.specs.Reservations.Meanings.{reservation, Mentions, Reaches, mentions, through, Unwinds}
use Rattle.hz_description_model.specs.Check.Sites.{is_among}
use Rattle.hz_check_reservations.specs.Circles.{IsFirstWith}
use Rattle.hz_check_reservations.specs.Graphs.{At, IsOnce, Path, last, onward}
use Rattle.hz_check_reservations.specs.Orders.{reserving, number_of, numbers_in, Numbered, graph_of, IsOrder}
use Rattle.hz_check_reservations.proofs.ByName.{at_place, at_none, Contains-filter_map}
use Rattle.hz_check_reservations.proofs.Counting.{name_at}
use Rattle.hz_check_reservations.proofs.DescriptionNodes.{first_count, all_count, counts, reserving_first, reservation_at, numbered_item, edges, edges_at, edges_root, edge_small, file_small, graph_count}
use Rattle.hz_check_reservations.proofs.NameFacts.{AreNamed, reservation_names_of, unit_names_of, among_any, Contains-from_among, place_apart}
use Rattle.hz_check_reservations.proofs.Paths.{path_join}
use Rattle.hz_check_reservations.proofs.Places.{At_from_Contains}

-- a name that stands for a reservation has its expression
from_meaning : (a : Option UnitPlace) (b : Option ReservationItem) (e : Expression) → unit_or_reservation a b ≡ Some (reservation e) → (r : ReservationItem) × (b ≡ Some r) × (r.expression ≡ e)
from_meaning (Some u) b e h = absurd (cc)
from_meaning None (Some r) e h = (r, refl, cc)
from_meaning None None e h = absurd (cc)

module _ (d : Description) where
  -- the number of a reservation by what its name stands for
  pub record HasNumber (name : List ℕ) (e : Expression) : Type 0 where
    pub number : ℕ
    pub item : ReservationItem
    pub numbered : number_of d name ≡ Some number
    pub there : slice_get d.reservations number ≡ Some item
    pub same : item.expression ≡ e

  pub number_of_meaning : (name : List ℕ) (e : Expression) → meaning d name ≡ Some (reservation e) → HasNumber name e
  number_of_meaning name e h =
      let found = from_meaning (unit_place d name) (reservation_named d name) e h in
      by_place (number_of d name) refl found.0 found.1 found.2
    where
      by_place : (o : Option ℕ) → number_of d name ≡ o → (r : ReservationItem) → reservation_named d name ≡ Some r → r.expression ≡ e → HasNumber name e
      by_place None is r named same =
          let no : None ≡ Some r = sym (at_none name (reservation_names_of d) d.reservations (sym (among_any name (reservation_names_of d)) ∙ ap is_some is)) ∙ named in absurd (cc)
      by_place (Some v) is r named same = record { number = v; item = r; numbered = is; there = sym (at_place name v (reservation_names_of d) d.reservations is) ∙ named; same = same }

  -- what an expression mentions, by its number
  pub mentioned_number : (e : Expression) (name : List ℕ) (v : ℕ) → Mentions e name → number_of d name ≡ Some v → Contains (numbers_in d e) v
  mentioned_number e name v h is = Contains-filter_map (number_of d) (names_in e) name v (listed_from_mentions e name h) is

  -- A counting order unwinds: the rank of a reservation is its place.

  -- the place of a number
  index_of : List ℕ → ℕ → ℕ
  index_of [] v = 0
  index_of (x ∷ xs) v = cond (eqb x v) 0 (suc (index_of xs v))

  once_tail : (x : ℕ) (xs : List ℕ) → IsOnce (x ∷ xs) → IsOnce xs
  once_tail x xs once = record { same = λ i j v a b. let e = once.same (suc i) (suc j) v a b in omega arith }

  index_at : (xs : List ℕ) (i v : ℕ) → IsOnce xs → At xs i v → index_of xs v ≡ i
  unfolding index_of
  index_at [] i v once h = absurd (cc)
  index_at (x ∷ xs) zero v once h = let e : x ≡ v = cc in ap (λ (b : Bool). cond b 0 (suc (index_of xs v))) (eq-eqb x v e)
  index_at (x ∷ xs) (suc i) v once h =
      ap (λ (b : Bool). cond b 0 (suc (index_of xs v))) (ne_eqb x v (λ e. let same : 0 ≡ suc i = once.same 0 (suc i) v (ap Some e) h in absurd (omega arith)))
      ∙ ap suc (index_at xs i v (once_tail x xs once) h)

  rank_at : List ℕ → Option ℕ → ℕ
  rank_at order None = 0
  rank_at order (Some v) = suc (index_of order v)

  pub order_unwinds : (order : List ℕ) → IsOrder d order → Unwinds (meaning d)
  unfolding rank_at
  order_unwinds order o = record { rank = λ name. rank_at order (number_of d name); falls = falls }
    where
      falls : (name other : List ℕ) (e : Expression) → meaning d name ≡ Some (reservation e) → Mentions e other → rank_at order (number_of d other) < rank_at order (number_of d name)
      falls name other e h m =
          let n = number_of_meaning name e h in
          let low : n.number < all_count d = omega (arith, slice_get_within d.reservations n.number n.item n.there, counts d) in
          let place = At_from_Contains order n.number (o.complete n.number low) in
          let rank : rank_at order (number_of d name) ≡ suc place.0 = ap (rank_at order) n.numbered ∙ ap suc (index_at order place.0 n.number o.once place.1) in
          by_other (number_of d other) refl n place.0 place.1 rank
        where
          by_other : (p : Option ℕ) → number_of d other ≡ p → (n : HasNumber name e) (i : ℕ) → At order i n.number → rank_at order (number_of d name) ≡ suc i → rank_at order p < rank_at order (number_of d name)
          by_other None is n i at rank = omega (arith, rank)
          by_other (Some w) is n i at rank =
              let expression : (reserving d n.number).expression ≡ e = ap (λ (r : Reserving). r.expression) (reserving_first d n.number n.item n.there) ∙ n.same in
              let before = o.ready i n.number w at (subst (λ (x : Expression). Contains (numbers_in d x) w) (sym expression) (mentioned_number e other w m is)) in
              let index = index_at order before.0 w o.once before.2 in
              omega (arith, rank, index, before.1)

  -- Circles, where names are right.
  module _ (named : AreNamed d) (file : List ℕ) (numbered : Numbered (reservations_of d) (classes_of d) 0 (first_count d) file) where
    abbrev E : ℕ → List ℕ
    E = edges d file numbered

    -- a reservation's name stands for it
    meaning_of : (v : ℕ) (r : ReservationItem) → slice_get d.reservations v ≡ Some r → meaning d r.name ≡ Some (reservation r.expression)
    meaning_of v r h =
        let name = name_at d named.apart v r h in
        let place = place_apart (reservation_names_of d) named.apart v r.name name in
        let item : reservation_named d r.name ≡ Some r = at_place r.name v (reservation_names_of d) d.reservations place ∙ h in
        let no_unit : unit_place d r.name ≡ None = at_none r.name (unit_names_of d) (unit_places d) (sym (among_any r.name (unit_names_of d)) ∙ false_from_ne_true (is_among r.name (unit_names_of d))
        (λ among. named.no_unit r.name (Contains-from_among r.name (unit_names_of d) among)
        (v, slice_get_within (reservation_names_of d) v r.name name, get_or_from_slice_get (reservation_names_of d) v r.name r.name name))) in
        ap (λ (o : Option UnitPlace). unit_or_reservation o (reservation_named d r.name)) no_unit ∙ ap (unit_or_reservation None) item

    number_now : (v : ℕ) (r : ReservationItem) → slice_get d.reservations v ≡ Some r → number_of d r.name ≡ Some v
    number_now v r h = place_apart (reservation_names_of d) named.apart v r.name (name_at d named.apart v r h)

    -- an edge is a mention
    edge_reaches : (v w : ℕ) (r s : ReservationItem) → slice_get d.reservations v ≡ Some r → slice_get d.reservations w ≡ Some s → Contains (E v) w → Reaches (meaning d) r.name s.name
    edge_reaches v w r s at to h =
        let low : v < all_count d = omega (arith, slice_get_within d.reservations v r at, counts d) in
        let expression : (reserving d v).expression ≡ r.expression = ap (λ (x : Reserving). x.expression) (reserving_first d v r at) in
        let among : Contains (numbers_in d r.expression) w = subst (λ (x : Expression). Contains (numbers_in d x) w) expression (subst (λ (xs : List ℕ). Contains xs w) (edges_at d file numbered v low) h) in
        let found = from_filter_map (number_of d) (names_in r.expression) w among in
        let item = numbered_item d found.0 w found.2 in
        let same : Some item.0 ≡ Some s = sym item.1 ∙ to in
        let name : found.0 ≡ s.name = sym item.2 ∙ ap (λ (x : ReservationItem). x.name) (let e : item.0 ≡ s = cc in e) in
        mentions (meaning_of v r at) (subst (Mentions r.expression) name (mentions_from_listed r.expression found.0 found.1))

    path_reaches : {v w : ℕ} → Path E v w → v < first_count d → (r s : ReservationItem) → slice_get d.reservations v ≡ Some r → slice_get d.reservations w ≡ Some s → Reaches (meaning d) r.name s.name
    path_reaches {v} {w} (last e) lt r s at to = edge_reaches v w r s at to e
    path_reaches {v} {w} (onward {middle = middle} e rest) lt r s at to =
        let low : middle < first_count d = edge_small d file numbered v middle (omega (arith, counts d)) e in
        let item = reservation_at d middle low in
        through (edge_reaches v middle r item.0 at item.1 e) (path_reaches rest low item.0 s item.1 to)

    -- what a name reaches, by numbers
    pub record IsPathOf (from to : List ℕ) : Type 0 where
      number : ℕ
      numbered_from : number_of d from ≡ Some number
      path : (w : ℕ) → number_of d to ≡ Some w → Path E number w

    reaches_path : {from to : List ℕ} → Reaches (meaning d) from to → IsPathOf from to
    reaches_path {from} {to} (mentions {expression = e} h m) =
        let n = number_of_meaning from e h in
        let low : n.number < all_count d = omega (arith, slice_get_within d.reservations n.number n.item n.there, counts d) in
        let expression : (reserving d n.number).expression ≡ e = ap (λ (r : Reserving). r.expression) (reserving_first d n.number n.item n.there) ∙ n.same in
        record {
          number = n.number;
          numbered_from = n.numbered;
          path = λ w is. last (subst (λ (xs : List ℕ). Contains xs w) (sym (edges_at d file numbered n.number low)) (subst (λ (x : Expression). Contains (numbers_in d x) w) (sym expression) (mentioned_number e to w m is)));
        }
    reaches_path {from} {to} (through {middle = middle} a b) =
        let first = reaches_path a in
        let second = reaches_path b in
        record { number = first.number; numbered_from = first.numbered_from; path = λ w is. path_join E (first.path second.number second.numbered_from) (second.path w is) }

    -- a reservation is circular where its number leads to itself
    circular_from_path : (v : ℕ) (r : ReservationItem) → slice_get d.reservations v ≡ Some r → Path E v v → IsCircular d r
    circular_from_path v r at p = path_reaches p (slice_get_within d.reservations v r at) r r at at

    path_from_circular : (v : ℕ) (r : ReservationItem) → slice_get d.reservations v ≡ Some r → IsCircular d r → Path E v v
    path_from_circular v r at h =
        let p = reaches_path h in
        let is = number_now v r at in
        let same : Some p.number ≡ Some v = sym p.numbered_from ∙ is in
        subst (λ (u : ℕ). Path E u v) (let e : p.number ≡ v = cc in e) (p.path v is)

    -- the first reservation of the file that reaches itself
    pub first_circular : (i : ℕ) → IsFirstWith (λ v. Path E v v) (first_count d) (Some i) → IsSomeAnd (slice_get d.reservations i) (IsFirst (IsCircular d) d.reservations)
    first_circular i h =
        let item = reservation_at d i h.0 in
        subst (λ (o : Option ReservationItem). IsSomeAnd o (IsFirst (IsCircular d) d.reservations)) (sym item.1) (record {
          before = take i d.reservations;
          after = drop (i + 1) d.reservations;
          parts = sym (take-append-drop i d.reservations) ∙ ap (λ (xs : List ReservationItem). take i d.reservations ++ xs)
              (drop_more d.reservations i item.0 h.0 ∙ ap (λ (x : ReservationItem). x ∷ drop (i + 1) d.reservations) (get_or_from_slice_get d.reservations i item.0 item.0 item.1));
          holds = circular_from_path i item.0 item.1 h.1;
          others = λ k other low circular.
              let long = length-take-le i d.reservations (omega (arith, h.0)) in
              let below : k < i = omega arith in
              let at : slice_get d.reservations k ≡ Some (get_or (take i d.reservations) k other) = slice_get-get_or d.reservations k other (omega (arith, h.0)) ∙ ap Some (sym (get_or-take i d.reservations k other below)) in
              h.2 k below (path_from_circular k (get_or (take i d.reservations) k other) at circular);
        })

  -- what leads to itself is a reservation
  module _ (file : List ℕ) (numbered : Numbered (reservations_of d) (classes_of d) 0 (first_count d) file) where
    abbrev F : ℕ → List ℕ
    F = edges d file numbered

    around_low : (v : ℕ) → Path F v v → v < first_count d
    around_low v p = ⊎_elim
        (λ (lt : v < all_count d). stays p lt)
        (λ (le : all_count d ≤ v). absurd (not_root v le p))
        (cases_lt v (all_count d))
      where
        stays : {v w : ℕ} → Path F v w → v < all_count d → w < first_count d
        stays {v} {w} (last e) lt = edge_small d file numbered v w lt e
        stays {v} {w} (onward {middle = middle} e rest) lt = stays rest (omega (arith, edge_small d file numbered v middle lt e, counts d))

        low_from : (v w : ℕ) → all_count d ≤ v → Contains (F v) w → w < all_count d
        low_from v w le e = ⊎_elim
            (λ (same : v ≡ all_count d). file_small d file numbered w (subst (λ (xs : List ℕ). Contains xs w) (ap F same ∙ edges_root d file numbered) e))
            (λ (past : all_count d < v). absurd (Contains-nil w (subst (λ (xs : List ℕ). Contains xs w) (get_or_past (graph_of d file) v [] (omega (arith, graph_count d file numbered))) e)))
            (order_cases v le)
          where
            order_cases : (v : ℕ) → all_count d ≤ v → (v ≡ all_count d) ⊎ (all_count d < v)
            order_cases v le = ⊎_elim (λ (lt : all_count d < v). inr lt) (λ (ge : v ≤ all_count d). inl (omega arith)) (cases_lt (all_count d) v)

        not_root : (v : ℕ) → all_count d ≤ v → Path F v v → ⊥
        not_root v le (last e) = absurd (omega (arith, low_from v v le e))
        not_root v le (onward {middle = middle} e rest) = absurd (omega (arith, stays rest (low_from v middle le e), counts d))

    -- where some node leads to itself, a reservation does
    pub some_circular : (v : ℕ) → Path F v v → IsFirstWith (λ u. Path F u u) (first_count d) None → ⊥
    some_circular v p none = none v (around_low v p) p
