-- Tables of units and reservations, as they come.
use Rattle.std.proofs.Common.{◌≡◌, ℕ, ◌+◌, ◌<◌, ◌≤◌, inl, ⊎_elim, true, false, List, [], ◌∷◌, ◌++◌, map, length, get_or, take, Contains, Option, Some, None, refl, sym, ap, ◌∙◌, subst, arith, slice_get}
use Rattle.std.specs.Prelude.{IsTrue}
use Rattle.std.specs.Option.{option_map}
use Rattle.std.proofs.lemmas.List.{take_more, take_all, length-map}
use Rattle.std.proofs.lemmas.List.Elements.{Contains-append_left, Contains-push, Contains-push_cases}
use Rattle.std.proofs.lemmas.Option.{slice_get-map, slice_get-get_or, slice_get_read, slice_get_within, get_or_from_slice_get}
use Rattle.hz_altern.specs.Tables.{Adds, AreRight, is_held}
use Rattle.hz_check_reservations.specs.Tables.{unit_names, reservation_names, IsAfter, Holds, HasExtent, HasAlternatives}
use Rattle.hz_check_reservations.proofs.Holding.{holds_more, holds_same, all_held, right_extents, some_of_extents}
use Rattle.hz_check_reservations.proofs.Names.{name_there, reservation_extent, reservation_list}
use Rattle.hz_check_reservations.proofs.Ordered.{at_from_take, IsReservationAt, IsClassAt, reservation_or_class, written, in_all, names_before, fresh_name, after_more, after_kept, after_here, after_class}
use Rattle.hz_description_model.specs.Reservations.Alternatives.{Alternative, Expression, alternatives_of}
use Rattle.hz_description_model.specs.Reservations.AlternativeLists.{Extent, extent_of}
use Rattle.hz_description_model.specs.Reservations.Automata.{UnitPlace, listed}
use Rattle.hz_description_model.specs.Check.CheckFaults.{faults_of_names}
use Rattle.hz_description_model.specs.Check.CountingOrder.{Reserving}
use Rattle.hz_description_model.specs.Check.FirstReported.{first_reported}
use Rattle.hz_description_model.specs.Reading.Descriptions.{Description, UnitItem}
use Rattle.hz_description_model.specs.Reading.DescriptionShape.{IsCheckable}
use Rattle.hz_description_model.specs.Reservations.Expressions.{is_expression}
use Rattle.hz_description_model.specs.Check.Places.{IsKnown, Known}
use Rattle.hz_description_model.specs.Reservations.Meanings.{Mentions}
use Rattle.hz_base_model.proofs.Elements.{Contains-nil}
use Rattle.hz_description_model.specs.Reservations.NamesIn.{all_names}
use Rattle.hz_check_reservations.specs.Graphs.{At}
use Rattle.hz_check_reservations.specs.Orders.{all_of, reserving, IsOrder}
use Rattle.hz_check_reservations.proofs.NameFacts.{are_named}
use Rattle.hz_check_reservations.proofs.Places.{Contains-from_At}

-- an item that the code holds
pub stored_at : {A B : Type 0} (f : A → B) (slice items : List A) (i : ℕ) (x : A) → slice ≡ items → i < length slice → x ≡ get_or slice i x → slice_get (map f items) i ≡ Some (f x)
stored_at {A} f slice items i x same lt is = ap (λ (xs : List A). slice_get (map f xs) i) (sym same) ∙ (slice_get-map f slice i ∙ ap (option_map f) (slice_get_read slice (length slice) i x refl lt is))

-- a number that the order holds
pub at_read : (order : List ℕ) (i : ℕ) → i < length order → At order i (get_or order i 0)
at_read order i lt = slice_get-get_or order i 0 lt

module _ {A : Type 0} (P : List ℕ → A → Type 0) (d : Description) (reported : first_reported (faults_of_names d) ≡ None) (formed : IsCheckable d) where
  unit_at : (i : ℕ) (u : UnitItem) → slice_get d.units i ≡ Some u → slice_get (unit_names d) i ≡ Some u.name
  unit_at i u there = slice_get-map (λ (u : UnitItem). u.name) d.units i ∙ ap (option_map (λ (u : UnitItem). u.name)) there

  -- no earlier unit has the name
  pub unit_fresh : (i : ℕ) (u : UnitItem) (table : List ℕ → Option A) → slice_get d.units i ≡ Some u → Holds P (Contains (take i (unit_names d))) table → table u.name ≡ None
  unit_fresh i u table there h = h.only u.name (λ before.
      let found = at_from_take (unit_names d) i u.name before in
      let same : found.0 ≡ i = ((are_named d reported formed).units_apart).same found.0 i u.name found.2 (unit_at i u there) in
      absurd (omega (arith, found.1)))

  -- one unit more
  pub unit_more : (i : ℕ) (u : UnitItem) (x : A) (old new : List ℕ → Option A) → slice_get d.units i ≡ Some u → Adds old new u.name x → P u.name x
      → Holds P (Contains (take i (unit_names d))) old → Holds P (Contains (take (i + 1) (unit_names d))) new
  unit_more i u x old new there adds given h =
      let name = unit_at i u there in
      let next : take (i + 1) (unit_names d) ≡ take i (unit_names d) ++ u.name ∷ [] = take_more (unit_names d) i [] (slice_get_within (unit_names d) i u.name name)
      ∙ ap (λ (n : List ℕ). take i (unit_names d) ++ n ∷ []) (get_or_from_slice_get (unit_names d) i u.name [] name) in
      holds_more P (Contains (take i (unit_names d))) (Contains (take (i + 1) (unit_names d))) old new u.name x
      (λ other k. Contains-push_cases (take i (unit_names d)) u.name other (subst (λ (xs : List (List ℕ)). Contains xs other) next k))
      (λ other k. subst (λ (xs : List (List ℕ)). Contains xs other) (sym next) (⊎_elim
      (λ (old : Contains (take i (unit_names d)) other). Contains-append_left (take i (unit_names d)) (u.name ∷ []) other old)
      (λ (e : u.name ≡ other). subst (λ (n : List ℕ). Contains (take i (unit_names d) ++ u.name ∷ []) n) e (Contains-push (take i (unit_names d)) u.name))
      k))
      h adds given

  pub units_all : (i : ℕ) (table : List ℕ → Option A) → length d.units ≤ i → Holds P (Contains (take i (unit_names d))) table → Holds P (Contains (unit_names d)) table
  units_all i table le h = subst (λ (xs : List (List ℕ)). Holds P (Contains xs) table) (take_all i (unit_names d) (omega (arith, length-map d.units (λ (u : UnitItem). u.name)))) h

  module _ (order : List ℕ) (ordered : IsOrder d order) where
    -- no reservation has come
    pub none_after : (table : List ℕ → Option A) → Holds P (Contains (unit_names d)) table → Holds P (IsAfter d (take 0 order)) table
    none_after table h = holds_same P (Contains (unit_names d)) (IsAfter d (take 0 order)) table
        (λ name m. ⊎_elim (λ (u : Contains (unit_names d) name). u) (λ (q : (k : ℕ) × Contains (take 0 order) k × (slice_get (reservation_names d) k ≡ Some name)). absurd (Contains-nil q.0 q.1)) m)
        (λ name u. inl u) h

    -- all have come
    pub all_after : (i : ℕ) (table : List ℕ → Option A) → length order ≤ i → Holds P (IsAfter d (take i order)) table → Holds P (IsAfter d order) table
    all_after i table le h = subst (λ (xs : List ℕ). Holds P (IsAfter d xs) table) (take_all i order le) h

    module _ (i number : ℕ) (at : At order i number) (q : Reserving) (is : q ≡ reserving d number) where
      within : number < length (all_of d)
      within = ordered.within number (Contains-from_At order i number at)

      -- what stands there can be written, and names what has come
      pub formed_there : IsTrue (is_expression q.expression)
      formed_there = subst (λ (r : Reserving). IsTrue (is_expression r.expression)) (sym is) (written d reported formed order ordered (reserving d number) (in_all d reported formed order ordered number within))

      pub names_there : (name : List ℕ) → Mentions q.expression name → IsAfter d (take i order) name
      names_there name m = names_before d reported formed order ordered i number at name (subst (λ (r : Reserving). Mentions r.expression name) is m)

      pub held_there : (table : List ℕ → Option A) → Holds P (IsAfter d (take i order)) table → IsTrue (all_names (is_held table) q.expression)
      held_there table h = all_held P (IsAfter d (take i order)) table h q.expression names_there

      -- the reservation that stands there, if it is one
      pub reservation_there : q.is_class ≡ false → IsReservationAt d number
      reservation_there plain = ⊎_elim
          (λ (r : IsReservationAt d number). r)
          (λ (c : IsClassAt d number). let class : q.is_class ≡ true = ap (λ (r : Reserving). r.is_class) (is ∙ c.is) in absurd (cc))
          (reservation_or_class d number within)

      past_there : q.is_class ≡ true → length d.reservations ≤ number
      past_there class = ⊎_elim
          (λ (r : IsReservationAt d number). let plain : q.is_class ≡ false = ap (λ (r : Reserving). r.is_class) (is ∙ r.is) in absurd (cc))
          (λ (c : IsClassAt d number). c.past)
          (reservation_or_class d number within)

      site_there : (r : IsReservationAt d number) → (q.site).name ≡ (r.item).name
      site_there r = ap (λ (s : Reserving). (s.site).name) (is ∙ r.is)

      here : (r : IsReservationAt d number) → slice_get (reservation_names d) number ≡ Some (q.site).name
      here r = name_there d reported formed number r.item r.there ∙ ap Some (sym (site_there r))

      pub fresh_there : (table : List ℕ → Option A) → Holds P (IsAfter d (take i order)) table → q.is_class ≡ false → table (q.site).name ≡ None
      fresh_there table h plain = h.only (q.site).name (fresh_name d reported formed order ordered i number (q.site).name at (here (reservation_there plain)))

      -- one reservation more
      pub reservation_more : (x : A) (old new : List ℕ → Option A) → q.is_class ≡ false → Adds old new (q.site).name x → P (q.site).name x
          → Holds P (IsAfter d (take i order)) old → Holds P (IsAfter d (take (i + 1) order)) new
      reservation_more x old new plain adds given h =
          let name = here (reservation_there plain) in
          holds_more P (IsAfter d (take i order)) (IsAfter d (take (i + 1) order)) old new (q.site).name x
          (λ other k. after_more d reported formed order ordered i number (q.site).name at name other k)
          (λ other k. ⊎_elim
          (λ (b : IsAfter d (take i order) other). after_kept d reported formed order ordered i number other at b)
          (λ (e : (q.site).name ≡ other). after_here d reported formed order ordered i number (q.site).name other at name e)
          k)
          h adds given

      -- a class
      pub class_more : (table : List ℕ → Option A) → q.is_class ≡ true → Holds P (IsAfter d (take i order)) table → Holds P (IsAfter d (take (i + 1) order)) table
      class_more table class h = holds_same P (IsAfter d (take i order)) (IsAfter d (take (i + 1) order)) table
          (λ other k. after_class d reported formed order ordered i number other at (past_there class) k)
          (λ other k. after_kept d reported formed order ordered i number other at k) h

module _ (d : Description) (reported : first_reported (faults_of_names d) ≡ None) (formed : IsCheckable d) (order : List ℕ) (ordered : IsOrder d order) (i number : ℕ) (at : At order i number) (q : Reserving) (is : q ≡ reserving d number) where
  -- the extent that is counted is that of the reservation's name
  pub extent_there : (table : List ℕ → Option Extent) (x : Extent) → Holds (HasExtent d) (IsAfter d (take i order)) table → q.is_class ≡ false
      → ((known : Known) → AreRight table known q.expression → x ≡ extent_of (alternatives_of known q.expression)) → HasExtent d (q.site).name x
  extent_there table x h plain counted =
      let r = reservation_there (HasExtent d) d reported formed order ordered i number at q is plain in
      let name : (q.site).name ≡ (r.item).name = ap (λ (s : Reserving). (s.site).name) (is ∙ r.is) in
      let same : q.expression ≡ (r.item).expression = ap (λ (s : Reserving). s.expression) (is ∙ r.is) in
      let names = names_there (HasExtent d) d reported formed order ordered i number at q is in
      let written = formed_there (HasExtent d) d reported formed order ordered i number at q is in
      subst (λ (n : List ℕ). HasExtent d n x) (sym name) (reservation_extent d reported formed number r.item x r.there
      (λ known right. counted known (right_extents d (IsAfter d (take i order)) known right table h q.expression names) ∙ ap (λ (e : Expression). extent_of (alternatives_of known e)) same)
      (λ known right. subst (λ (e : Expression). 0 < length (alternatives_of known e)) same (some_of_extents d (IsAfter d (take i order)) known right table h q.expression written names)))

  -- so are the alternatives that are listed
  pub list_there : (xs : List (Alternative UnitPlace)) → q.is_class ≡ false → ((known : Known) → IsKnown d known → xs ≡ map listed (alternatives_of known q.expression)) → HasAlternatives d (q.site).name xs
  list_there xs plain are =
      let r = reservation_there (HasAlternatives d) d reported formed order ordered i number at q is plain in
      let name : (q.site).name ≡ (r.item).name = ap (λ (s : Reserving). (s.site).name) (is ∙ r.is) in
      let same : q.expression ≡ (r.item).expression = ap (λ (s : Reserving). s.expression) (is ∙ r.is) in
      subst (λ (n : List ℕ). HasAlternatives d n xs) (sym name) (reservation_list d reported formed number r.item xs r.there
      (λ known right. are known right ∙ ap (λ (e : Expression). map listed (alternatives_of known e)) same))
