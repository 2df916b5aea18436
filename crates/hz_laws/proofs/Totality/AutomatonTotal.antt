-- Every pipeline whose reached states are no more than a number has an automaton, whose grids ascend.
use Rattle.std.proofs.Common.{◌==◌, ◌≡◌, ℕ, suc, ◌+◌, ◌<◌, ◌≤◌, inl, inr, ⊎_elim, true, List, [], ◌∷◌, ◌++◌, length, map, get_or, All, Option, Some, None, Contains, refl, sym, ap, ◌∙◌, subst, append_assoc, arith}
use Rattle.std.specs.Prelude.{◌↔◌, IsSome, is_some}
use Rattle.std.specs.List.{AllPairs, sum_by}
use Rattle.std.proofs.lemmas.Bool.{cases_lt}
use Rattle.std.proofs.lemmas.List.{append-nil, length-map, get_or_default}
use Rattle.std.proofs.lemmas.List.Elements.{All-head, All-tail, Contains-get_or, Contains-append_left, Contains-append_right, Contains-append_cases}
use Rattle.std.proofs.lemmas.Option.{none-some}
use Rattle.hz_base_model.specs.Pairs.{Pair, SamePairs, ascending_by, IsAscendingBy}
use Rattle.hz_base_model.proofs.Ascending.{AllPairs-map}
use Rattle.hz_base_model.proofs.Elements.{Contains-nil, Contains-head, Contains-tail, Contains-cons_cases, Contains-map, Contains-from_map}
use Rattle.hz_pipeline_model.specs.Accepting.Events.{Event}
use Rattle.hz_pipeline_model.specs.Accepting.Plays.{accepts}
use Rattle.hz_pipeline_model.specs.Accepting.Replay.{Pipeline, Accepted, start, alternatives_at}
use Rattle.hz_pipeline_model.proofs.Accepting.AcceptanceLaws.{advance_accepted}
use Rattle.hz_pipeline_model.proofs.Accepting.PlayLaws.{accepts_decides}
use Rattle.hz_pipeline_model.proofs.Accepting.ReplayLaws.{accepted_from_runs}
use Rattle.hz_pipeline_model.proofs.Accepting.Rows.{numbers_tell}
use Rattle.hz_pipeline_model.specs.Tables.Tables.{Table, entry, walk, IsTable}
use Rattle.hz_pipeline_model.proofs.Tables.TableLaws.{breadth_first_reached}
use Rattle.hz_pipeline_model.specs.Reaching.Built.{IsAutomaton, grid_at, set_at, state_at}
use Rattle.hz_pipeline_model.specs.Reaching.Columns.{AreColumns, event_at, events_at}
use Rattle.hz_pipeline_model.proofs.Reaching.Spelling.{spelled}
use Rattle.hz_pipeline_model.specs.Reaching.Counts.{CountIsAtMost}
use Rattle.hz_pipeline_model.specs.Reaching.Counts as count
use Rattle.hz_pipeline_model.specs.Reaching.Reach.{AreDifferent, Leaves, IsLeft, IsReachedGrid, SameGrids}
use Rattle.hz_pipeline_model.proofs.Reaching.AutomatonLaws.{leaves_of_accepted, accepted_of_leaves}
use Rattle.hz_pipeline_model.proofs.Reaching.CountLaws.{weighs, sum_by_ones, same_pairs_then}
use Rattle.hz_pipeline_model.proofs.Reaching.WordLaws.{event_of_advance, spelled_columns, leaves_spelled, leaves_from_spelled, inside_of_leaves}
use Rattle.hz_pipeline_model.proofs.Decidable.DecidedLaws.{IsDecided, low_reported}
use Rattle.hz_laws.proofs.Leaving.ListingLaws.{reported_by, pairs_reported}
use Rattle.hz_laws.proofs.Leaving.ExploreLaws.{some_is_reported}
use Rattle.hz_laws.proofs.Leaving.OnwardLaws.{leaves_alike}
use Rattle.hz_laws.proofs.Leaving.StateCounts.{grids_itself, grids_joined, same_left, same_grids_reported, left_of, is_left, forth, back, more_alike, accepted_front}
use Rattle.hz_laws.proofs.Totality.AscendingLists.{IsListed, IsBelow, AreBelow, grids_listed, below_once, numbers_listed}
use Rattle.hz_laws.proofs.Totality.NumberingLaws.{Numbered, finished, all_led, all_different, some_is}
use Rattle.hz_laws.proofs.Totality.NumberedTables.{Alike, Stands, run, listed_values, IsNumberedTable, some_table, all_items, walked_at, some_alike, entry_row}
use Rattle.hz_base_model.proofs.PairOrder.{IsAscending-ascending, same_ascending, grid_one}
use Rattle.std.specs.Ordering.{nat_cmp}
use Rattle.std.specs.FinMap.{nat_cmp-IsAntisymmetric}
use Rattle.std.proofs.lemmas.Cmp.{nat_cmp_total}

-- an item, if both hold
abbrev taken : {A B X : Type 0} → IsDecided A → IsDecided B → X → Option X
taken (inl a) (inl b) x = Some x
taken (inl a) (inr none) x = None
taken (inr none) b x = None

module _ {A B X : Type 0} where
  taken_some : (p : IsDecided A) (q : IsDecided B) (x : X) → A → B → taken p q x ≡ Some x
  taken_some (inl a) (inl b) x is also = refl
  taken_some (inl a) (inr none) x is also = absurd (none also)
  taken_some (inr none) q x is also = absurd (none is)

  taken_is : (p : IsDecided A) (q : IsDecided B) (x y : X) → taken p q x ≡ Some y → B × (x ≡ y)
  taken_is (inl a) (inl b) x y e = (b, some_is x y e)
  taken_is (inl a) (inr none) x y e = absurd (none-some y e)
  taken_is (inr none) q x y e = absurd (none-some y e)

  taken_none : (p : IsDecided A) (q : IsDecided B) (x : X) → (A → ⊥) → taken p q x ≡ None
  taken_none (inl a) q x not = absurd (not a)
  taken_none (inr none) q x not = refl

module _ (m : Pipeline ℕ) (columns : ℕ) where
  abbrev left : List Event → List (List (Pair ℕ))
  left t = left_of ◌==◌ numbers_tell m t

  left_is : (t : List Event) → IsLeft m t (left t)
  left_is t = is_left ◌==◌ numbers_tell m t

  -- events that leave the same
  abbrev Same : List Event → List Event → Type 0
  Same t v = SameGrids (left t) (left v)

  reported : (t v : List Event) → IsDecided (Same t v)
  reported t v = same_grids_reported ◌==◌ numbers_tell m (left t) (left v)

  itself : (t : List Event) → Same t t
  itself t = grids_itself (left t)

  turned : (t v : List Event) → Same t v → Same v t
  turned t v same = record { there = same.back; back = same.there }

  joined : (t v w : List Event) → Same t v → Same v w → Same t w
  joined t v w one other = grids_joined (left t) (left v) (left w) one other

  abbrev more : ℕ → List Event → List Event
  more c t = t ++ event_at columns c ∷ []

  accepted_reported : (t : List Event) → IsDecided (Accepted m t)
  accepted_reported t = reported_by (accepts ◌==◌ m t) (accepts_decides ◌==◌ numbers_tell m t)

  -- what is accepted with the event of one column more
  next : ℕ → List Event → Option (List Event)
  next c t = taken (low_reported c columns) (accepted_reported (more c t)) (more c t)

  next_some : (c : ℕ) (t : List Event) → c ≤ columns → Accepted m (more c t) → next c t ≡ Some (more c t)
  unfolding next
  next_some c t low accepted = taken_some (low_reported c columns) (accepted_reported (more c t)) (more c t) low accepted

  next_is : (c : ℕ) (t v : List Event) → next c t ≡ Some v → Accepted m (more c t) × (more c t ≡ v)
  unfolding next
  next_is c t v e = taken_is (low_reported c columns) (accepted_reported (more c t)) (more c t) v e

  past : (c : ℕ) (t : List Event) → columns < c → next c t ≡ None
  unfolding next
  past c t high = taken_none (low_reported c columns) (accepted_reported (more c t)) (more c t) (λ low. omega (arith, low, high))

  -- where the same is left, the same is accepted next, and leaves the same
  more_accepted : (t v : List Event) → Same t v → (c : ℕ) → Accepted m (more c t) → Accepted m (more c v)
  more_accepted t v same c accepted =
      let some = leaves_of_accepted m (more c t) accepted in
      accepted_of_leaves m (more c v) some.0 (more_alike ◌==◌ numbers_tell m t v (event_at columns c) (forth ◌==◌ numbers_tell m t v same) some.0 some.1)

  more_same : (t v : List Event) → Same t v → (c : ℕ) → Same (more c t) (more c v)
  more_same t v same c =
      same_left m (more c t) (more c v) (left (more c t)) (left (more c v)) (left_is (more c t)) (left_is (more c v))
      (more_alike ◌==◌ numbers_tell m t v (event_at columns c) (forth ◌==◌ numbers_tell m t v same))
      (more_alike ◌==◌ numbers_tell m v t (event_at columns c) (back ◌==◌ numbers_tell m t v same))

  alike : (t v : List Event) → Same t v → (c : ℕ) → Alike Same (next c t) (next c v)
  alike t v same c = ⊎_elim
      (λ (low : c ≤ columns). by_next low (next c t) (next c v) refl refl)
      (λ (high : c ≤ columns → ⊥).
      let out : columns < c = ⊎_elim (λ (more : columns < c). more) (λ (few : c ≤ columns). absurd (high few)) (cases_lt columns c) in
      subst (λ o. Alike Same o (next c v)) (sym (past c t out)) (subst (Alike Same None) (sym (past c v out)) tt))
      (low_reported c columns)
    where
      by_next : c ≤ columns → (o p : Option (List Event)) → next c t ≡ o → next c v ≡ p → Alike Same o p
      by_next low None None e f = tt
      by_next low None (Some y) e f = none-some (more c t) (sym e ∙ next_some c t low (more_accepted v t (turned t v same) c (next_is c v y f).0))
      by_next low (Some x) None e f = none-some (more c v) (sym f ∙ next_some c v low (more_accepted t v same c (next_is c t x e).0))
      by_next low (Some x) (Some y) e f = subst (λ z. Same z y) (next_is c t x e).1 (subst (Same (more c t)) (next_is c v y f).1 (more_same t v same c))

  begun : Accepted m []
  begun = accepted_from_runs m [] (start, refl)

  accepted_more : (t v : List Event) (c : ℕ) → c ≤ columns → Accepted m t → next c t ≡ Some v → Accepted m v
  accepted_more t v c low accepted e = let found = next_is c t v e in subst (Accepted m) found.1 found.0

  -- what is led to by columns
  run_events : (w : List ℕ) → AreColumns columns w → (t : List Event) → Accepted m (t ++ events_at columns w) → run next (Some t) w ≡ Some (t ++ events_at columns w)
  run_events [] are t accepted = ap Some (sym (append-nil t))
  run_events (c ∷ w) are t accepted =
      let regrouped = append_assoc t (event_at columns c ∷ []) (events_at columns w) in
      let all : Accepted m (more c t ++ events_at columns w) = subst (Accepted m) (sym regrouped) accepted in
      let first = next_some c t (All-head (λ (k : ℕ). k ≤ columns) c w are) (accepted_front ◌==◌ numbers_tell m (more c t) (events_at columns w) all) in
      ap (λ o. run next o w) first
      ∙ (run_events w (All-tail (λ (k : ℕ). k ≤ columns) c w are) (more c t) all ∙ ap Some regrouped)

  run_is : (w : List ℕ) (t v : List Event) → Accepted m t → run next (Some t) w ≡ Some v → Accepted m v × (t ++ events_at columns w ≡ v)
  run_is [] t v accepted e = let same = some_is t v e in (subst (Accepted m) same accepted, append-nil t ∙ same)
  run_is (c ∷ w) t v accepted e = by_next (next c t) refl e (λ u is led. run_is w u v is led)
    where
      by_next : (o : Option (List Event)) → next c t ≡ o → run next o w ≡ Some v → ((u : List Event) → Accepted m u → run next (Some u) w ≡ Some v → Accepted m v × (u ++ events_at columns w ≡ v)) → Accepted m v × (t ++ events_at columns (c ∷ w) ≡ v)
      by_next None f led rest = absurd (none-some v led)
      by_next (Some u) f led rest =
          let found = next_is c t u f in
          let end = rest u (subst (Accepted m) found.1 found.0) led in
          (end.0, sym (append_assoc t (event_at columns c ∷ []) (events_at columns w)) ∙ (ap (λ x. x ++ events_at columns w) found.1 ∙ end.1))

  abbrev Words : ℕ → ℕ → Type 0
  Words row column = Numbered Same columns next [] row column

  few_words : (n : ℕ) → CountIsAtMost m columns count.states n → (row : ℕ) (s : Words row 0) → length s.items ≤ n
  few_words n most row s =
      let states = map left s.items in
      let less : sum_by (λ _. 1) states ≤ sum_by (λ _. 1) most.items =
      weighs SameGrids (λ _. 1) (λ x x' y one other. grids_joined x y x' one (record { there = other.back; back = other.there })) states most.items
      (AllPairs-map (λ t v. Same t v → ⊥) (λ x y. SameGrids x y → ⊥) left (λ t v none same. none same) [] s.items (all_different Same columns next [] row 0 s))
      (λ x is.
      let (t, (k, low, at), same) = Contains-from_map left s.items x is in
      let accepted : Accepted m (get_or s.items k []) = all_led Same columns next [] (Accepted m) begun accepted_more row 0 s (suc k) k (omega arith) low in
      let here : Accepted m t = subst (Accepted m) (get_or_default s.items k [] t low ∙ at) accepted in
      most.all x (t, here, subst (IsLeft m t) same (left_is t)))
      (λ x y is same. omega arith) in
      let all = most.most in
      omega (arith, less, all, sum_by_ones states, sum_by_ones most.items, length-map s.items left)

  -- the grids that some of these events leave
  gathered : (ts : List (List Event)) → (gs : List (List (Pair ℕ))) × ((t : List Event) (g : List (Pair ℕ)) → Contains ts t → Contains (left t) g → (x : List (Pair ℕ)) × Contains gs x × IsAscendingBy nat_cmp x × SamePairs x g) × ((x : List (Pair ℕ)) → Contains gs x → IsAscendingBy nat_cmp x × ((t : List Event) × Contains ts t × ((g : List (Pair ℕ)) × Contains (left t) g × SamePairs x g)))
  gathered [] = ([], λ t g h k. absurd (Contains-nil t h), λ x h. absurd (Contains-nil x h))
  gathered (t ∷ ts) =
      let (gs, all, only) = gathered ts in
      let here = map plain (left t) in (
        here ++ gs,
        λ v g h k. ⊎_elim
            (λ (e : t ≡ v). (plain g, Contains-append_left here gs (plain g) (Contains-map plain (left t) g (subst (λ u. Contains (left u) g) (sym e) k)), plain_ascends g, plain_same g))
            (λ (there : Contains ts v). let found = all v g there k in (found.0, Contains-append_right here gs found.0 found.1, found.2, found.3))
            (Contains-cons_cases t v ts h),
        λ x h. ⊎_elim
            (λ (k : Contains here x).
            let (g, there, same) = Contains-from_map plain (left t) x k in (
              subst (IsAscendingBy nat_cmp) same (plain_ascends g),
              (t, Contains-head t ts, (g, there, subst (λ y. SamePairs y g) same (plain_same g))),
            ))
            (λ (k : Contains gs x). let (up, (v, there, found)) = only x k in (up, (v, Contains-tail t v ts there, found)))
            (Contains-append_cases here gs x h),
      )
    where
      plain : List (Pair ℕ) → List (Pair ℕ)
      plain = ascending_by nat_cmp

      plain_ascends : (g : List (Pair ℕ)) → IsAscendingBy nat_cmp (plain g)
      plain_ascends = IsAscending-ascending nat_cmp nat_cmp_total nat_cmp-IsAntisymmetric

      plain_same : (g : List (Pair ℕ)) → SamePairs (plain g) g
      plain_same = same_ascending nat_cmp nat_cmp_total nat_cmp-IsAntisymmetric

  module _ (none : (k : ℕ) → columns ≤ k → alternatives_at m k ≡ []) (table : Table) (items : List (List Event)) (places : List (ℕ × ℕ)) (numbers : IsNumberedTable Same columns next [] table items places) where
    abbrev IsAt : Option (List Event) → Option ℕ → Type 0
    IsAt o p = Stands Same [] items (length table) o p

    abbrev item : ℕ → List Event
    item k = get_or items k []

    accepted_item : (k : ℕ) → k < length table → Accepted m (item k)
    accepted_item k low = all_items Same columns next [] table items places numbers (Accepted m) begun accepted_more (suc k) k (omega arith) low

    walked : (w : List ℕ) → IsAt (run next (Some []) w) (walk table (Some 0) w)
    walked w = walked_at Same joined columns next [] past alike table items places numbers w (Some []) (Some 0) (numbers.some, subst (Same []) (sym numbers.first) (itself []))

    both_some : (w : List ℕ) → is_some (run next (Some []) w) ≡ is_some (walk table (Some 0) w)
    both_some w = some_alike Same joined columns next [] past alike table items places numbers (run next (Some []) w) (walk table (Some 0) w) (walked w)

    some_of : {X : Type 0} (o : Option X) → is_some o ≡ true → (x : X) × (o ≡ Some x)
    some_of None e = absurd (cc)
    some_of (Some x) e = (x, refl)

    walks : (w : List ℕ) → AreColumns columns w → IsSome (walk table (Some 0) w) ↔ Accepted m (events_at columns w)
    walks w are = (
      λ h.
          let (v, e) = some_of (run next (Some []) w) (both_some w ∙ h) in
          let found = run_is w [] v begun e in
          subst (Accepted m) (sym found.1) found.0,
      λ h. sym (both_some w) ∙ ap is_some (run_events w are [] h),
    )

    -- where a list of columns ends, and what its events leave
    ends : (w : List ℕ) (state : ℕ) → AreColumns columns w → walk table (Some 0) w ≡ Some state → (state < length table) × Same (events_at columns w) (item state)
    ends w state are e =
        let some : is_some (run next (Some []) w) ≡ true = both_some w ∙ ap is_some e in
        let (v, f) = some_of (run next (Some []) w) some in
        let found = run_is w [] v begun f in
        let at : IsAt (Some v) (Some state) = subst (λ o. IsAt o (Some state)) f (subst (IsAt (run next (Some []) w)) e (walked w)) in
        (at.0, subst (λ t. Same t (item state)) (sym found.1) at.1)

    targets : (state column to : ℕ) → entry table state column ≡ Some to → to < length table
    targets = entry_row Same joined columns next [] past alike table items places numbers

    advances : (state : ℕ) → state < length table → entry table state columns ≡ None → ⊥
    advances state low e =
        let there : Accepted m (more columns (item state)) = subst (λ v. Accepted m (item state ++ v ∷ [])) (sym (event_of_advance columns)) (advance_accepted m (item state) 1 (accepted_item state low)) in
        let led = next_some columns (item state) (omega arith) there in
        subst (λ o. IsAt o None) led (subst (IsAt (next columns (item state))) e (numbers.entries state columns low (omega arith)))

    shape : IsTable table columns
    shape = record { start = numbers.some; width = numbers.width; targets = targets; advances = advances }

    -- an item has its place
    placed : (t : List Event) → Contains items t → (k : ℕ) × (k < length table) × (item k ≡ t)
    placed t (k, low, at) = let each = numbers.each in (k, omega (arith, low, each), get_or_default items k [] t low ∙ at)

    module _ (gs : List (List (Pair ℕ))) (gather : (t : List Event) (g : List (Pair ℕ)) → Contains items t → Contains (left t) g → (x : List (Pair ℕ)) × Contains gs x × IsAscendingBy nat_cmp x × SamePairs x g) (only : (x : List (Pair ℕ)) → Contains gs x → IsAscendingBy nat_cmp x × ((t : List Event) × Contains items t × ((g : List (Pair ℕ)) × Contains (left t) g × SamePairs x g)))
        (grids : List (List (Pair ℕ))) (listed : IsListed IsBelow gs grids) where
      reached : (x : List (Pair ℕ)) → Contains grids x → IsReachedGrid m x
      reached x h =
          let (up, (t, there, (g, in_left, same))) = only x (listed.only x h) in
          (t, leaves_alike m t g x same ((left_is t).only g in_left))

      ascending_grids : All (IsAscendingBy nat_cmp) grids
      ascending_grids i d low = (only (get_or grids i d) (listed.only (get_or grids i d) (Contains-get_or grids i d low))).0

      once : AreDifferent SamePairs grids
      once i j d less low same =
          below_once (get_or grids i d) (get_or grids j d) (listed.up i j d less low)
          (grid_one (get_or grids i d) (get_or grids j d) (ascending_grids i d (omega (arith, less, low))) (ascending_grids j d low) same)

      -- what an item leaves is a grid of them
      grid_of : (k : ℕ) → k < length table → (g : List (Pair ℕ)) → Contains (left (item k)) g → (n : ℕ) × (n < length grids) × SamePairs (grid_at grids n) g
      grid_of k low g h =
          let each = numbers.each in
          let (x, there, up, same) = gather (item k) g (Contains-get_or items k [] (omega (arith, low, each))) h in
          let (n, inside, at) = listed.all x there in
          (n, inside, subst (λ y. SamePairs y g) (sym (get_or_default grids n [] x inside ∙ at)) same)

      -- each accepted list of events leaves what some item leaves
      item_of : (t : List Event) → Accepted m t → (k : ℕ) × (k < length table) × Same t (item k)
      item_of t accepted =
          let some = leaves_of_accepted m t accepted in
          let inside = inside_of_leaves m columns none t some.0 some.1 in
          let w = spelled columns t in
          let are = spelled_columns columns t inside in
          let spelt = accepted_of_leaves m (events_at columns w) some.0 (leaves_spelled m columns none t some.0 some.1) in
          let (state, e) = some_of (walk table (Some 0) w) ((walks w are).1 spelt) in
          let end = ends w state are e in (
            state,
            end.0,
            joined t (events_at columns w) (item state)
                (same_left m t (events_at columns w) (left t) (left (events_at columns w)) (left_is t) (left_is (events_at columns w)) (leaves_spelled m columns none t) (λ grid leaves. leaves_from_spelled m columns none t grid inside leaves))
                end.1,
          )

      all_grids : (grid : List (Pair ℕ)) → IsReachedGrid m grid → (g : List (Pair ℕ)) × Contains grids g × SamePairs g grid
      all_grids grid (t, leaves) =
          let (k, low, same) = item_of t (accepted_of_leaves m t grid leaves) in
          let found = (left_is (item k)).all grid (forth ◌==◌ numbers_tell m t (item k) same grid leaves) in
          let (n, inside, also) = grid_of k low found.0 found.1 in
          (grid_at grids n, Contains-get_or grids n [] inside, same_pairs_then (grid_at grids n) found.0 grid also found.2)

      -- the numbers of the grids of an item
      abbrev IsOf : ℕ → ℕ → Type 0
      IsOf k n = (g : List (Pair ℕ)) × Contains (left (item k)) g × SamePairs (grid_at grids n) g

      of_reported : (k n : ℕ) → IsDecided (IsOf k n)
      of_reported k n = some_is_reported (SamePairs (grid_at grids n)) (pairs_reported ◌==◌ numbers_tell (grid_at grids n)) (left (item k))

      set_there : (k : ℕ) → k < length table → (set : List ℕ) × AreBelow (IsOf k) (length grids) set
      set_there k low = numbers_listed (IsOf k) (of_reported k) (length grids)

      sets_there : (sets : List (List ℕ)) × (length sets ≡ length table) × ((k : ℕ) → k < length table → AreBelow (IsOf k) (length grids) (get_or sets k []))
      sets_there = listed_values [] (λ k set. AreBelow (IsOf k) (length grids) set) (length table) set_there

      module _ (sets : List (List ℕ)) (each : length sets ≡ length table) (are : (k : ℕ) → k < length table → AreBelow (IsOf k) (length grids) (get_or sets k [])) where
        set_low : (k n : ℕ) → k < length table → Contains (set_at sets k) n → n < length grids
        set_low k n low h = ((are k low).only n h).0

        set_different : (k : ℕ) → k < length table → AreDifferent SamePairs (state_at grids sets k)
        set_different k low = AllPairs-map Rising (λ x y. SamePairs x y → ⊥) (grid_at grids) (λ a b rises. once a b [] rises.0 rises.1) 0 (set_at sets k)
            (λ i j d less inside. ((are k low).up i j d less inside, set_low k (get_or (set_at sets k) j d) low (Contains-get_or (set_at sets k) j d inside)))
          where
            Rising : ℕ → ℕ → Type 0
            Rising a b = (a < b) × (b < length grids)

        -- a state has the grids that its item leaves
        state_left : (k : ℕ) → k < length table → IsLeft m (item k) (state_at grids sets k)
        state_left k low = record {
          different = set_different k low;
          all = λ grid leaves.
              let found = (left_is (item k)).all grid leaves in
              let (n, inside, same) = grid_of k low found.0 found.1 in
              (grid_at grids n, Contains-map (grid_at grids) (set_at sets k) n ((are k low).all n inside (found.0, found.1, same)), same_pairs_then (grid_at grids n) found.0 grid same found.2);
          only = λ grid h.
              let (n, there, at) = Contains-from_map (grid_at grids) (set_at sets k) grid h in
              let (inside, (g, in_left, same)) = (are k low).only n there in
              subst (Leaves m (item k)) at (leaves_alike m (item k) g (grid_at grids n) same ((left_is (item k)).only g in_left));
        }

        stands : (w : List ℕ) (state : ℕ) → AreColumns columns w → walk table (Some 0) w ≡ Some state → IsLeft m (events_at columns w) (state_at grids sets state)
        stands w state columns_are e =
            let (low, same) = ends w state columns_are e in
            let is = state_left state low in record {
              different = is.different;
              all = λ grid leaves. is.all grid (forth ◌==◌ numbers_tell m (events_at columns w) (item state) same grid leaves);
              only = λ grid h. back ◌==◌ numbers_tell m (events_at columns w) (item state) same grid (is.only grid h);
            }

        same_items : (one other : ℕ) → one < length table → other < length table → SameGrids (state_at grids sets one) (state_at grids sets other) → Same (item one) (item other)
        same_items one other low low' same =
            let first = state_left one low in
            let second = state_left other low' in
            grids_joined (left (item one)) (state_at grids sets one) (left (item other))
            (same_left m (item one) (item one) (left (item one)) (state_at grids sets one) (left_is (item one)) first (λ g h. h) (λ g h. h))
            (grids_joined (state_at grids sets one) (state_at grids sets other) (left (item other)) same
            (same_left m (item other) (item other) (state_at grids sets other) (left (item other)) second (left_is (item other)) (λ g h. h) (λ g h. h)))

        apart : (one other : ℕ) → one < length table → other < length table → SameGrids (state_at grids sets one) (state_at grids sets other) → one ≡ other
        apart one other low low' same =
            let alike = same_items one other low low' same in
            ⊎_elim
            (λ (below : one < other). absurd (numbers.different one other below low' alike))
            (λ (above : other ≤ one). ⊎_elim
            (λ (below : other < one). absurd (numbers.different other one below low (turned (item one) (item other) alike)))
            (λ (past : one ≤ other). omega (arith, above, past))
            (cases_lt other one))
            (cases_lt one other)

        automaton : IsAutomaton m columns table grids sets places
        automaton = record {
          shape = shape;
          walks = walks;
          stands = stands;
          each = each;
          apart = apart;
          led = breadth_first_reached table columns places numbers.breadth_first;
          breadth_first = numbers.breadth_first;
          reached = reached;
          once = once;
          all = all_grids;
          ascending = λ state low k inside. (are state (omega (arith, low, each))).up k (k + 1) 0 (omega arith) inside;
          within = λ state low i d below. set_low state (get_or (set_at sets state) i d) (omega (arith, low, each)) (Contains-get_or (set_at sets state) i d below);
        }

-- An automaton whose grids ascend, and whose pairs do.
pub record HasAutomaton (m : Pipeline ℕ) (columns : ℕ) : Type 0 where
  pub table : Table
  pub grids : List (List (Pair ℕ))
  pub sets : List (List ℕ)
  pub parents : List (ℕ × ℕ)
  pub is : IsAutomaton m columns table grids sets parents
  pub below : AllPairs IsBelow grids
  pub ascending : All (IsAscendingBy nat_cmp) grids

pub some_automaton : (m : Pipeline ℕ) (columns : ℕ) → ((k : ℕ) → columns ≤ k → alternatives_at m k ≡ []) → (n : ℕ) → CountIsAtMost m columns count.states n → HasAutomaton m columns
some_automaton m columns none n most =
    let (k, s, all) = finished (Same m columns) columns (next m columns) [] (reported m columns) (itself m columns) (turned m columns) n (few_words m columns n most) in
    let (table, numbers) = some_table (Same m columns) (turned m columns) (joined m columns) columns (next m columns) [] k s all in
    let (gs, gather, only) = gathered m columns s.items in
    let (grids, listed) = grids_listed gs in
    let (sets, each, are) = sets_there m columns none table s.items s.places numbers gs gather only grids listed in
    record {
      table = table;
      grids = grids;
      sets = sets;
      parents = s.places;
      is = automaton m columns none table s.items s.places numbers gs gather only grids listed sets each are;
      below = listed.up;
      ascending = ascending_grids m columns none table s.items s.places numbers gs gather only grids listed;
    }
