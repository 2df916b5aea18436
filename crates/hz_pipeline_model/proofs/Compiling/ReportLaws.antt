-- The counts of an automaton are those of its table and grids.
use Rattle.std.proofs.Common.{◌≡◌, ℕ, ◌+◌, ◌*◌, ◌<◌, ◌≤◌, List, [], ◌∷◌, length, map, get_or, Option, Some, None, ⊎_elim, refl, sym, ap, ◌∙◌, subst, arith}
use Rattle.std.specs.Prelude.{IsSome, Contains}
use Rattle.std.specs.List.{sum_by, range_with_len}
use Rattle.std.proofs.lemmas.List.{length-map, get_or_past}
use Rattle.std.proofs.lemmas.List.FromFn.{length-range_with_len, get_or-map-range_with_len}
use Rattle.hz_base_model.specs.Pairs.{Pair, SamePairs}
use Rattle.hz_base_model.proofs.Elements.{Contains-map, Contains-from_map, Contains-range, Contains-from_range}
use Rattle.hz_pipeline_model.specs.Accepting.Replay.{Pipeline, alternatives_at}
use Rattle.hz_pipeline_model.specs.Tables.Tables.{Table, IsTable, row_of, entry, walk}
use Rattle.hz_pipeline_model.proofs.Tables.TableLaws.{walk_stays}
use Rattle.hz_pipeline_model.specs.Reaching.Reach.{IsLeft, IsReachedGrid, IsReachedState, SameGrids, AreDifferent}
use Rattle.hz_pipeline_model.specs.Reaching.Counts.{Count, IsAbove, IsAtMost, CountIsAbove, CountIsAtMost}
use Rattle.hz_pipeline_model.specs.Reaching.Counts as count
use Rattle.hz_pipeline_model.specs.Reaching.Columns.{AreColumns, events_at}
use Rattle.hz_pipeline_model.proofs.Reaching.Spelling.{spelled}
use Rattle.hz_pipeline_model.specs.Reaching.Built.{IsAutomaton, state_at}
use Rattle.hz_pipeline_model.proofs.Reaching.AutomatonLaws.{leaves_of_accepted, accepted_of_leaves}
use Rattle.hz_pipeline_model.proofs.Reaching.CountLaws.{sum_by_ones, sum_by_alike}
use Rattle.std.proofs.lemmas.Bool.{cases_lt}
use Rattle.std.proofs.lemmas.List.Elements.{All-nil, All-cons}
use Rattle.std.proofs.lemmas.Option.{none-some}
use Rattle.hz_pipeline_model.proofs.Reaching.WordLaws.{IsInside, spelled_columns, leaves_spelled, leaves_from_spelled, inside_of_leaves}
use Rattle.hz_pipeline_model.specs.Compiling.Counted.{CountIs}
use Rattle.hz_pipeline_model.proofs.Compiling.CompiledLaws.{left_same}

-- an entry that is there stands in a row and a column
entry_column : (table : Table) (columns : ℕ) → IsTable table columns → (state column next : ℕ) → entry table state column ≡ Some next → column ≤ columns
entry_column table columns is state column next h = ⊎_elim
    (λ (inside : state < length table). ⊎_elim
    (λ (low : column < columns + 1). omega (arith, low))
    (λ (high : columns + 1 ≤ column). let past = get_or_past (row_of table state) column None (omega (arith, high, is.width state inside)) in absurd (none-some next (sym past ∙ h)))
    (cases_lt column (columns + 1)))
    (λ (outside : length table ≤ state). absurd (none-some next (sym (ap (λ (row : List (Option ℕ)). get_or row column None) (get_or_past table state [] outside)) ∙ h)))
    (cases_lt state (length table))

-- what is walked to its end is columns
columns_walked : (table : Table) (columns : ℕ) → IsTable table columns → (w : List ℕ) (from : Option ℕ) (state : ℕ) → walk table from w ≡ Some state → AreColumns columns w
columns_walked table columns is [] from state h = All-nil (λ (c : ℕ). c ≤ columns)
columns_walked table columns is (column ∷ w) None state h = absurd (none-some state h)
columns_walked table columns is (column ∷ w) (Some s) state h =
    All-cons (λ (c : ℕ). c ≤ columns) column w (first (entry table s column) refl h) (columns_walked table columns is w (entry table s column) state h)
  where
    walk_none : (w : List ℕ) → walk table None w ≡ None
    walk_none [] = refl
    walk_none (c ∷ w) = refl

    first : (next : Option ℕ) → entry table s column ≡ next → walk table next w ≡ Some state → column ≤ columns
    first None e k = absurd (none-some state (sym (walk_none w) ∙ k))
    first (Some n) e k = entry_column table columns is s column n e

some_of : (o : Option ℕ) → IsSome o → (s : ℕ) × (o ≡ Some s)
some_of None h = absurd (cc)
some_of (Some s) h = (s, refl)

module _ {U : Type 0} (m : Pipeline U) (columns : ℕ) (none : (k : ℕ) → columns ≤ k → alternatives_at m k ≡ []) (table : Table) (grids : List (List (Pair U))) (sets : List (List ℕ)) (parents : List (ℕ × ℕ)) (auto : IsAutomaton m columns table grids sets parents) where
  -- the states of all rows
  abbrev pub states_of : List (List (List (Pair U)))
  states_of = map (state_at grids sets) (range_with_len 0 (length table))

  row_reached : (state : ℕ) → state < length table → IsReachedState m (state_at grids sets state)
  row_reached state low =
      let found = auto.led state low in
      let word = columns_walked table columns auto.shape found.0 (Some 0) state found.1 in
      (events_at columns found.0, (auto.walks found.0 word).0 (subst IsSome (sym found.1) refl), auto.stands found.0 state word found.1)

  states_reached : (x : List (List (Pair U))) → Contains states_of x → IsReachedState m x
  states_reached x c =
      let (state, within, same) = Contains-from_map (state_at grids sets) (range_with_len 0 (length table)) x c in
      subst (IsReachedState m) same (row_reached state (Contains-from_range (length table) state within))

  state_there : (i : ℕ) (d : List (List (Pair U))) → i < length table → get_or states_of i d ≡ state_at grids sets i
  state_there i d low = get_or-map-range_with_len (state_at grids sets) 0 (length table) i i d low (omega arith)

  states_count : length states_of ≡ length table
  states_count = length-map (range_with_len 0 (length table)) (state_at grids sets) ∙ length-range_with_len 0 (length table)

  states_different : AreDifferent SameGrids states_of
  states_different = λ i j d low within same.
      let high : j < length table = omega (arith, within, states_count) in
      let one = auto.apart i j (omega (arith, low, high)) high (subst (λ x. SameGrids x (state_at grids sets j)) (state_there i d (omega (arith, low, high))) (subst (SameGrids (get_or states_of i d)) (state_there j d high) same)) in
      omega (arith, low, one)

  states_all : (x : List (List (Pair U))) → IsReachedState m x → (y : List (List (Pair U))) × Contains states_of y × SameGrids x y
  states_all x (t, accepted, left) =
      let some = leaves_of_accepted m t accepted in
      let inside = inside_of_leaves m columns none t some.0 some.1 in
      let w = spelled columns t in
      let word = spelled_columns columns t inside in
      let end = some_of (walk table (Some 0) w) ((auto.walks w word).1 (accepted_of_leaves m (events_at columns w) some.0 (leaves_spelled m columns none t some.0 some.1))) in
      let low = walked_low end.0 w end.1 in
      let here : IsLeft m t (state_at grids sets end.0) = from_word t inside (state_at grids sets end.0) (auto.stands w end.0 word end.1) in
      (state_at grids sets end.0, Contains-map (state_at grids sets) (range_with_len 0 (length table)) end.0 (Contains-range (length table) end.0 low), left_same m t x (state_at grids sets end.0) left here)
    where
      from_word : (t : _) → IsInside columns t → (xs : List (List (Pair U))) → IsLeft m (events_at columns (spelled columns t)) xs → IsLeft m t xs
      from_word t inside xs h = record {
        different = h.different;
        all = λ g l. h.all g (leaves_spelled m columns none t g l);
        only = λ g c. leaves_from_spelled m columns none t g inside (h.only g c);
      }

      walked_low : (s : ℕ) (w : List ℕ) → walk table (Some 0) w ≡ Some s → s < length table
      walked_low s w h = walk_stays table columns auto.shape (Some 0) (λ n e. let same : 0 ≡ n = cc in subst (λ k. k < length table) same (auto.shape).start) s w h

  -- a count that some different reached items have, and that holds all
  exact : {X : Type 0} (Reached : X → Type 0) (Same : X → X → Type 0) (weight : X → ℕ) (items : List X) → ((x : X) → Contains items x → Reached x) → AreDifferent Same items → (k : ℕ) → k < sum_by weight items → IsAbove Reached Same weight k
  exact Reached Same weight items reached different k low = record { items = items; reached = reached; different = different; above = low }

  pub grid_count : CountIs m columns count.grids (length grids)
  grid_count = record {
    most = record { items = grids; all = λ g r. let found = auto.all g r in (found.0, found.1, λ p. ((found.2 p).1, (found.2 p).0)); most = omega (arith, sum_by_ones grids) };
    least = λ k low. exact (IsReachedGrid m) SamePairs (λ _. 1) grids auto.reached auto.once k (omega (arith, low, sum_by_ones grids));
  }

  pub state_count : CountIs m columns count.states (length table)
  state_count = record {
    most = record { items = states_of; all = states_all; most = omega (arith, sum_by_ones states_of, states_count) };
    least = λ k low. exact (IsReachedState m) SameGrids (λ _. 1) states_of states_reached states_different k (omega (arith, low, sum_by_ones states_of, states_count));
  }

  -- of so many entries a row
  pub cell_count : (width : ℕ) → CountIs m width count.cells (length table * (width + 1))
  cell_count width =
      let sum = sum_by_alike (width + 1) states_of ∙ ap (λ n. n * (width + 1)) states_count in
      record {
        most = record { items = states_of; all = states_all; most = omega (arith, sum) };
        least = λ k low. exact (IsReachedState m) SameGrids (λ _. width + 1) states_of states_reached states_different k (omega (arith, low, sum));
      }

  pub member_count : CountIs m columns count.members (sum_by length states_of)
  member_count = record {
    most = record { items = states_of; all = states_all; most = omega arith };
    least = λ k low. exact (IsReachedState m) SameGrids length states_of states_reached states_different k low;
  }
