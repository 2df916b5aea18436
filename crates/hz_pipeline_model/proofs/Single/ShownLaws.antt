-- What is shown of the states of a part is determined, but for how the pairs of a grid are listed.
use Rattle.std.proofs.Common.{◌≡◌, ◌≢◌, ℕ, zero, suc, ◌<◌, List, [], length, get_or, Contains, All, Some, sym, ap, ◌∙◌, subst, arith}
use Rattle.std.specs.Prelude.{slice_index_or}
use Rattle.std.specs.List.{AllPairs}
use Rattle.std.specs.List.Sorted.{IsSorted}
use Rattle.std.specs.Ordering.{nat_cmp}
use Rattle.std.proofs.lemmas.List.{ext_get_or}
use Rattle.std.proofs.lemmas.List.Elements.{All-contains}
use Rattle.hz_base_model.specs.Pairs.{Pair, SamePairs, IsAscendingBy, grid_cmp}
use Rattle.hz_pipeline_model.specs.Accepting.Replay.{Pipeline}
use Rattle.hz_pipeline_model.specs.Tables.Tables.{Table, walk, IsReached}
use Rattle.hz_pipeline_model.specs.Tables.Orders.{IsFirstRead, place_of, IsBreadthFirst}
use Rattle.hz_pipeline_model.specs.Tables.Machines.{Part}
use Rattle.hz_pipeline_model.specs.Reaching.Reach.{AreDifferent, IsLeft, SameGrids, HasGrids}
use Rattle.hz_pipeline_model.proofs.Reaching.CountLaws.{same_pairs_itself}
use Rattle.hz_pipeline_model.proofs.Least.PlaceLaws.{Order, before, after, at, order}
use Rattle.hz_pipeline_model.specs.Compiling.Compiled.{Shown, IsShown}
use Rattle.hz_pipeline_model.proofs.Compiling.CompiledLaws.{left_same}
use Rattle.hz_pipeline_model.specs.Single.Reported.{ShowTheSame}
use Rattle.hz_pipeline_model.proofs.Single.OrderLaws.{sorted_one}
use Rattle.hz_pipeline_model.proofs.Single.WordLaws.{IsFilled, spell}
use Rattle.hz_base_model.proofs.PairOrder.{grid_one, grid_total, grid_exact}
use Rattle.hz_pipeline_model.proofs.Asks.BareWords.{bare, bare_columns, bare_walk}
use Rattle.hz_pipeline_model.proofs.Single.PartLaws.{IsShaped}
use Rattle.hz_pipeline_model.specs.Tables.AskColumns.{without_asks}

-- ---- where states are read first

place_one : (table : Table) (columns state : ℕ) (place mate : ℕ × ℕ) → IsFirstRead table columns state place → IsFirstRead table columns state mate → place ≡ mate
place_one table columns state place mate read read' = by_order (order place mate)
  where
    by_order : Order place mate → place ≡ mate
    by_order (before h) = absurd (read'.first place.0 place.1 h read.there)
    by_order (after h) = absurd (read.first mate.0 mate.1 h read'.there)
    by_order (at row column) = λ i. (row i, column i)

parents_one : (table : Table) (columns : ℕ) (parents others : List (ℕ × ℕ)) → IsBreadthFirst table columns parents → IsBreadthFirst table columns others → parents ≡ others
parents_one table columns parents others is also = ext_get_or (0, 0) parents others (is.each ∙ sym also.each) places
  where
    places : (state : ℕ) → state < length parents → place_of parents state ≡ place_of others state
    places zero low = is.start ∙ sym also.start
    places (suc state) low =
        let row = is.each in
        place_one table columns (suc state) (place_of parents (suc state)) (place_of others (suc state))
        (is.read (suc state) (omega arith) (omega (arith, low, row))) (also.read (suc state) (omega arith) (omega (arith, low, row)))

-- ---- grids that are listed in ascending order

-- lists of the same grids, each once, in ascending order
module _ (xs ys : List (List (Pair ℕ))) (up : All (IsAscendingBy nat_cmp) xs) (up' : All (IsAscendingBy nat_cmp) ys) where
  has : (vs ws : List (List (Pair ℕ))) → All (IsAscendingBy nat_cmp) vs → All (IsAscendingBy nat_cmp) ws → HasGrids vs ws → (x : List (Pair ℕ)) → Contains vs x → Contains ws x
  has vs ws ups ups' there x c =
      let found = there x c in
      let same = grid_one x found.0 (All-contains (IsAscendingBy nat_cmp) vs x ups c) (All-contains (IsAscendingBy nat_cmp) ws found.0 ups' found.1) found.2 in
      subst (Contains ws) (sym same) found.1

  unequal : (vs : List (List (Pair ℕ))) → AreDifferent SamePairs vs → AllPairs (λ x y. x ≢ y) vs
  unequal vs different i j d less inside e = different i j d less inside (subst (SamePairs (get_or vs i d)) e (same_pairs_itself (get_or vs i d)))

  grids_one : IsSorted grid_cmp xs → IsSorted grid_cmp ys → AreDifferent SamePairs xs → AreDifferent SamePairs ys → SameGrids xs ys → xs ≡ ys
  grids_one sorted sorted' different different' same = sorted_one grid_cmp grid_total grid_exact xs ys sorted sorted' (unequal xs different) (unequal ys different') (has xs ys up up' same.there) (has ys xs up' up same.back)

-- ---- what is shown

module _ (classes : ℕ) (m : Pipeline ℕ) (part : Part) (is : IsShaped part) (filled : IsFilled classes part) (reached : (state : ℕ) → state < length part.rows → IsReached part.rows state) (one other : Shown) (shows : IsShown classes m part one) (shows' : IsShown classes m part other) where
  -- some events lead to a state, and leave its grids
  both_left : (state : ℕ) → state < length part.rows → (t : _) × IsLeft m t (slice_index_or one.states state []) × IsLeft m t (slice_index_or other.states state [])
  both_left state low =
      let found = reached state low in
      let columns = bare part.columns (length part.asks) found.0 in
      let s = spell classes part filled columns (bare_columns part.columns (length part.asks) found.0) in
      let ends = ap (walk part.rows (Some 0)) s.word ∙ bare_walk part.rows part.columns (length part.asks) is.table is.stays found.0 0 state found.1 in
      (s.events, shows.left s.events state s.inside ends, shows'.left s.events state s.inside ends)

  pub show_the_same : ShowTheSame one other
  show_the_same = record {
    parents = parents_one (without_asks part.columns (length part.asks) part.rows) part.columns one.parents other.parents shows.parents shows'.parents;
    each = shows.each ∙ sym shows'.each;
    states = λ state low.
        let both = both_left state (omega (arith, low, shows.each)) in
        left_same m both.0 (slice_index_or one.states state []) (slice_index_or other.states state []) both.1 both.2;
  }

  pub shown_one : All (λ grids. All (IsAscendingBy nat_cmp) grids) one.states → All (λ grids. All (IsAscendingBy nat_cmp) grids) other.states → one ≡ other
  shown_one up up' = λ i. record { parents = show_the_same.parents i; states = states i }
    where
      states : one.states ≡ other.states
      states = ext_get_or [] one.states other.states (shows.each ∙ sym shows'.each) (λ state low.
          let both = both_left state (omega (arith, low, shows.each)) in
          let low' : state < length other.states = omega (arith, low, shows.each, shows'.each) in
          grids_one (slice_index_or one.states state []) (slice_index_or other.states state []) (up state [] low) (up' state [] low') (shows.ascending state [] low) (shows'.ascending state [] low') both.1.different both.2.different (show_the_same.states state low))
