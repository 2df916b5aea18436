-- Every automaton whose counts are within their limits has a part that is compiled, and a report.
use Rattle.std.proofs.Common.{◌==◌, ◌≡◌, ℕ, ◌+◌, ◌*◌, ◌<◌, ◌≤◌, ⊎_elim, Bool, true, false, List, [], ◌∷◌, ◌++◌, length, map, get_or, slice_get, replicate, All, Option, Some, None, Contains, refl, sym, ap, ◌∙◌, subst, arith, subst₂, if◌then◌else◌, IsTrue}
use Rattle.std.specs.Prelude.{is_some, MatchBool, IsSomeAnd, IsSorted, slice_index_or, ◌&&◌, ◌↔◌}
use Rattle.std.specs.List.{AllPairs, sum_by}
use Rattle.std.specs.Option.{ForSome}
use Rattle.std.proofs.Math.Nat.{mul-le-mul_left}
use Rattle.std.proofs.lemmas.Bool.{cases_lt}
use Rattle.std.proofs.lemmas.List.{length-map, get_or-map, get_or_default}
use Rattle.std.proofs.lemmas.List.Elements.{All-contains, Contains-get_or, Contains-append_cases}
use Rattle.std.proofs.lemmas.List.Kept.{AllPairs-from_increasing}
use Rattle.std.proofs.lemmas.Option.{none-some, slice_get_within, get_or_from_slice_get}
use Rattle.hz_base_model.specs.Limits.{cycle_limit, unit_limit}
use Rattle.hz_base_model.specs.Pairs.{Pair, later, placed, grid_cmp, IsAscendingBy}
use Rattle.hz_base_model.proofs.Ascending.{AllPairs-map}
use Rattle.hz_base_model.proofs.Elements.{Contains-nil, Contains-from_map}
use Rattle.hz_description_model.specs.Reservations.Sets.{Statement}
use Rattle.hz_description_model.specs.Reservations.Alternatives.{Alternative}
use Rattle.hz_pipeline_model.specs.Accepting.Events.{Event, issue, advance, ask, cycles_of, IsOfClass}
use Rattle.hz_pipeline_model.specs.Accepting.Fitting.{AskTheSame}
use Rattle.hz_pipeline_model.specs.Accepting.Replay.{Pipeline, Treatment, Class, chosen, calendar, alternatives_at, of_class, pairs_at, first_fit, any_fit}
use Rattle.hz_pipeline_model.specs.Accepting.Restricted.{of_pairs}
use Rattle.hz_pipeline_model.proofs.Accepting.Rows.{numbers_tell}
use Rattle.hz_description_model.specs.Reading.Descriptions.{Options}
use Rattle.hz_description_model.specs.Check.CheckedParts.{AutomatonParts, ClassParts}
use Rattle.hz_pipeline_model.specs.Pipelines.Pipelines.{treatment_of}
use Rattle.hz_pipeline_model.specs.Tables.Tables.{Table, walk, entry}
use Rattle.hz_pipeline_model.specs.Tables.Apart.{WalkTheSame}
use Rattle.hz_pipeline_model.specs.Tables.Machines.{Part, IsPart, part_walk, word_of, advance_of, tells_reserved}
use Rattle.hz_pipeline_model.specs.Tables.StateLimits.{grid_limit, state_limit, member_limit, cell_limit}
use Rattle.hz_pipeline_model.proofs.Tables.TableLaws.{breadth_first_reached}
use Rattle.hz_pipeline_model.specs.Least.Normal.{IsNormal}
use Rattle.hz_pipeline_model.specs.Reaching.Reach.{IsLeft, IsReachedGrid}
use Rattle.hz_pipeline_model.specs.Reaching.Built.{IsAutomaton, grid_at, set_at, state_at}
use Rattle.hz_pipeline_model.specs.Reaching.Columns.{class_of_grids, pipeline_on}
use Rattle.hz_pipeline_model.specs.Reaching.Counts.{Count, CountIsAbove, CountIsAtMost}
use Rattle.hz_pipeline_model.specs.Reaching.Counts as count
use Rattle.hz_pipeline_model.proofs.Reaching.CountLaws.{no_count_both}
use Rattle.hz_pipeline_model.specs.Compiling.AutomatonPipelines.{automaton_at, lists_at, automaton_pipeline, queries_at}
use Rattle.hz_pipeline_model.specs.Compiling.ClassColumns.{IsColumns}
use Rattle.hz_pipeline_model.specs.Compiling.Compiled.{Shown, Report, shows_states, IsShown, IsCompiledPart}
use Rattle.hz_pipeline_model.specs.Compiling.CompiledParts.{cap_of, IsWithinLimits, WalksAccepted, TellsWhatIsLeft, TellsWhatIsHeld}
use Rattle.hz_pipeline_model.specs.Compiling.Counted.{CountIs}
use Rattle.hz_pipeline_model.proofs.Compiling.ColumnLaws.{nothing_past}
use Rattle.hz_pipeline_model.proofs.Compiling.CompiledLaws.{walks_accepted, tells_left, numbered, stands, low, counts_above, counts_most, tells_held}
use Rattle.hz_pipeline_model.proofs.Compiling.ReportLaws.{states_of, grid_count, state_count, cell_count, member_count}
use Rattle.hz_laws.proofs.Leaving.CountsReported.{counts_reported}
use Rattle.hz_pipeline_model.specs.Single.Reported.{ListsAscending}
use Rattle.hz_tabtext_model.specs.Said.{counts_said}
use Rattle.hz_tabtext_model.specs.Texts.{AreCounts}
use Rattle.hz_laws.proofs.Totality.AscendingLists.{IsBelow, sorted_below}
use Rattle.hz_laws.proofs.Totality.ApartReported.{no_more}
use Rattle.hz_laws.proofs.Totality.NumberingLaws.{some_is}
use Rattle.hz_laws.proofs.Totality.LeastTables.{least_table}
use Rattle.hz_laws.proofs.Totality.AutomatonTotal.{HasAutomaton, some_automaton}
use Rattle.std.specs.Ordering.{nat_cmp}
use Rattle.hz_description_model.specs.Check.CheckedShape.{ask_names}
use Rattle.hz_pipeline_model.specs.Tables.AskColumns.{HasAsks, AsksStay}
use Rattle.hz_pipeline_model.proofs.Asks.AskLaws.{asked_table, asks_stay, least_stays, walk_one, walk_end}
use Rattle.hz_pipeline_model.proofs.Asks.BareLaws.{without}
use Rattle.hz_pipeline_model.proofs.Asks.PresentLaws.{marks_present}
use Rattle.hz_pipeline_model.specs.Reaching.Present.{marks_of}
use Rattle.hz_laws.proofs.Totality.AskedRows.{asked_rows, rows_have_asks}
use Rattle.hz_pipeline_model.specs.Accepting.Asking.{IsHeld}
use Rattle.hz_pipeline_model.specs.Tables.Orders.{IsBreadthFirst}
use Rattle.hz_pipeline_model.proofs.Single.PartLaws.{some_of}

-- ---- cycles of what is left

abbrev pub AreLow : List (Pair ℕ) → Type 0
AreLow pairs = All (λ p. p.cycle < cycle_limit) pairs

none_low : AreLow []
none_low k d inside = absurd (omega (arith, inside))

there : {X : Type 0} (P : X → Type 0) (xs : List X) → All P xs → (i : ℕ) (x : X) → slice_get xs i ≡ Some x → P x
there P xs all i x e = subst P (get_or_from_slice_get xs i x x e) (all i x (slice_get_within xs i x e))

module _ (treatment : Treatment) (statements : List (Statement ℕ)) (lists : List (List (List (Pair ℕ)))) (are : All (All AreLow) lists) where
  abbrev pipeline : Pipeline ℕ
  pipeline = pipeline_on treatment statements lists

  mapped_there : {X Y : Type 0} (f : X → Y) (xs : List X) (i : ℕ) (y : Y) → slice_get (map f xs) i ≡ Some y → (x : X) × Contains xs x × (f x ≡ y)
  mapped_there f xs i y e = Contains-from_map f xs y (i, slice_get_within (map f xs) i y e, get_or_from_slice_get (map f xs) i y y e)

  pairs_low : (o : Option (Alternative ℕ)) → ((a : Alternative ℕ) → o ≡ Some a → AreLow a.pairs) → AreLow (pairs_at o)
  pairs_low None each = none_low
  pairs_low (Some a) each = each a refl

  alternatives_low : (o : Option (Class ℕ)) → ((c : Class ℕ) → o ≡ Some c → (i : ℕ) (a : Alternative ℕ) → slice_get c.alternatives i ≡ Some a → AreLow a.pairs) → (i : ℕ) (a : Alternative ℕ) → slice_get (of_class o) i ≡ Some a → AreLow a.pairs
  alternatives_low None each i a e = let none = slice_get_within [] i a e in absurd (omega (arith, none))
  alternatives_low (Some c) each i a e = each c refl i a e

  chosen_low : (k i : ℕ) → AreLow (chosen pipeline k i)
  chosen_low k i = pairs_low (slice_get (alternatives_at pipeline k) i) (λ a e.
      alternatives_low (slice_get (map class_of_grids lists) k) (λ c f j b g.
      let (list, in_lists, is) = mapped_there class_of_grids lists k c f in
      let here : slice_get (map of_pairs list) j ≡ Some b = ap (λ (x : Class ℕ). slice_get x.alternatives j) is ∙ g in
      let (grid, in_list, same) = mapped_there of_pairs list j b here in
      subst (λ (x : Alternative ℕ). AreLow x.pairs) same (All-contains AreLow list grid (All-contains (All AreLow) lists list are in_lists) in_list)) i a e)

  -- a reserved cycle is less than the limit above the last
  calendar_low : (now : ℕ) (t : List Event) (choices : List ℕ) (q : Pair ℕ) → Contains (calendar pipeline now t choices) q → q.cycle < now + cycles_of t + cycle_limit
  calendar_low now [] choices q h = absurd (Contains-nil q h)
  calendar_low now (advance n ∷ t) choices q h = let less = calendar_low (n + now) t choices q h in omega (arith, less)
  calendar_low now (ask b u ∷ t) choices q h = calendar_low now t choices q h
  calendar_low now (issue k ∷ t) [] q h = absurd (Contains-nil q h)
  calendar_low now (issue k ∷ t) (i ∷ choices) q h = ⊎_elim
      (λ (here : Contains (placed now (chosen pipeline k i)) q).
      let (p, inside, same) = Contains-from_map (later now) (chosen pipeline k i) q here in
      let less : p.cycle < cycle_limit = All-contains (λ (r : Pair ℕ). r.cycle < cycle_limit) (chosen pipeline k i) p (chosen_low k i) inside in
      let cycle : now + p.cycle ≡ q.cycle = ap (λ (r : Pair ℕ). r.cycle) same in
      omega (arith, less, cycle))
      (λ (rest : Contains (calendar pipeline now t choices) q). let less = calendar_low now t choices q rest in omega (arith, less))
      (Contains-append_cases (placed now (chosen pipeline k i)) (calendar pipeline now t choices) q h)

  pub left_low : (grid : List (Pair ℕ)) → IsReachedGrid pipeline grid → AreLow grid
  left_low grid (t, (choices, is, future)) k d inside =
      let p = get_or grid k d in
      let less = calendar_low 0 t choices (record { unit = p.unit; cycle = cycles_of t + p.cycle }) ((future.pairs p.unit p.cycle).0 (Contains-get_or grid k d inside)) in
      omega (arith, less)

-- ---- columns

abbrev ClassLists : Type 0
ClassLists = List (List (List (Pair ℕ)))

module _ (lists columns : ClassLists) (maps : List ℕ) (is : IsColumns lists columns maps) where
  -- each column is the list of a class
  column_listed : (x : List (List (Pair ℕ))) → Contains columns x → Contains lists x
  column_listed x (i, within, at) =
      let (k, inside, map_is, earlier) = is.first i within in
      let same : slice_index_or lists k [] ≡ x = sym (get_or_from_slice_get columns i (slice_index_or lists k []) x (ap (slice_get columns) (sym map_is) ∙ is.there k inside)) ∙ at in
      subst (Contains lists) same (Contains-get_or lists k [] inside)

  few_columns : length columns ≤ length lists
  few_columns = no_more columns lists is.different column_listed

  column_within : (k : ℕ) → k < length maps → slice_index_or maps k 0 < length columns
  column_within k inside =
      let each = is.each in
      slice_get_within columns (slice_index_or maps k 0) (slice_index_or lists k []) (is.there k (omega (arith, inside, each)))

  columns_low : All (All AreLow) lists → All (All AreLow) columns
  columns_low all k d inside = All-contains (All AreLow) lists (get_or columns k d) all (column_listed (get_or columns k d) (Contains-get_or columns k d inside))

-- a count that is at most a number is no more
count_few : (m : Pipeline ℕ) (columns : ℕ) (kind : Count) (n k : ℕ) → CountIs m columns kind n → CountIsAtMost m columns kind k → n ≤ k
count_few m columns kind n k is most = ⊎_elim
    (λ (more : k < n). absurd (no_count_both m columns k kind (is.least k more) most))
    (λ (few : n ≤ k). few)
    (cases_lt k n)

caps : (shown : Bool) → (cap_of shown count.grids ≤ grid_limit) × (cap_of shown count.states ≤ state_limit) × (cap_of shown count.members ≤ member_limit)
caps true = (omega arith, omega arith, omega arith)
caps false = (omega arith, omega arith, omega arith)

-- ---- parts

-- A part that is compiled, and what is reported of it.
pub record HasPart (stay : Bool) (options : Options) (automata : List AutomatonParts) (classes : List ClassParts) (a : ℕ) : Type 0 where
  pub part : Part
  pub report : Report
  pub compiled : IsCompiledPart stay options automata classes a part report
  pub kept : IsPart (length classes) part
  pub rows : length part.rows ≤ state_limit
  pub counts : AreCounts (counts_said report)
  pub ascending : ListsAscending report
  pub cycles : ForSome report.shown (λ shown. All (All AreLow) shown.states)

-- What holds of the query units of an automaton: they are not too many, and there is none with the option `ndfa`.
pub record AreQueries (options : Options) (automata : List AutomatonParts) (a : ℕ) : Type 0 where
  pub few : length (queries_at automata a) ≤ unit_limit
  pub none : IsTrue options.ndfa → queries_at automata a ≡ []

module _ (options : Options) (automata : List AutomatonParts) (classes : List ClassParts) (a : ℕ) (are_low : All (All AreLow) (lists_at classes a)) (are_queries : AreQueries options automata a) where
  abbrev m : Pipeline ℕ
  m = automaton_pipeline options automata classes a

  abbrev statements : List (Statement ℕ)
  statements = (automaton_at automata a).statements

  abbrev lists : ClassLists
  lists = lists_at classes a

  abbrev queries : List ℕ
  queries = queries_at automata a

  abbrev asks : List (List ℕ)
  asks = ask_names (automaton_at automata a)

  asks_count : length asks ≡ length queries
  asks_count = length-map queries (λ unit. slice_index_or (automaton_at automata a).units unit [])

  lists_count : length lists ≡ length classes
  lists_count = length-map classes (λ c. slice_index_or c.lists a [])

  same_asked : AskTheSame statements statements
  same_asked source pairs now = (λ h. h, λ h. h)

  module _ (n : ℕ) (columns : ClassLists) (maps : List ℕ) (is : IsColumns lists columns maps) (number : length columns ≡ n) (counts : (kind : Count) → CountIsAtMost m (n + length queries) kind (cap_of (shows_states options) kind)) where
    abbrev by_column : Pipeline ℕ
    by_column = pipeline_on (treatment_of options) statements columns

    none_past : (k : ℕ) → n ≤ k → alternatives_at by_column k ≡ []
    none_past k high = nothing_past (treatment_of options) statements columns k (omega (arith, high, number))

    above : (width : ℕ) (kind : Count) (k : ℕ) → CountIsAbove by_column width kind k → CountIsAbove m width kind k
    above width kind k h = counts_above (treatment_of options) statements statements same_asked lists columns maps is width k kind h

    most : (width : ℕ) (kind : Count) (k : ℕ) → CountIsAtMost by_column width kind k → CountIsAtMost m width kind k
    most width kind k h = counts_most (treatment_of options) statements statements same_asked lists columns maps is width k kind h

    count_there : (width : ℕ) (kind : Count) (k : ℕ) → CountIs by_column width kind k → CountIs m width kind k
    count_there width kind k h = record { most = most width kind k h.most; least = λ j less. above width kind j (h.least j less) }

    -- by columns there are no more states than by classes
    most_states : CountIsAtMost by_column n count.states (cap_of (shows_states options) count.states)
    most_states = ⊎_elim
        (λ few. few)
        (λ many. absurd (no_count_both m n (cap_of (shows_states options) count.states) count.states (above n count.states (cap_of (shows_states options) count.states) many) (counts count.states)))
        (counts_reported ◌==◌ numbers_tell by_column n count.states (cap_of (shows_states options) count.states))

    module _ (has : HasAutomaton by_column n) where
      abbrev marks : ℕ → ℕ → Bool
      marks = marks_of has.grids has.sets queries

      abbrev part : Part
      part = record { name = (automaton_at automata a).name; map = maps; columns = n; asks = asks; rows = asked_rows n (length asks) marks 0 has.table }

      abbrev states : List (List (List (Pair ℕ)))
      states = map (map (grid_at has.grids)) has.sets

      abbrev shown : Shown
      shown = record { parents = has.parents; states = states }

      abbrev shown_by : Bool → Option Shown
      shown_by true = Some shown
      shown_by false = None

      abbrev report : Report
      report = record { grids = length has.grids; states = length has.table; members = sum_by length (states_of by_column n none_past has.table has.grids has.sets has.parents has.is); shown = shown_by (shows_states options) }

      state_is : (state : ℕ) → state < length has.table → get_or states state [] ≡ state_at has.grids has.sets state
      state_is state inside = let each = has.is.each in get_or-map (map (grid_at has.grids)) has.sets state [] [] (omega (arith, inside, each))

      -- the grids of a state in ascending order
      state_below : (state : ℕ) → state < length has.table → AllPairs IsBelow (state_at has.grids has.sets state)
      state_below state inside =
          let each = has.is.each in
          let set = set_at has.sets state in
          let up = AllPairs-from_increasing set (has.is.ascending state (omega (arith, inside, each))) in
          AllPairs-map Rising IsBelow (grid_at has.grids) (λ x y rises. has.below x y [] rises.0 rises.1) 0 set
          (λ i j d less within. (up i j d less within, (has.is.within state (omega (arith, inside, each))) j d within))
        where
          Rising : ℕ → ℕ → Type 0
          Rising x y = (x < y) × (y < length has.grids)

      -- what holds of all grids holds of those of a state
      of_states : (P : List (Pair ℕ) → Type 0) → All P has.grids → (state : ℕ) → state < length has.table → All P (state_at has.grids has.sets state)
      of_states P all state inside k d within =
          let each = has.is.each in
          let set = set_at has.sets state in
          let low : k < length set = omega (arith, within, length-map set (grid_at has.grids)) in
          let below = has.is.within state (omega (arith, inside, each)) k 0 low in
          subst P (sym (get_or-map (grid_at has.grids) set k 0 d low)) (all (get_or set k 0) [] below)

      all_states : (P : List (List (Pair ℕ)) → Type 0) → ((state : ℕ) → state < length has.table → P (state_at has.grids has.sets state)) → All P states
      all_states P each_is k d within =
          let each = has.is.each in
          let inside : k < length has.table = omega (arith, within, each, length-map has.sets (map (grid_at has.grids))) in
          subst P (get_or_default states k [] d within) (subst P (sym (state_is k inside)) (each_is k inside))

      asked : HasAsks has.table part.rows n (length asks) marks
      asked = rows_have_asks n (length asks) marks has.table has.is.shape

      is_shown : IsShown (length classes) m part shown
      is_shown = record {
        parents = subst (λ table. IsBreadthFirst table n has.parents) (sym (without has.table part.rows n (length asks) marks has.is.shape asked)) has.is.breadth_first;
        each = let each = has.is.each in let rows = asked.each in omega (arith, each, rows, length-map has.sets (map (grid_at has.grids)));
        left = λ t state all h.
            let inside = low (treatment_of options) statements statements same_asked lists columns part is number has.table marks asked has.grids has.sets has.parents has.is t state h in
            subst (IsLeft m t) (sym (state_is state inside))
            (stands (treatment_of options) statements statements same_asked lists columns part is number has.table marks asked has.grids has.sets has.parents has.is t state (subst (λ k. All (IsOfClass k) t) (sym lists_count) all) h);
        ascending = all_states (IsSorted grid_cmp) (λ state inside. sorted_below (state_at has.grids has.sets state) (state_below state inside));
      }

      shown_reported : (b : Bool) → MatchBool b (IsSomeAnd (shown_by b) (IsShown (length classes) m part)) (shown_by b ≡ None)
      shown_reported true = is_shown
      shown_reported false = refl

      for_shown : (P : Shown → Type 0) → P shown → (b : Bool) → ForSome (shown_by b) P
      for_shown P is true = λ s e. subst P (some_is shown s e) is
      for_shown P is false = λ s e. absurd (none-some s e)

      abbrev auto : IsAutomaton by_column n has.table has.grids has.sets has.parents
      auto = has.is

      grids_are : CountIs m n count.grids (length has.grids)
      grids_are = count_there n count.grids (length has.grids) (grid_count by_column n none_past has.table has.grids has.sets has.parents auto)

      states_are : CountIs m n count.states (length has.table)
      states_are = count_there n count.states (length has.table) (state_count by_column n none_past has.table has.grids has.sets has.parents auto)

      members_are : CountIs m n count.members report.members
      members_are = count_there n count.members report.members (member_count by_column n none_past has.table has.grids has.sets has.parents auto)

      cells_are : CountIs m (n + length queries) count.cells (length has.table * (n + length queries + 1))
      cells_are = count_there (n + length queries) count.cells (length has.table * (n + length queries + 1)) (cell_count by_column n none_past has.table has.grids has.sets has.parents auto (n + length queries))

      -- without `ndfa` the marks tell what is held, and with it there is no query
      held : TellsWhatIsHeld (length lists) m queries part
      held = by_option options.ndfa refl
        where
          by_option : (b : Bool) → options.ndfa ≡ b → TellsWhatIsHeld (length lists) m queries part
          by_option true e = record { held = λ t state query unit all ends at. absurd (none-some unit (sym (ap (λ qs. slice_get qs query) (are_queries.none e)) ∙ at)) }
          by_option false e =
              tells_held (treatment_of options) statements statements same_asked lists columns part is number has.table marks asked has.grids has.sets has.parents auto
              (ap (λ b. if b then any_fit else first_fit) e) queries (sym asks_count) (marks_present has.grids has.sets queries)

      compiled : IsCompiledPart true options automata classes a part report
      compiled = record {
        name = refl;
        columns = columns;
        shared = is;
        number = number;
        asks = refl;
        held = subst (λ k. TellsWhatIsHeld k m queries part) lists_count held;
        walks = subst (λ k. WalksAccepted k m part) lists_count (walks_accepted (treatment_of options) statements statements same_asked lists columns part is number has.table marks asked has.grids has.sets has.parents auto);
        tells = subst (λ k. TellsWhatIsLeft k m part) lists_count (tells_left (treatment_of options) statements statements same_asked lists columns part is number has.table marks asked has.grids has.sets has.parents auto);
        numbered = numbered (treatment_of options) statements statements same_asked lists columns part is number has.table marks asked has.grids has.sets has.parents auto;
        within = record { columns = n; has = (columns, maps, is, number); counts = counts };
        grids = grids_are;
        states = states_are;
        members = members_are;
        shown = shown_reported (shows_states options);
      }

      few_rows : length has.table ≤ state_limit
      few_rows = let few = count_few m n count.states (length has.table) (cap_of (shows_states options) count.states) states_are (counts count.states) in let cap = (caps (shows_states options)).1 in omega (arith, few, cap)

      is_part : IsPart (length classes) part
      is_part = record {
        each = is.each ∙ lists_count;
        within = λ k d inside. subst (λ c. c < n) (get_or_default maps k 0 d inside) (let below = column_within lists columns maps is k inside in omega (arith, below, number));
        columns = let few = few_columns lists columns maps is in omega (arith, few, number, lists_count);
        asks = let few = are_queries.few in omega (arith, few, asks_count);
        table = asked_table has.table part.rows n (length asks) marks auto.shape asked;
        stays = asks_stay has.table part.rows n (length asks) marks auto.shape asked;
        cells =
            let few = count_few m (n + length queries) count.cells (length has.table * (n + length queries + 1)) cell_limit cells_are (counts count.cells) in
            subst₂ (λ rows many. rows * (n + many + 1) ≤ cell_limit) (sym asked.each) (sym asks_count) few;
      }

      counts_low : AreCounts (counts_said report)
      counts_low =
          let shows = shows_states options in
          let few_grids = count_few m n count.grids (length has.grids) (cap_of shows count.grids) grids_are (counts count.grids) in
          let few_members = count_few m n count.members report.members (cap_of shows count.members) members_are (counts count.members) in
          let cap = caps shows in
          let one = cap.0 in
          let other = cap.2 in
          record {
            grids = omega (arith, few_grids, one);
            states = omega (arith, few_rows);
            members = omega (arith, few_members, other);
          }

      cycles_low : All AreLow has.grids
      cycles_low k d inside = left_low (treatment_of options) statements columns (columns_low lists columns maps is are_low) (get_or has.grids k d) (auto.reached (get_or has.grids k d) (Contains-get_or has.grids k d inside))

      part_stays : HasPart true options automata classes a
      part_stays = record {
        part = part;
        report = report;
        compiled = compiled;
        kept = is_part;
        rows = let each = asked.each in omega (arith, few_rows, each);
        counts = counts_low;
        ascending = for_shown (λ (s : Shown). All (λ grids. All (IsAscendingBy nat_cmp) grids) s.states) (all_states (All (IsAscendingBy nat_cmp)) (of_states (IsAscendingBy nat_cmp) has.ascending)) (shows_states options);
        cycles = for_shown (λ (s : Shown). All (All AreLow) s.states) (all_states (All AreLow) (of_states AreLow cycles_low)) (shows_states options);
      }

  -- the part as its states are found
  stays : IsWithinLimits (shows_states options) lists (length queries) m → HasPart true options automata classes a
  stays within =
      let (columns, maps, is, number) = within.has in
      part_stays within.columns columns maps is number within.counts
      (some_automaton (pipeline_on (treatment_of options) statements columns) within.columns
      (λ k high. nothing_past (treatment_of options) statements columns k (omega (arith, high, number)))
      (cap_of (shows_states options) count.states)
      (most_states within.columns columns maps is number within.counts))

  -- the part whose states are minimised
  module _ (found : HasPart true options automata classes a) (lessened : options.no_minimization ≡ false) (rows : Table) (normal : IsNormal rows (advance_of found.part)) (walks : WalkTheSame (found.part).rows rows) (fewer : length rows ≤ length (found.part).rows) where
    abbrev least : Part
    least = record { name = (found.part).name; map = (found.part).map; columns = (found.part).columns; asks = (found.part).asks; rows = rows }

    -- events take the same columns
    words_same : (t : List Event) → word_of least t ≡ word_of found.part t
    words_same [] = refl
    words_same (issue k ∷ t) = ap (λ (w : List ℕ). slice_index_or (found.part).map k (advance_of found.part + 1) ∷ w) (words_same t)
    words_same (ask b u ∷ t) = words_same t
    words_same (advance k ∷ t) = ap (λ (w : List ℕ). replicate k (advance_of found.part) ++ w) (words_same t)

    walked : (t : List Event) → is_some (part_walk least 0 t) ≡ is_some (part_walk found.part 0 t)
    walked t = ap (λ (w : List ℕ). is_some (walk rows (Some 0) w)) (words_same t) ∙ sym (walks.same (word_of found.part t))

    -- where states may be minimised, none is shown
    not_shown : shows_states options ≡ false
    not_shown = rw lessened (go options.verbose)
      where
        go : (b : Bool) → (b && false) ≡ false
        go true = refl
        go false = refl

    hidden : (b : Bool) → b ≡ false → (o : Option Shown) → MatchBool b (IsSomeAnd o (IsShown (length classes) m found.part)) (o ≡ None) → MatchBool b (IsSomeAnd o (IsShown (length classes) m least)) (o ≡ None)
    hidden false e o h = h
    hidden true e o h = absurd (cc)

    -- a least part tells what the part tells
    same_tells : (t : List Event) (state mate query : ℕ) → part_walk least 0 t ≡ Some state → part_walk found.part 0 t ≡ Some mate → tells_reserved least state query ≡ tells_reserved found.part mate query
    same_tells t state mate query ends led =
        let column = (found.part).columns + query in
        let w = word_of found.part t in
        let here : is_some (walk rows (Some 0) (w ++ column ∷ [])) ≡ is_some (entry rows state column) = ap is_some (walk_one rows (Some 0) state column w [] (sym (ap (walk rows (Some 0)) (words_same t)) ∙ ends) ∙ walk_end rows (entry rows state column)) in
        let there : is_some (walk (found.part).rows (Some 0) (w ++ column ∷ [])) ≡ is_some (entry (found.part).rows mate column) = ap is_some (walk_one (found.part).rows (Some 0) mate column w [] led ∙ walk_end (found.part).rows (entry (found.part).rows mate column)) in
        sym here ∙ (sym (walks.same (w ++ column ∷ [])) ∙ there)

    least_held : (t : List Event) (state query unit : ℕ) → All (IsOfClass (length classes)) t → part_walk least 0 t ≡ Some state → slice_get queries query ≡ Some unit → (tells_reserved least state query ≡ true) ↔ IsHeld m t unit
    least_held t state query unit all ends at =
        let mate = some_of (part_walk found.part 0 t) (sym (walked t) ∙ ap is_some ends) in
        let same = same_tells t state mate.0 query ends mate.1 in
        let held = (found.compiled).held.held t mate.0 query unit all mate.1 at in
        (λ h. held.0 (sym same ∙ h), λ h. same ∙ held.1 h)

    asks_stay_least : AsksStay rows (found.part).columns (length (found.part).asks)
    asks_stay_least = least_stays (found.part).rows rows (found.part).columns (length (found.part).asks) (found.kept).table (found.kept).stays walks normal

    least_compiled : IsCompiledPart options.no_minimization options automata classes a least found.report
    least_compiled =
        let compiled = found.compiled in
        subst (λ (b : Bool). IsCompiledPart b options automata classes a least found.report) (sym lessened) (record {
          name = compiled.name;
          columns = compiled.columns;
          shared = compiled.shared;
          number = compiled.number;
          asks = compiled.asks;
          held = record { held = λ t state query unit all ends at. least_held t state query unit all ends at };
          walks = record {
            walks = λ t all.
                let before = compiled.walks.walks t all in
                (λ h. before.0 (sym (walked t) ∙ h), λ h. walked t ∙ before.1 h);
          };
          tells = normal.apart;
          numbered = record { reached = breadth_first_reached rows (advance_of found.part) normal.parents normal.order; parents = normal.parents; breadth_first = normal.order };
          within = compiled.within;
          grids = compiled.grids;
          states = compiled.states;
          members = compiled.members;
          shown = hidden (shows_states options) not_shown (found.report).shown compiled.shown;
        })

    least_kept : IsPart (length classes) least
    least_kept =
        let kept = found.kept in record {
          each = kept.each;
          within = kept.within;
          columns = kept.columns;
          asks = kept.asks;
          table = normal.is;
          stays = asks_stay_least;
          cells =
              let cells = kept.cells in
              let less = mul-le-mul_left {m = length rows} {n = length (found.part).rows} (advance_of found.part + 1) fewer in
              omega (arith, less, cells);
        }

    lessened_part : HasPart options.no_minimization options automata classes a
    lessened_part = record {
      part = least;
      report = found.report;
      compiled = least_compiled;
      kept = least_kept;
      rows = let few = found.rows in omega (arith, few, fewer);
      counts = found.counts;
      ascending = found.ascending;
      cycles = found.cycles;
    }

  pub some_part : IsWithinLimits (shows_states options) lists (length queries) m → HasPart options.no_minimization options automata classes a
  some_part within = by_option options.no_minimization refl
    where
      by_option : (b : Bool) → options.no_minimization ≡ b → HasPart options.no_minimization options automata classes a
      by_option true e = subst (λ (b : Bool). HasPart b options automata classes a) (sym e) (stays within)
      by_option false e =
          let found = stays within in
          let (rows, normal, walks, fewer) = least_table (found.part).rows (advance_of found.part) (found.kept).table in
          lessened_part found e rows normal walks fewer
