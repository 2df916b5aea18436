-- An automaton that is explored, as a part that is compiled.
use Rattle.std.proofs.Common.{◌≡◌, ℕ, ◌+◌, ◌*◌, ◌<◌, ◌≤◌, Bool, true, false, List, [], length, slice_get, All, Option, Some, None, refl, sym, ap, ◌∙◌, subst, subst₂, arith, ⊎_elim, if◌then◌else◌, IsTrue}
use Rattle.std.specs.Prelude.{slice_index_or, MatchBool, IsSomeAnd, IsSorted}
use Rattle.std.specs.List.{sum_by}
use Rattle.std.proofs.Math.Nat.{mul-le-mul_right}
use Rattle.std.proofs.lemmas.Bool.{cases_lt}
use Rattle.std.proofs.lemmas.Option.{none-some}
use Rattle.std.proofs.lemmas.List.{length-map, get_or_default}
use Rattle.hz_base_model.specs.Limits.{unit_limit}
use Rattle.hz_base_model.specs.Pairs.{Pair, grid_cmp}
use Rattle.hz_description_model.specs.Reservations.Sets.{Statement}
use Rattle.hz_pipeline_model.specs.Accepting.Events.{Event, IsOfClass}
use Rattle.hz_pipeline_model.specs.Accepting.Fitting.{AskTheSame}
use Rattle.hz_pipeline_model.specs.Accepting.Replay.{Pipeline, alternatives_at, first_fit, any_fit}
use Rattle.hz_description_model.specs.Reading.Descriptions.{Options}
use Rattle.hz_description_model.specs.Check.CheckedParts.{AutomatonParts, ClassParts}
use Rattle.hz_description_model.specs.Check.CheckedShape.{ask_names}
use Rattle.hz_pipeline_model.specs.Pipelines.Pipelines.{treatment_of}
use Rattle.hz_pipeline_model.specs.Tables.Tables.{Table}
use Rattle.hz_pipeline_model.specs.Tables.AskColumns.{HasAsks}
use Rattle.hz_pipeline_model.proofs.Asks.AskLaws.{asked_table, asks_stay}
use Rattle.hz_pipeline_model.proofs.Asks.BareLaws.{without}
use Rattle.hz_pipeline_model.specs.Tables.Machines.{Part, IsPart, part_walk}
use Rattle.hz_pipeline_model.specs.Tables.Orders.{IsBreadthFirst}
use Rattle.hz_pipeline_model.specs.Tables.StateLimits.{cell_limit, member_limit, grid_limit}
use Rattle.hz_pipeline_model.specs.Reaching.Reach.{IsLeft, IsReachedState, SameGrids}
use Rattle.hz_pipeline_model.specs.Reaching.Present.{MarksPresent}
use Rattle.hz_pipeline_model.specs.Reaching.Columns.{pipeline_on}
use Rattle.hz_pipeline_model.specs.Reaching.Counts.{Count, IsAbove, IsAtMost, CountIsAbove, CountIsAtMost}
use Rattle.hz_pipeline_model.specs.Reaching.Counts as count
use Rattle.hz_pipeline_model.specs.Reaching.Built.{IsAutomaton}
use Rattle.hz_pipeline_model.proofs.Reaching.CountLaws.{no_count_both, sum_by_alike}
use Rattle.hz_states.specs.declared.fault.StateFault.{StateFault}
use Rattle.hz_states.specs.declared.fault.StateFault.TheVariants.{GridLimit, SetLimit, MemberLimit, CellLimit, NoMemory}
use Rattle.hz_determ.specs.declared.build.Caps.{Caps}
use Rattle.hz_determ.specs.Explored.{AreWithin, PassesCap}
use Rattle.hz_pipeline_model.specs.Compiling.AutomatonPipelines.{automaton_at, lists_at, automaton_pipeline, queries_at}
use Rattle.hz_pipeline_model.specs.Compiling.ClassColumns.{IsColumns}
use Rattle.hz_pipeline_model.specs.Compiling.Compiled.{shows_states, IsCompiledPart, IsShown, Shown, Report}
use Rattle.hz_pipeline_model.specs.Compiling.CompiledParts.{cap_of, IsWithinLimits, IsPastLimit, WalksAccepted, TellsWhatIsLeft, TellsWhatIsHeld}
use Rattle.hz_pipeline_model.specs.Compiling.Counted.{CountIs}
use Rattle.hz_pipeline_model.proofs.Compiling.ColumnLaws.{nothing_past}
use Rattle.hz_pipeline_model.proofs.Compiling.CompiledLaws.{walks_accepted, tells_left, numbered, stands, low, counts_above, counts_most, tells_held}
use Rattle.hz_pipeline_model.proofs.Compiling.ReportLaws.{grid_count, state_count, cell_count, member_count}
use Rattle.hz_auto.specs.Parts.{IsCapped, IsPastAt}
use Rattle.hz_auto.specs.Reports.{AreArranged}
use Rattle.hz_auto.proofs.ColumnLemmas.{few_columns, columns_within}
use Rattle.hz_auto.proofs.ReportLemmas.{left_arranged, members_listed}

-- a count that is at most a number is no more
no_more : (m : Pipeline ℕ) (columns : ℕ) (kind : Count) (n k : ℕ) → CountIs m columns kind n → CountIsAtMost m columns kind k → n ≤ k
no_more m columns kind n k c most = ⊎_elim
    (λ (more : k < n). absurd (no_count_both m columns k kind (c.least k more) most))
    (λ (few : n ≤ k). few)
    (cases_lt k n)

-- statements that ask the same, the other way round
pub asked_back : (rules statements : List (Statement ℕ)) → AskTheSame rules statements → AskTheSame statements rules
asked_back rules statements asks source pairs now = ((asks source pairs now).1, (asks source pairs now).0)

-- entries of more columns are more
above_wider : {X : Type 0} (Reached : X → Type 0) (Same : X → X → Type 0) (few many cap : ℕ) → few ≤ many → IsAbove Reached Same (λ _. few) cap → IsAbove Reached Same (λ _. many) cap
above_wider Reached Same few many cap less above =
    let more = above.above in
    let product = mul-le-mul_right (length above.items) less in
    record {
      items = above.items;
      reached = above.reached;
      different = above.different;
      above = omega (arith, more, product, sum_by_alike few above.items, sum_by_alike many above.items);
    }

-- what is at most a number is at most a greater one
most_more : {X : Type 0} (Reached : X → Type 0) (Same : X → X → Type 0) (weight : X → ℕ) (n cap : ℕ) → n ≤ cap → IsAtMost Reached Same weight n → IsAtMost Reached Same weight cap
most_more Reached Same weight n cap less most = record { items = most.items; all = most.all; most = let few = most.most in omega (arith, few, less) }

module _ (options : Options) (automata : List AutomatonParts) (classes : List ClassParts) (a : ℕ) (rules : List (Statement ℕ)) (asks : AskTheSame rules (automaton_at automata a).statements) where
  abbrev m : Pipeline ℕ
  m = automaton_pipeline options automata classes a

  abbrev asked : AskTheSame (automaton_at automata a).statements rules
  asked = asked_back rules (automaton_at automata a).statements asks

  abbrev queries : List ℕ
  queries = queries_at automata a

  abbrev by_column : List (List (List (Pair ℕ))) → Pipeline ℕ
  by_column columns = pipeline_on (treatment_of options) rules columns

  module _ (columns : List (List (List (Pair ℕ)))) (maps : List ℕ) (is : IsColumns (lists_at classes a) columns maps) where
    above : (n k : ℕ) (kind : Count) → CountIsAbove (by_column columns) n kind k → CountIsAbove m n kind k
    above = counts_above (treatment_of options) (automaton_at automata a).statements rules asked (lists_at classes a) columns maps is

    most : (n k : ℕ) (kind : Count) → CountIsAtMost (by_column columns) n kind k → CountIsAtMost m n kind k
    most = counts_most (treatment_of options) (automaton_at automata a).statements rules asked (lists_at classes a) columns maps is

    count_there : (n k : ℕ) (kind : Count) → CountIs (by_column columns) n kind k → CountIs m n kind k
    count_there n k kind c = record { most = most n k kind c.most; least = λ j low. above n j kind (c.least j low) }

    -- a fault is a count above its limit
    past : (kind : Count) (cap : ℕ) → cap ≡ cap_of (shows_states options) kind → CountIsAbove (by_column columns) (length columns + length queries) kind cap → IsPastLimit (shows_states options) (lists_at classes a) (length queries) m kind
    past kind cap same over = record {
      columns = length columns;
      has = (columns, maps, is, refl);
      above = subst (CountIsAbove m (length columns + length queries) kind) same (above (length columns + length queries) cap kind over);
    }

    -- what is above without the query units is above with them
    pub past_at : (caps : Caps) → IsCapped (shows_states options) caps → (fault : StateFault) → PassesCap (by_column columns) (length columns) caps fault → IsPastAt options automata classes a fault
    past_at caps capped GridLimit over = past count.grids caps.grids capped.grids over
    past_at caps capped SetLimit over = past count.states caps.states capped.states over
    past_at caps capped MemberLimit over = past count.members caps.members capped.members over
    past_at caps capped CellLimit over = past count.cells caps.cells capped.cells (above_wider (IsReachedState (by_column columns)) SameGrids (length columns + 1) (length columns + length queries + 1) caps.cells (omega arith) over)
    past_at caps capped NoMemory over = tt

    -- all counts are within their limits
    pub within_limits : (caps : Caps) → IsCapped (shows_states options) caps → AreWithin (by_column columns) (length columns) caps → CountIsAtMost (by_column columns) (length columns + length queries) count.cells caps.cells → IsWithinLimits (shows_states options) (lists_at classes a) (length queries) m
    within_limits caps capped within cells = record { columns = length columns; has = (columns, maps, is, refl); counts = counts }
      where
        at_most : (kind : Count) (cap : ℕ) → cap ≡ cap_of (shows_states options) kind → CountIsAtMost (by_column columns) (length columns + length queries) kind cap → CountIsAtMost m (length columns + length queries) kind (cap_of (shows_states options) kind)
        at_most kind cap same h = subst (CountIsAtMost m (length columns + length queries) kind) same (most (length columns + length queries) cap kind h)

        counts : (kind : Count) → CountIsAtMost m (length columns + length queries) kind (cap_of (shows_states options) kind)
        counts count.grids = at_most count.grids caps.grids capped.grids within.grids
        counts count.states = at_most count.states caps.states capped.states within.states
        counts count.members = at_most count.members caps.members capped.members within.members
        counts count.cells = at_most count.cells caps.cells capped.cells cells

  -- The automaton of columns, by its table.
  module _ (columns : List (List (List (Pair ℕ)))) (n : ℕ) (number : length columns ≡ n)
      (table : Table) (grids : List (List (Pair ℕ))) (sets : List (List ℕ)) (parents : List (ℕ × ℕ)) (auto : IsAutomaton (by_column columns) n table grids sets parents) where
    none_past : (k : ℕ) → n ≤ k → alternatives_at (by_column columns) k ≡ []
    none_past k high = nothing_past (treatment_of options) rules columns k (omega (arith, high, number))

    -- the numbers of all sets together
    members_are : CountIs (by_column columns) n count.members (sum_by length sets)
    members_are = subst (CountIs (by_column columns) n count.members) (members_listed grids sets (length table) auto.each)
        (member_count (by_column columns) n none_past table grids sets parents auto)

    -- the counts that are reported are small
    pub members_few : (caps : Caps) → caps.members ≤ member_limit → AreWithin (by_column columns) n caps → sum_by length sets ≤ member_limit
    members_few caps members within = let few = no_more (by_column columns) n count.members (sum_by length sets) caps.members members_are within.members in omega (arith, few, members)

    pub grids_few : (caps : Caps) → caps.grids ≤ grid_limit → AreWithin (by_column columns) n caps → length grids ≤ grid_limit
    grids_few caps few_grids within = let few = no_more (by_column columns) n count.grids (length grids) caps.grids (grid_count (by_column columns) n none_past table grids sets parents auto) within.grids in omega (arith, few, few_grids)

    -- the entries of its rows
    cells_are : (width : ℕ) → CountIs (by_column columns) width count.cells (length table * (width + 1))
    cells_are width = cell_count (by_column columns) n none_past table grids sets parents auto width

    pub cells_few : (caps : Caps) → AreWithin (by_column columns) n caps → length table * (n + 1) ≤ caps.cells
    cells_few caps within = no_more (by_column columns) n count.cells (length table * (n + 1)) caps.cells (cells_are n) within.cells

    -- the same with a column for each query unit
    pub cells_most : (cap : ℕ) → length table * (n + length queries + 1) ≤ cap → CountIsAtMost (by_column columns) (length columns + length queries) count.cells cap
    cells_most cap low =
        let few = subst (λ k. length table * (k + length queries + 1) ≤ cap) (sym number) low in
        most_more (IsReachedState (by_column columns)) SameGrids (λ _. length columns + length queries + 1) (length table * (length columns + length queries + 1)) cap few (cells_are (length columns + length queries)).most

    pub cells_past : (maps : List ℕ) → IsColumns (lists_at classes a) columns maps → (caps : Caps) → IsCapped (shows_states options) caps → caps.cells < length table * (n + length queries + 1) → IsPastAt options automata classes a CellLimit
    cells_past maps is caps capped high =
        past columns maps is count.cells caps.cells capped.cells
        ((cells_are (length columns + length queries)).least caps.cells (subst (λ k. caps.cells < length table * (k + length queries + 1)) (sym number) high))

  -- A part whose table is the automaton of its columns, with a column for each query unit.
  module _ (columns : List (List (List (Pair ℕ)))) (part : Part) (is : IsColumns (lists_at classes a) columns part.map) (number : length columns ≡ part.columns) (names : part.asks ≡ ask_names (automaton_at automata a))
      (table : Table) (marks : ℕ → ℕ → Bool) (has : HasAsks table part.rows part.columns (length part.asks) marks)
      (grids : List (List (Pair ℕ))) (sets : List (List ℕ)) (parents : List (ℕ × ℕ)) (auto : IsAutomaton (by_column columns) part.columns table grids sets parents) where
    abbrev ReportedOf : Report → Type 0
    ReportedOf report = MatchBool (shows_states options) (IsSomeAnd report.shown (λ shown. (shown.parents ≡ parents) × AreArranged grids sets shown.states)) (report.shown ≡ None)

    lists_count : length (lists_at classes a) ≡ length classes
    lists_count = length-map classes (λ c. slice_index_or c.lists a [])

    asks_count : length part.asks ≡ length queries
    asks_count = ap length names ∙ length-map queries (λ unit. slice_index_or (automaton_at automata a).units unit [])

    shown_there : (shown : Shown) → (shown.parents ≡ parents) × AreArranged grids sets shown.states → IsShown (length classes) m part shown
    shown_there shown (same, arranged) = record {
      parents = subst (λ rows. IsBreadthFirst rows part.columns shown.parents) (sym (without table part.rows part.columns (length part.asks) marks auto.shape has)) (subst (IsBreadthFirst table part.columns) (sym same) auto.breadth_first);
      each = let one = arranged.each in let other = auto.each in let rows = has.each in omega (arith, one, other, rows);
      left = left;
      ascending = ascending;
    }
      where
        left : (t : List Event) (state : ℕ) → All (IsOfClass (length classes)) t → part_walk part 0 t ≡ Some state → IsLeft m t (slice_index_or shown.states state [])
        left t state all h =
            let each = auto.each in
            let here = low (treatment_of options) (automaton_at automata a).statements rules asked (lists_at classes a) columns part is number table marks has grids sets parents auto t state h in
            left_arranged m t grids (slice_index_or sets state []) (slice_index_or shown.states state []) (arranged.at state (omega (arith, here, each)))
            (stands (treatment_of options) (automaton_at automata a).statements rules asked (lists_at classes a) columns part is number table marks has grids sets parents auto t state (subst (λ n. All (IsOfClass n) t) (sym lists_count) all) h)

        ascending : All (λ grids. IsSorted grid_cmp grids) shown.states
        ascending i d within =
            let each = arranged.each in
            let at = arranged.at i (omega (arith, within, each)) in
            subst (IsSorted grid_cmp) (get_or_default shown.states i [] d within) at.sorted

    -- without `ndfa` the marks tell what is held, and with it there is no query unit
    held_there : MarksPresent grids sets queries marks → (IsTrue options.ndfa → queries ≡ []) → TellsWhatIsHeld (length (lists_at classes a)) m queries part
    held_there present none = by_option options.ndfa refl
      where
        by_option : (b : Bool) → options.ndfa ≡ b → TellsWhatIsHeld (length (lists_at classes a)) m queries part
        by_option true e = record { held = λ t state query unit all ends at. absurd (none-some unit (sym (ap (λ qs. slice_get qs query) (none e)) ∙ at)) }
        by_option false e =
            tells_held (treatment_of options) (automaton_at automata a).statements rules asked (lists_at classes a) columns part is number table marks has grids sets parents auto
            (ap (λ b. if b then any_fit else first_fit) e) queries (sym asks_count) present

    -- the part that is compiled
    pub compiled_part : (report : Report) → part.name ≡ (automaton_at automata a).name → MarksPresent grids sets queries marks → (IsTrue options.ndfa → queries ≡ []) → report.grids ≡ length grids → report.states ≡ length table → report.members ≡ sum_by length sets → ReportedOf report → IsWithinLimits (shows_states options) (lists_at classes a) (length queries) m → IsCompiledPart true options automata classes a part report
    compiled_part report named present none grids_are states_are members shown within = record {
      name = named;
      columns = columns;
      shared = is;
      number = number;
      asks = names;
      held = subst (λ n. TellsWhatIsHeld n m queries part) lists_count (held_there present none);
      walks = subst (λ n. WalksAccepted n m part) lists_count (walks_accepted (treatment_of options) (automaton_at automata a).statements rules asked (lists_at classes a) columns part is number table marks has grids sets parents auto);
      tells = subst (λ n. TellsWhatIsLeft n m part) lists_count (tells_left (treatment_of options) (automaton_at automata a).statements rules asked (lists_at classes a) columns part is number table marks has grids sets parents auto);
      numbered = numbered (treatment_of options) (automaton_at automata a).statements rules asked (lists_at classes a) columns part is number table marks has grids sets parents auto;
      within = within;
      grids = subst (CountIs m part.columns count.grids) (sym grids_are) (there count.grids (length grids) (grid_count (by_column columns) part.columns (none_past columns part.columns number table grids sets parents auto) table grids sets parents auto));
      states = subst (CountIs m part.columns count.states) (sym states_are) (there count.states (length table) (state_count (by_column columns) part.columns (none_past columns part.columns number table grids sets parents auto) table grids sets parents auto));
      members = subst (CountIs m part.columns count.members) (sym members) (there count.members (sum_by length sets) (members_are columns part.columns number table grids sets parents auto));
      shown = shown_by (shows_states options) report.shown shown;
    }
      where
        there : (kind : Count) (n : ℕ) → CountIs (by_column columns) part.columns kind n → CountIs m part.columns kind n
        there kind n c = count_there columns part.map is part.columns n kind c

        shown_by : (b : Bool) (o : Option Shown) → MatchBool b (IsSomeAnd o (λ shown. (shown.parents ≡ parents) × AreArranged grids sets shown.states)) (o ≡ None) → MatchBool b (IsSomeAnd o (IsShown (length classes) m part)) (o ≡ None)
        shown_by false o h = h
        shown_by true None h = h
        shown_by true (Some shown) h = shown_there shown h

    -- what is kept of the part in a machine
    pub part_kept : (cap : ℕ) → cap ≤ cell_limit → length queries ≤ unit_limit → length table * (part.columns + length queries + 1) ≤ cap → IsPart (length classes) part
    part_kept cap cells few low = record {
      each = is.each ∙ lists_count;
      within = λ i d low. subst (λ n. n < part.columns) (get_or_default part.map i 0 d low) (let below = columns_within (lists_at classes a) columns part.map is i low in omega (arith, below, number));
      columns = let few = few_columns (lists_at classes a) columns part.map is in omega (arith, few, number, lists_count);
      asks = omega (arith, few, asks_count);
      table = asked_table table part.rows part.columns (length part.asks) marks auto.shape has;
      stays = asks_stay table part.rows part.columns (length part.asks) marks auto.shape has;
      cells = subst₂ (λ rows many. rows * (part.columns + many + 1) ≤ cell_limit) (sym has.each) (sym asks_count) (omega (arith, low, cells));
    }
