-- What is said of a compiled description may be said, and stands for its machine.
use Rattle.std.proofs.Common.{◌≡◌, ◌≢◌, ℕ, zero, suc, ◌+◌, ◌*◌, ◌<◌, ◌≤◌, Bool, true, false, List, [], ◌∷◌, ◌++◌, map, length, get_or, take, Option, Some, None, if◌then◌else◌, refl, sym, ap, ◌∙◌, subst, arith, drop, IsFalse, not}
use Rattle.std.specs.Prelude.{IfSome, IsTrue, All, MatchBool, IsSomeAnd, slice_index_or}
use Rattle.std.specs.Option.{option_map}
use Rattle.std.specs.List.{AllByRecursion, enumerate_from, AllPairs}
use Rattle.std.proofs.Math.Dec.{eqb-suc-zero}
use Rattle.std.proofs.lemmas.List.{length-map, take_more, take_all, length-take-le, get_or-take, get_or_default, get_or-drop, length-drop, take-append-drop}
use Rattle.std.proofs.lemmas.List.FromFn.{length-enumerate_from}
use Rattle.std.proofs.lemmas.List.Elements.{recursion_from_All}
use Rattle.hz_base_model.specs.Limits.{cycle_limit}
use Rattle.hz_base_model.specs.Names.{is_name}
use Rattle.hz_base_model.specs.Pairs.{Pair}
use Rattle.hz_description_model.specs.Reading.Descriptions.{Options}
use Rattle.hz_description_model.specs.Check.CheckedParts.{AutomatonParts}
use Rattle.hz_pipeline_model.specs.Tables.StateLimits.{state_limit, cell_limit}
use Rattle.hz_pipeline_model.specs.Tables.Tables.{Table, row_of, entry}
use Rattle.hz_pipeline_model.specs.Tables.Machines.{Part, Machine, IsPart, IsMachine, part_at, no_part, names_of}
use Rattle.hz_pipeline_model.specs.Tables.Orders.{place_of}
use Rattle.hz_pipeline_model.specs.Compiling.AutomatonPipelines.{automaton_at, no_automaton}
use Rattle.hz_pipeline_model.specs.Compiling.Compiled as compiled
use Rattle.hz_pipeline_model.specs.Compiling.Compiled.{Report, report_at, shows_states}
use Rattle.hz_tabtext_model.specs.Texts.{PartText, IsEntry, IsPair, IsShown, IsRow, AreCounts, IsPartText, IsTables, TableText, part_of, machine_of, spelled, RowText, AreRows, IsAskEntry, asks_said}
use Rattle.hz_tabtext_model.specs.Said.{named_grid, origin_said, shown_said, row_said, counts_said, part_said, tables_said, IsShownOf, CanBeSaid, IsInRange}
use Rattle.hz_tabtext_model.specs.Fields.{is_nil}

-- what holds of each item with its number holds of all that is made of them
each_made : {X Y : Type 0} (P : Y → Type 0) (f : ℕ × X → Y) (d : X) (xs : List X) (n : ℕ) → ((i : ℕ) → i < length xs → P (f (n + i, get_or xs i d))) → AllByRecursion P (map f (enumerate_from n xs))
each_made P f d [] n h = tt
each_made P f d (x ∷ xs) n h =
    let here : n + 0 ≡ n = omega arith in (
      subst (λ (k : ℕ). P (f (k, x))) here (h zero (omega arith)),
      each_made P f d xs (n + 1) (λ i low. let there : n + suc i ≡ (n + 1) + i = omega arith in subst (λ (k : ℕ). P (f (k, get_or xs i d))) there (h (suc i) (omega (arith, low)))),
    )

length_made : {X Y : Type 0} (f : ℕ × X → Y) (xs : List X) → length (map f (enumerate_from 0 xs)) ≡ length xs
length_made f xs = length-map (enumerate_from 0 xs) f ∙ length-enumerate_from 0 xs

-- ---- the machine that is said

rows_again : (units : List (List ℕ)) (shown : Option compiled.Shown) (n : ℕ) (rows : Table) → map (λ row. row.entries) (map (row_said units shown) (enumerate_from n rows)) ≡ rows
rows_again units shown n [] = refl
rows_again units shown n (row ∷ rows) = ap (λ (xs : Table). row ∷ xs) (rows_again units shown (n + 1) rows)

part_again : (stats : Bool) (units : List (List ℕ)) (report : Report) (part : Part) → part_of (part_said stats units report part) ≡ part
part_again stats units report part = ap (λ (rows : Table). record { name = part.name; map = part.map; columns = part.columns; asks = part.asks; rows = rows }) (rows_again units report.shown 0 part.rows)

parts_again : (f : ℕ × Part → PartText) → ((n : ℕ) (part : Part) → part_of (f (n, part)) ≡ part) → (n : ℕ) (parts : List Part) → map part_of (map f (enumerate_from n parts)) ≡ parts
parts_again f same n [] = refl
parts_again f same n (part ∷ parts) = ap (λ (p : Part). p ∷ map part_of (map f (enumerate_from (n + 1) parts))) (same n part) ∙ ap (λ (ps : List Part). part ∷ ps) (parts_again f same (n + 1) parts)

pub machine_again : (options : Options) (automata : List AutomatonParts) (reports : List Report) (m : Machine) → m ≡ machine_of (tables_said options automata reports m)
machine_again options automata reports m =
    ap (λ (parts : List Part). record { classes = m.classes; parts = parts })
    (sym (parts_again (λ part. part_said options.stats (automaton_at automata part.0).units (report_at reports part.0) part.1) (λ n part. part_again options.stats (automaton_at automata n).units (report_at reports n) part) 0 m.parts))

-- ---- rows

row_ends : {X : Type 0} (xs : List X) (n : ℕ) (d : X) → length xs ≡ n + 1 → xs ≡ take n xs ++ get_or xs n d ∷ []
row_ends xs n d long = sym (take_all (n + 1) xs (omega (arith, long))) ∙ take_more xs n d (omega (arith, long))

is_there : (e : Option ℕ) → e ≢ None → (state : ℕ) × (e ≡ Some state)
is_there None differ = absurd (differ refl)
is_there (Some state) differ = (state, refl)

is_entry : (states : ℕ) (e : Option ℕ) → ((next : ℕ) → e ≡ Some next → next < states) → IsEntry states e
is_entry states None h = tt
is_entry states (Some next) h = h next refl

-- ---- what is shown

pairs_fit : (units : List (List ℕ)) → All (λ name. IsTrue (is_name name)) units → (grid : List (Pair ℕ)) → All (λ pair. pair.unit < length units) grid → All (λ pair. pair.cycle < cycle_limit) grid → AllByRecursion IsPair (named_grid units grid)
pairs_fit units names [] of below = tt
pairs_fit units names (pair ∷ grid) of below = (
  record { cycle = below zero pair (omega arith); unit = names pair.unit [] (of zero pair (omega arith)) },
  pairs_fit units names grid (λ i d low. of (suc i) d (omega (arith, low))) (λ i d low. below (suc i) d (omega (arith, low))),
)

grids_fit : (units : List (List ℕ)) → All (λ name. IsTrue (is_name name)) units → (grids : List (List (Pair ℕ))) → All (All (λ pair. pair.unit < length units)) grids → All (All (λ pair. pair.cycle < cycle_limit)) grids → AllByRecursion (AllByRecursion IsPair) (map (named_grid units) grids)
grids_fit units names [] of below = tt
grids_fit units names (grid ∷ grids) of below = (
  pairs_fit units names grid (of zero grid (omega arith)) (below zero grid (omega arith)),
  grids_fit units names grids (λ i d low. of (suc i) d (omega (arith, low))) (λ i d low. below (suc i) d (omega (arith, low))),
)

origin_fits : (Q : ℕ × ℕ → Type 0) (places : List (ℕ × ℕ)) (state : ℕ) → (0 < state → Q (place_of places state)) → IfSome (origin_said places state) Q
origin_fits Q places zero h = tt
origin_fits Q places (suc k) h = subst (λ (b : Bool). IfSome (if b then None else Some (place_of places (suc k))) Q) (sym (eqb-suc-zero k)) (h (omega arith))

-- what is shown of a part: it is of its units, and cycles are below their limit
record IsShownWell (units : List (List ℕ)) (part : Part) (shown : compiled.Shown) : Type 0 where
  of : IsShownOf units part shown
  below : All (All (All (λ pair. pair.cycle < cycle_limit))) shown.states

shown_fits : (units : List (List ℕ)) → All (λ name. IsTrue (is_name name)) units → (part : Part) (shown : compiled.Shown) → IsShownWell units part shown → (state : ℕ) → state < length part.rows → IsShown part.columns (length part.rows) (shown_said units state shown)
shown_fits units names part shown h state low =
    let each = h.of.each in
    record {
      origin = origin_fits (λ place. (place.0 < length part.rows) × (place.1 ≤ part.columns)) shown.parents state (λ some. h.of.within state some low);
      grids = grids_fit units names (slice_index_or shown.states state []) (h.of.named state [] (omega (arith, low, each))) (h.below state [] (omega (arith, low, each)));
    }

maybe_shown : (units : List (List ℕ)) → All (λ name. IsTrue (is_name name)) units → (part : Part) (shown : Option compiled.Shown) → ((s : compiled.Shown) → shown ≡ Some s → IsShownWell units part s) → (state : ℕ) → state < length part.rows → IfSome (option_map (shown_said units state) shown) (IsShown part.columns (length part.rows))
maybe_shown units names part None h state low = tt
maybe_shown units names part (Some shown) h state low = shown_fits units names part shown (h shown refl) state low

-- an entry of an ask is the number of its row, or none
is_ask_entry : (number : ℕ) (e : Option ℕ) → ((next : ℕ) → e ≡ Some next → next ≡ number) → IsAskEntry number e
is_ask_entry number None h = tt
is_ask_entry number (Some next) h = h next refl

row_fits : (units : List (List ℕ)) → All (λ name. IsTrue (is_name name)) units → (classes : ℕ) (part : Part) → IsPart classes part → (shown : Option compiled.Shown) → ((s : compiled.Shown) → shown ≡ Some s → IsShownWell units part s) → (state : ℕ) → state < length part.rows
    → IsRow part.columns (length part.asks) (length part.rows) state (row_said units shown (state, get_or part.rows state []))
row_fits units names classes part fits shown h state low =
    let table = fits.table in
    let asks = length part.asks in
    let row : List (Option ℕ) = row_of part.rows state in
    let rest : List (Option ℕ) = drop part.columns row in
    let long : length row ≡ part.columns + asks + 1 = table.width state low in
    let after : length rest ≡ asks + 1 = omega (arith, length-drop part.columns row, long) in
    let advance : (next : ℕ) × (entry part.rows state (part.columns + asks) ≡ Some next) = is_there (entry part.rows state (part.columns + asks)) (table.advances state low) in
    let last : get_or rest asks None ≡ Some advance.0 = get_or-drop part.columns row asks None ∙ advance.1 in
    let tail : rest ≡ take asks rest ++ Some advance.0 ∷ [] = row_ends rest asks None after ∙ ap (λ (e : Option ℕ). take asks rest ++ e ∷ []) last in
    record {
      classes = take part.columns row;
      asked = take asks rest;
      advance = advance.0;
      entries = sym (take-append-drop part.columns row) ∙ ap (λ (es : List (Option ℕ)). take part.columns row ++ es) tail;
      width = length-take-le part.columns row (omega (arith, long));
      targets = recursion_from_All (IsEntry (length part.rows)) (take part.columns row) (λ i d below.
          let inside : i < part.columns = omega (arith, below, length-take-le part.columns row (omega (arith, long))) in
          let same : get_or (take part.columns row) i d ≡ entry part.rows state i = get_or-take part.columns row i d inside ∙ get_or_default row i d None (omega (arith, inside, long)) in
          is_entry (length part.rows) (get_or (take part.columns row) i d) (λ next e. table.targets state i next (sym same ∙ e)));
      ask_width = length-take-le asks rest (omega (arith, after));
      stays = recursion_from_All (IsAskEntry state) (take asks rest) (λ i d below.
          let inside : i < asks = omega (arith, below, length-take-le asks rest (omega (arith, after))) in
          let same : get_or (take asks rest) i d ≡ entry part.rows state (part.columns + i) = get_or-take asks rest i d inside ∙ (get_or_default rest i d None (omega (arith, inside, after)) ∙ get_or-drop part.columns row i None) in
          is_ask_entry state (get_or (take asks rest) i d) (λ next e. fits.stays.stays state i next inside (sym same ∙ e)));
      goes = table.targets state (part.columns + asks) advance.0 advance.1;
      shown = maybe_shown units names part shown h state low;
    }

-- rows that are right by their numbers
rows_made : (columns asks states : ℕ) (f : ℕ × List (Option ℕ) → RowText) (rows : Table) (n : ℕ) → ((i : ℕ) → i < length rows → IsRow columns asks states (n + i) (f (n + i, get_or rows i []))) → AreRows columns asks states n (map f (enumerate_from n rows))
rows_made columns asks states f [] n h = tt
rows_made columns asks states f (row ∷ rows) n h =
    let here : n + 0 ≡ n = omega arith in
    let next : n + 1 ≡ suc n = omega arith in (
      subst (λ (k : ℕ). IsRow columns asks states k (f (k, row))) here (h zero (omega arith)),
      subst (λ (k : ℕ). AreRows columns asks states k (map f (enumerate_from (n + 1) rows))) next
          (rows_made columns asks states f rows (n + 1) (λ i low.
          let there : n + suc i ≡ (n + 1) + i = omega arith in
          subst (λ (k : ℕ). IsRow columns asks states k (f (k, get_or rows i []))) there (h (suc i) (omega (arith, low))))),
    )

-- ---- parts

counts_fit : (stats : Bool) (report : Report) → AreCounts (counts_said report) → IfSome (if stats then Some (counts_said report) else None) AreCounts
counts_fit true report h = h
counts_fit false report h = tt

part_fits : (classes : ℕ) (stats : Bool) (units : List (List ℕ)) (report : Report) (part : Part) → IsPart classes part → IsTrue (is_name part.name) → All (λ name. IsTrue (is_name name)) part.asks → length part.rows ≤ state_limit → All (λ name. IsTrue (is_name name)) units → AreCounts (counts_said report) → ((s : compiled.Shown) → report.shown ≡ Some s → IsShownWell units part s) → IsPartText classes (part_said stats units report part)
part_fits classes stats units report part is name asks few names counts shown =
    let long : length (map (row_said units report.shown) (enumerate_from 0 part.rows)) ≡ length part.rows = length_made (row_said units report.shown) part.rows in
    let start = is.table.start in
    record {
      name = name;
      columns = is.columns;
      some = omega (arith, long, start);
      few = omega (arith, long, few);
      asks = recursion_from_All (λ name. IsTrue (is_name name)) part.asks asks;
      few_asks = is.asks;
      cells = subst (λ (n : ℕ). n * (part.columns + length part.asks + 1) ≤ cell_limit) (sym long) is.cells;
      each = is.each;
      within = recursion_from_All (λ column. column < part.columns) part.map is.within;
      counts = counts_fit stats report counts;
      rows = subst (λ (n : ℕ). AreRows part.columns (length part.asks) n 0 (map (row_said units report.shown) (enumerate_from 0 part.rows))) (sym long)
          (rows_made part.columns (length part.asks) (length part.rows) (row_said units report.shown) part.rows 0 (λ state low.
          let at : 0 + state ≡ state = omega arith in
          subst (λ (k : ℕ). IsRow part.columns (length part.asks) (length part.rows) k (row_said units report.shown (k, get_or part.rows state []))) (sym at) (row_fits units names classes part is report.shown shown state low)));
    }

-- the names of asks are those of the parts
asks_made : (make : ℕ × Part → PartText) → ((n : ℕ) (part : Part) → (make (n, part)).asks ≡ part.asks) → (n : ℕ) (parts : List Part) → asks_said (map make (enumerate_from n parts)) ≡ names_of parts
asks_made make same n [] = refl
asks_made make same n (part ∷ parts) = ap (λ (names : List (List ℕ)). names ++ asks_said (map make (enumerate_from (n + 1) parts))) (same n part) ∙ ap (λ (names : List (List ℕ)). part.asks ++ names) (asks_made make same (n + 1) parts)

not_nil : (names : List (List ℕ)) → IsFalse (not (is_nil names)) → names ≡ []
not_nil [] h = refl
not_nil (name ∷ names) h = absurd (cc)

reported_there : (P : compiled.Shown → Type 0) (b : Bool) (o : Option compiled.Shown) → MatchBool b (IsSomeAnd o P) (o ≡ None) → (s : compiled.Shown) → o ≡ Some s → P s
reported_there P true o h s e = subst (λ (x : Option compiled.Shown). IsSomeAnd x P) e h
reported_there P false o h s e = absurd (cc)

no_report : Report
no_report = record { grids = 0; states = 0; members = 0; shown = None }

pub said_fits : (options : Options) (automata : List AutomatonParts) (reports : List Report) (m : Machine) → CanBeSaid options automata reports m → IsMachine m → IsInRange automata reports m → IsTables (tables_said options automata reports m)
unfolding no_report
said_fits options automata reports m can is ranged =
    let make : ℕ × Part → PartText = λ part. part_said options.stats (automaton_at automata part.0).units (report_at reports part.0) part.1 in
    let long : length (map make (enumerate_from 0 m.parts)) ≡ length m.parts = length_made make m.parts in
    let some = is.some in
    let few = is.few in
    let parts = can.parts in
    let reported = can.reported in
    let asked : asks_said (map make (enumerate_from 0 m.parts)) ≡ names_of m.parts = asks_made make (λ n part. refl) 0 m.parts in
    record {
      names = recursion_from_All (λ name. IsTrue (is_name name)) m.classes ranged.classes;
      different = is.class_names;
      class_count = is.class_count;
      some = omega (arith, long, some);
      few = omega (arith, long, few);
      parts = each_made (IsPartText (length m.classes)) make no_part m.parts 0 (λ a low.
          let at : 0 + a ≡ a = omega arith in
          let automaton : a < length automata = omega (arith, low, parts) in
          let report : a < length reports = omega (arith, low, parts, reported) in
          subst (λ (k : ℕ). IsPartText (length m.classes) (make (k, get_or m.parts a no_part))) (sym at)
          (part_fits (length m.classes) options.stats (automaton_at automata a).units (report_at reports a) (get_or m.parts a no_part)
          (is.parts a no_part low) (ranged.parts a no_part low) (ranged.asks a no_part low) (ranged.rows a no_part low)
          (ranged.units a no_automaton automaton) (ranged.counts a no_report report)
          (λ s e. record {
            of = reported_there (IsShownOf (automaton_at automata a).units (part_at m a)) (shows_states options) (report_at reports a).shown (can.shown a automaton) s e;
            below = ranged.cycles a no_report report s e;
          })));
      asks = subst (λ (names : List (List ℕ)). AllPairs (λ a b. a ≢ b) names) (sym asked) is.ask_names;
      version = λ none. asked ∙ not_nil (names_of m.parts) none;
    }

-- what is said is a text of the machine
pub said_is_text : (options : Options) (automata : List AutomatonParts) (reports : List Report) (m : Machine) → CanBeSaid options automata reports m → IsMachine m → IsInRange automata reports m → TableText (spelled (tables_said options automata reports m)) m
said_is_text options automata reports m can is ranged = record {
  says = tables_said options automata reports m;
  fits = said_fits options automata reports m can is ranged;
  spells = refl;
  stands = machine_again options automata reports m;
}
