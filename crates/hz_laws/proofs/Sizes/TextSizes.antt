-- How long the text of a machine is, beside its names, where nothing is reported of its states.
use Rattle.std.proofs.Common.{◌≡◌, ℕ, zero, suc, ◌+◌, ◌*◌, ◌^◌, ◌<◌, ◌≤◌, Bool, true, false, List, [], ◌∷◌, ◌++◌, map, length, get_or, All, Option, Some, None, if◌then◌else◌, refl, sym, ◌∙◌, subst, arith, decimal, codes, not}
use Rattle.std.specs.List.{sum_by, flat_map, enumerate_from}
use Rattle.std.proofs.lemmas.Fmt.{length-decimal-le}
use Rattle.std.proofs.lemmas.List.{length-map, get_or_default}
use Rattle.std.proofs.lemmas.List.FromFn.{length-enumerate_from}
use Rattle.std.proofs.lemmas.List.Elements.{All-map, All-weaker}
use Rattle.std.proofs.lemmas.List.Sums.{sum_by-cons, sum_by-append}
use Rattle.hz_base_model.specs.Limits.{class_limit, unit_limit}
use Rattle.hz_description_model.specs.Reading.Descriptions.{Options}
use Rattle.hz_description_model.specs.Check.CheckedParts.{AutomatonParts}
use Rattle.hz_pipeline_model.specs.Tables.StateLimits.{state_limit, cell_limit}
use Rattle.hz_pipeline_model.specs.Tables.Tables.{Table, row_of, entry, IsTable}
use Rattle.hz_pipeline_model.specs.Tables.Machines.{Part, Machine, IsPart, IsMachine, no_part, names_of, advance_of}
use Rattle.hz_pipeline_model.specs.Compiling.AutomatonPipelines.{automaton_at}
use Rattle.hz_pipeline_model.specs.Compiling.Compiled as compiled
use Rattle.hz_pipeline_model.specs.Compiling.Compiled.{Report, report_at}
use Rattle.hz_tabtext_model.specs.Texts.{PartText, AreCounts, entry_field, entries_line, row_lines, counts_lines, head_line, map_line, part_lines, treatment_line, class_line, spelled, asks_lines, header_line}
use Rattle.hz_tabtext_model.specs.Said.{row_said, counts_said, part_said, tables_said}
use Rattle.hz_laws.specs.Sizes.Extents.{unnamed_limit, bytes_of_names}
use Rattle.hz_laws.proofs.Sizes.LineSizes.{line_bytes, text_bytes, line_is, line_most, text_more, text_append}
use Rattle.hz_tabtext_model.specs.Fields.{is_nil}

-- ---- rows

abbrev IsShort : Option ℕ → Type 0
IsShort e = length (entry_field e) ≤ 5

entry_short : (states : ℕ) (e : Option ℕ) → states ≤ state_limit → ((next : ℕ) → e ≡ Some next → next < states) → IsShort e
entry_short states None few h = omega arith
entry_short states (Some next) few h = let low = h next refl in length-decimal-le 5 next (omega arith) (omega (arith, few, low)) (omega (arith, few, low))

-- each row has an entry for each column, and the advance
abbrev IsShortRow : ℕ → List (Option ℕ) → Type 0
IsShortRow columns row = (length row ≡ columns + 1) × All IsShort row

rows_short : (table : Table) (columns : ℕ) → IsTable table columns → length table ≤ state_limit → All (IsShortRow columns) table
rows_short table columns is few = λ state d low.
    let same : get_or table state d ≡ row_of table state = get_or_default table state d [] low in
    subst (IsShortRow columns) (sym same) (
      is.width state low,
      λ i e inside. let entry_is : get_or (row_of table state) i e ≡ entry table state i = get_or_default (row_of table state) i e None inside in
          entry_short (length table) (get_or (row_of table state) i e) few (λ next there. is.targets state i next (sym entry_is ∙ there)),
    )

row_most : (columns : ℕ) (row : List (Option ℕ)) → IsShortRow columns row → line_bytes (entries_line row) ≤ 4 + (columns + 1) * 6
row_most columns row is =
    let line = line_most 5 (codes "row") (map entry_field row) (All-map (λ f. length f ≤ 5) entry_field row is.1) in
    omega (arith, line, length-map row entry_field, is.0)

rows_most : (columns : ℕ) (units : List (List ℕ)) (n : ℕ) (rows : Table) → All (IsShortRow columns) rows → text_bytes (flat_map row_lines (map (row_said units None) (enumerate_from n rows))) ≤ length rows * (4 + (columns + 1) * 6)
rows_most columns units n [] short = omega arith
rows_most columns units n (row ∷ rows) short =
    let here = row_most columns row (short zero row (omega arith)) in
    let later = rows_most columns units (n + 1) rows (λ i d low. short (suc i) d (omega (arith, low))) in
    omega (arith, here, later, text_more (entries_line row) (flat_map row_lines (map (row_said units None) (enumerate_from (n + 1) rows))))

-- ---- parts

map_most : (classes columns : ℕ) (numbers : List ℕ) → columns ≤ class_limit → length numbers ≡ classes → All (λ n. n < columns) numbers → line_bytes (map_line numbers) ≤ 4 + classes * 5
map_most classes columns numbers few each within =
    let short = All-map (λ f. length f ≤ 4) decimal numbers (All-weaker (λ n. n < columns) (λ n. length (decimal n) ≤ 4) (λ n low. length-decimal-le 4 n (omega arith) (omega (arith, low, few)) (omega (arith, low, few))) numbers within) in
    omega (arith, line_most 4 (codes "map") (map decimal numbers) short, length-map numbers decimal, each)

-- three fields of at most ten bytes
three_most : (word a b c : List ℕ) → length a ≤ 10 → length b ≤ 10 → length c ≤ 10 → line_bytes (word ∷ a ∷ b ∷ c ∷ []) ≤ length word + 34
three_most word a b c short short' short'' =
    let size : List ℕ → ℕ = λ f. length f + 1 in
    omega (arith, line_is word (a ∷ b ∷ c ∷ []), sum_by-cons size a (b ∷ c ∷ []), sum_by-cons size b (c ∷ []), sum_by-cons size c [], short, short', short'')

count_short : (n : ℕ) → n < 2 ^ 32 → length (decimal n) ≤ 10
count_short n low = length-decimal-le 10 n (omega arith) (omega (arith, low)) (omega (arith, low))

counts_most : (stats : Bool) (report : Report) → AreCounts (counts_said report) → text_bytes (counts_lines (if stats then Some (counts_said report) else None)) ≤ 39
counts_most false report are = omega arith
counts_most true report are =
    let line = three_most (codes "stats") (decimal report.grids) (decimal report.states) (decimal report.members) (count_short report.grids are.grids) (count_short report.states are.states) (count_short report.members are.members) in
    omega (arith, line, text_more (codes "stats" ∷ decimal report.grids ∷ decimal report.states ∷ decimal report.members ∷ []) [])

head_most : (name : List ℕ) (columns states : ℕ) → columns ≤ class_limit → states ≤ state_limit → line_bytes (codes "automaton" ∷ name ∷ decimal columns ∷ decimal states ∷ []) ≤ length name + 22
head_most name columns states few few' =
    let size : List ℕ → ℕ = λ f. length f + 1 in
    let one = length-decimal-le 4 columns (omega arith) (omega (arith, few)) (omega (arith, few)) in
    let other = length-decimal-le 5 states (omega arith) (omega (arith, few')) (omega (arith, few')) in
    omega (arith, line_is (codes "automaton") (name ∷ decimal columns ∷ decimal states ∷ []), sum_by-cons size name (decimal columns ∷ decimal states ∷ []), sum_by-cons size (decimal columns) (decimal states ∷ []), sum_by-cons size (decimal states) [], one, other)

-- the bytes of a part without its name, at most
abbrev part_limit : ℕ
part_limit = cell_limit * 6 + state_limit * 4 + class_limit * 5 + unit_limit + 70

-- a line of asks, where there is one
asks_most : (asked : Bool) (asks : List (List ℕ)) → length asks ≤ unit_limit → text_bytes (asks_lines asked asks) ≤ sum_by length asks + unit_limit + 5
asks_most false asks few = omega arith
asks_most true asks few = omega (arith, text_more (codes "asks" ∷ asks) [], line_is (codes "asks") asks, one_more_each asks, few)
  where
    one_more_each : (names : List (List ℕ)) → sum_by (λ f. length f + 1) names ≡ sum_by length names + length names
    one_more_each [] = omega arith
    one_more_each (name ∷ names) = omega (arith, one_more_each names, sum_by-cons (λ f. length f + 1) name names, sum_by-cons length name names)

part_most : (asked : Bool) (classes : ℕ) (stats : Bool) (units : List (List ℕ)) (report : Report) (part : Part) → classes ≤ class_limit → IsPart classes part → length part.rows ≤ state_limit → AreCounts (counts_said report) → report.shown ≡ None → text_bytes (part_lines asked (part_said stats units report part)) ≤ length part.name + sum_by length part.asks + part_limit
part_most asked classes stats units report part few is rows counts none =
    let says = part_said stats units report part in
    let rest = flat_map row_lines says.rows in
    let long : length says.rows ≡ length part.rows = length-map (enumerate_from 0 part.rows) (row_said units report.shown) ∙ length-enumerate_from 0 part.rows in
    let columns = is.columns in
    let cells = is.cells in
    let head = head_most part.name part.columns (length says.rows) (omega (arith, columns, few)) (omega (arith, long, rows)) in
    let maps = map_most classes part.columns part.map (omega (arith, columns, few)) is.each is.within in
    let counts = counts_most stats report counts in
    let table : text_bytes rest ≤ length part.rows * (4 + (part.columns + length part.asks + 1) * 6) = subst (λ (o : Option compiled.Shown). text_bytes (flat_map row_lines (map (row_said units o) (enumerate_from 0 part.rows))) ≤ length part.rows * (4 + (part.columns + length part.asks + 1) * 6)) (sym none) (rows_most (advance_of part) units 0 part.rows (rows_short part.rows (advance_of part) is.table rows)) in
    omega (
      arith,
      head,
      maps,
      counts,
      table,
      cells,
      rows,
      few,
      asks_most asked part.asks is.asks,
      text_more (head_line says) (map_line says.map ∷ (asks_lines asked part.asks ++ (counts_lines says.counts ++ rest))),
      text_more (map_line says.map) (asks_lines asked part.asks ++ (counts_lines says.counts ++ rest)),
      text_append (asks_lines asked part.asks) (counts_lines says.counts ++ rest),
      text_append (counts_lines says.counts) rest,
    )

-- the bytes of the names of a part
abbrev name_bytes : Part → ℕ
name_bytes part = length part.name + sum_by length part.asks

parts_most : (asked : Bool) (make : ℕ × Part → PartText) (n : ℕ) (parts : List Part) → ((i : ℕ) → i < length parts → text_bytes (part_lines asked (make (n + i, get_or parts i no_part))) ≤ name_bytes (get_or parts i no_part) + part_limit)
    → text_bytes (flat_map (part_lines asked) (map make (enumerate_from n parts))) ≤ length parts * part_limit + sum_by (λ part. length part.name) parts + sum_by length (names_of parts)
parts_most asked make n [] short = omega arith
parts_most asked make n (part ∷ parts) short =
    let at : n + 0 ≡ n = omega arith in
    let here : text_bytes (part_lines asked (make (n, part))) ≤ name_bytes part + part_limit = subst (λ (k : ℕ). text_bytes (part_lines asked (make (k, part))) ≤ name_bytes part + part_limit) at (short zero (omega arith)) in
    let later = parts_most asked make (n + 1) parts (λ i low. let there : n + suc i ≡ (n + 1) + i = omega arith in subst (λ (k : ℕ). text_bytes (part_lines asked (make (k, get_or parts i no_part))) ≤ name_bytes (get_or parts i no_part) + part_limit) there (short (suc i) (omega (arith, low)))) in
    omega (
      arith,
      here,
      later,
      text_append (part_lines asked (make (n, part))) (flat_map (part_lines asked) (map make (enumerate_from (n + 1) parts))),
      sum_by-cons (λ p. length p.name) part parts,
      sum_by-append length part.asks (names_of parts),
    )

-- ---- texts

class_most : (name : List ℕ) → line_bytes (class_line name) ≡ 7 + length name
class_most name = omega (arith, line_is (codes "class") (name ∷ []), sum_by-cons (λ f. length f + 1) name [])

classes_most : (names : List (List ℕ)) → text_bytes (map class_line names) ≡ length names * 7 + sum_by length names
classes_most [] = omega arith
classes_most (name ∷ names) = omega (arith, text_more (class_line name) (map class_line names), class_most name, classes_most names, sum_by-cons length name names)

-- a word and a number
number_most : (word : List ℕ) (n : ℕ) → n ≤ 9999 → line_bytes (word ∷ decimal n ∷ []) ≤ length word + 6
number_most word n few =
    let short = length-decimal-le 4 n (omega arith) (omega (arith, few)) (omega (arith, few)) in
    omega (arith, line_is word (decimal n ∷ []), sum_by-cons (λ f. length f + 1) (decimal n) [], short)

header_most : (asked : Bool) → line_bytes (header_line asked) ≤ 16
header_most true = omega (arith, line_is (codes "hazard-tables") (codes "2" ∷ []), sum_by-cons (λ f. length f + 1) (codes "2") [])
header_most false = omega (arith, line_is (codes "hazard-tables") (codes "1" ∷ []), sum_by-cons (λ f. length f + 1) (codes "1") [])

treatment_most : (ndfa : Bool) → line_bytes (treatment_line ndfa) ≤ 16
treatment_most true = omega (arith, line_is (codes "treatment") (codes "ndfa" ∷ []), sum_by-cons (λ f. length f + 1) (codes "ndfa") [])
treatment_most false = omega (arith, line_is (codes "treatment") (codes "first" ∷ []), sum_by-cons (λ f. length f + 1) (codes "first") [])

-- what is said of a machine of whose states nothing is reported
module _ (options : Options) (automata : List AutomatonParts) (reports : List Report) (m : Machine) where
  abbrev said_at : ℕ × Part → PartText
  said_at part = part_said options.stats (automaton_at automata part.0).units (report_at reports part.0) part.1

  -- counts that can be reported, and nothing of states
  pub record TellsCounts (a : ℕ) : Type 0 where
    pub counts : AreCounts (counts_said (report_at reports a))
    pub nothing : (report_at reports a).shown ≡ None

  pub spelled_most : IsMachine m → All (λ part. length part.rows ≤ state_limit) m.parts → ((a : ℕ) → a < length m.parts → TellsCounts a) → length (spelled (tables_said options automata reports m)) ≤ unnamed_limit + bytes_of_names m
  spelled_most is rows tells =
      let few = is.few in
      let class_count = is.class_count in
      let asked = not (is_nil (names_of m.parts)) in
      let says = map said_at (enumerate_from 0 m.parts) in
      let long : length says ≡ length m.parts = length-map (enumerate_from 0 m.parts) said_at ∙ length-enumerate_from 0 m.parts in
      let parts : text_bytes (flat_map (part_lines asked) says) ≤ length m.parts * part_limit + sum_by (λ part. length part.name) m.parts + sum_by length (names_of m.parts) = parts_most asked said_at 0 m.parts (λ a low.
      let at : 0 + a ≡ a = omega arith in
      let reported = tells a low in
      subst (λ (k : ℕ). text_bytes (part_lines asked (said_at (k, get_or m.parts a no_part))) ≤ name_bytes (get_or m.parts a no_part) + part_limit) (sym at)
      (part_most asked (length m.classes) options.stats (automaton_at automata a).units (report_at reports a) (get_or m.parts a no_part) class_count (is.parts a no_part low) (rows a no_part low) reported.counts reported.nothing)) in
      let title = header_line asked in
      let classes = codes "classes" ∷ decimal (length m.classes) ∷ [] in
      let automata_line = codes "automata" ∷ decimal (length says) ∷ [] in
      let beyond = flat_map (part_lines asked) says ++ (codes "end" ∷ []) ∷ [] in
      let after = map class_line m.classes ++ automata_line ∷ beyond in
      omega (
        arith,
        few,
        class_count,
        long,
        parts,
        text_more title (treatment_line options.ndfa ∷ classes ∷ after),
        header_most asked,
        text_more (treatment_line options.ndfa) (classes ∷ after),
        treatment_most options.ndfa,
        text_more classes after,
        number_most (codes "classes") (length m.classes) (omega (arith, class_count)),
        text_append (map class_line m.classes) (automata_line ∷ beyond),
        classes_most m.classes,
        text_more automata_line beyond,
        number_most (codes "automata") (length says) (omega (arith, few, long)),
        text_append (flat_map (part_lines asked) says) ((codes "end" ∷ []) ∷ []),
        text_more (codes "end" ∷ []) [],
        line_is (codes "end") [],
      )
