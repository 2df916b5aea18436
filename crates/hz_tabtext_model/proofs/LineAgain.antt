-- What was spelled is judged to be what was said.
use Rattle.std.proofs.Common.{◌≡◌, ℕ, suc, ◌+◌, ◌*◌, ◌^◌, ◌<◌, ◌≤◌, Bool, true, false, nat_le, List, [], ◌∷◌, ◌++◌, map, length, take, drop, Option, Some, None, Result, Ok, refl, sym, ap, ◌∙◌, subst, arith, decimal, codes, IsTrue}
use Rattle.std.specs.Prelude.{◌==◌, ◌&&◌, not}
use Rattle.std.specs.Char.{is_ascii_digit}
use Rattle.std.specs.List.{AllByRecursion, list_all, before_first, after_first, position_or_len}
use Rattle.std.proofs.lemmas.Bool.{and_parts, and_from, le-leb, eq-eqb, leb-true, ne_eqb}
use Rattle.std.proofs.lemmas.List.{take_at, drop_at, map-append, length-map, length-append}
use Rattle.std.proofs.lemmas.List.Folds.{list_all-append}
use Rattle.std.proofs.lemmas.Fmt.{decimal_nonempty}
use Rattle.hz_base_model.specs.Names.{is_name}
use Rattle.hz_base_model.specs.Limits.{automaton_limit, class_limit, cycle_limit, unit_limit}
use Rattle.hz_pipeline_model.specs.Tables.StateLimits.{state_limit, cell_limit}
use Rattle.hz_tabtext_model.specs.Judging.{Kind, each_by}
use Rattle.hz_tabtext_model.specs.Fields.{is_nil, number_below, entry_in, advance_in, is_colon, has_unit, cycle_in, ask_entry_in}
use Rattle.hz_tabtext_model.specs.Lines.{header_in, treatment_in, classes_in, is_new, class_in, automata_in, Head, are_states, head_in, map_in, counts_in, row_in, origin_in, grid_in, end_in, asks_of, asks_in, are_asks}
use Rattle.hz_tabtext_model.specs.Texts.{Counts, AreCounts, joined, entry_field, entries_line, origin_line, pair_field, grid_line, map_line, treatment_line, class_line, IsEntry, IsPair, header_line, IsAskEntry}
use Rattle.hz_tabtext_model.proofs.Steps.{each_again}
use Rattle.hz_tabtext_model.proofs.Numbers.{number_again, where_again, below_again, entry_again, advance_again, digits_of_decimal, ask_entry_again}
use Rattle.hz_tabtext_model.proofs.FieldLaws.{is_field, is_visible, name_is_field, visible_decimal, append_is_field, operands_again}
use Rattle.hz_tabtext_model.proofs.LineTakes.{IsHead, AreEntries, IsOrigin, AreNew, AreAsks}

-- A line has visible fields, and is judged to be this.
pub record Spells {A : Type 0} (judge : List ℕ → Result A Kind) (fields : List (List ℕ)) (x : A) : Type 0 where
  pub seen : list_all is_field fields ≡ true
  pub again : judge (joined fields) ≡ Ok x

field_of_decimal : (n : ℕ) → n < 2 ^ 64 → is_field (decimal n) ≡ true
field_of_decimal n lt = some (decimal n) (decimal_nonempty n lt) (visible_decimal n lt)
  where
    some : (field : List ℕ) → 0 < length field → list_all is_visible field ≡ true → is_field field ≡ true
    some [] none h = absurd (omega arith)
    some (b ∷ bs) one h = h

pub header_again : (asked : Bool) → Spells header_in (header_line asked) asked
unfolding header_in joined
header_again true = record { seen = refl; again = refl }
header_again false = record { seen = refl; again = refl }

pub end_again : Spells end_in (codes "end" ∷ []) tt
unfolding end_in joined
end_again = record { seen = refl; again = refl }

pub treatment_again : (ndfa : Bool) → Spells treatment_in (treatment_line ndfa) ndfa
unfolding treatment_in
treatment_again true = record { seen = refl; again = rw (operands_again (codes "treatment") (codes "ndfa" ∷ []) refl refl) refl }
treatment_again false = record { seen = refl; again = rw (operands_again (codes "treatment") (codes "first" ∷ []) refl refl) refl }

-- one visible field
one_seen : (field : List ℕ) → is_field field ≡ true → list_all is_field (field ∷ []) ≡ true
one_seen field h = and_from (is_field field) true h refl

pub classes_again : (count : ℕ) → count ≤ class_limit → Spells classes_in (codes "classes" ∷ decimal count ∷ []) count
unfolding classes_in
classes_again count small =
    let seen = one_seen (decimal count) (field_of_decimal count (omega arith)) in
    let number = where_again (λ n. nat_le n class_limit) count (omega arith) (le-leb count class_limit small) in
    record { seen = seen; again = rw (operands_again (codes "classes") (decimal count ∷ []) refl seen) number }

pub class_again : (before : List (List ℕ)) (name : List ℕ) → is_name name ≡ true → is_new before name ≡ true → Spells (class_in before) (class_line name) name
unfolding class_in
class_again before name named new =
    let seen = one_seen name (name_is_field name named) in
    let both : (is_name name && is_new before name) ≡ true = and_from (is_name name) (is_new before name) named new in
    record { seen = seen; again = rw (operands_again (codes "class") (name ∷ []) refl seen, both) refl }

pub automata_again : (count : ℕ) → 1 ≤ count → count ≤ automaton_limit → Spells automata_in (codes "automata" ∷ decimal count ∷ []) count
unfolding automata_in
automata_again count some few =
    let seen = one_seen (decimal count) (field_of_decimal count (omega arith)) in
    let number = where_again (λ n. nat_le 1 n && nat_le n automaton_limit) count (omega arith) (and_from (nat_le 1 count) (nat_le count automaton_limit) (le-leb 1 count some) (le-leb count automaton_limit few)) in
    record { seen = seen; again = rw (operands_again (codes "automata") (decimal count ∷ []) refl seen) number }

pub head_again : (classes : ℕ) (head : Head) → classes ≤ class_limit → IsHead classes head
    → Spells (head_in classes) (codes "automaton" ∷ head.name ∷ decimal head.columns ∷ decimal head.states ∷ []) head
unfolding head_in
head_again classes head small h =
    let low = h.columns in
    let few = h.few in
    let rest : list_all is_field (decimal head.columns ∷ decimal head.states ∷ []) ≡ true = and_from (is_field (decimal head.columns)) (is_field (decimal head.states) && true) (field_of_decimal head.columns (omega arith)) (one_seen (decimal head.states) (field_of_decimal head.states (omega arith))) in
    let seen : list_all is_field (head.name ∷ decimal head.columns ∷ decimal head.states ∷ []) ≡ true = and_from (is_field head.name) (list_all is_field (decimal head.columns ∷ decimal head.states ∷ [])) (name_is_field head.name h.name) rest in
    let range = and_from (nat_le 1 head.states) (nat_le head.states state_limit) (le-leb 1 head.states h.some) (le-leb head.states state_limit few) in
    let columns = where_again (λ n. nat_le n classes) head.columns (omega arith) (le-leb head.columns classes low) in
    let states = where_again (are_states head.columns) head.states (omega arith) (and_from (nat_le 1 head.states && nat_le head.states state_limit) (nat_le (head.states * (head.columns + 1)) cell_limit) range (le-leb (head.states * (head.columns + 1)) cell_limit h.cells)) in
    let named = h.name in
    record { seen = seen; again = rw (operands_again (codes "automaton") (head.name ∷ decimal head.columns ∷ decimal head.states ∷ []) refl seen, named, columns, states) refl }

-- each field of a line that spells numbers below a limit is visible
numbers_seen : (limit : ℕ) → limit ≤ 2 ^ 32 → (numbers : List ℕ) → AllByRecursion (λ n. n < limit) numbers → list_all is_field (map decimal numbers) ≡ true
numbers_seen limit small [] h = refl
numbers_seen limit small (n ∷ ns) h = let lt = h.0 in and_from (is_field (decimal n)) (list_all is_field (map decimal ns)) (field_of_decimal n (omega arith)) (numbers_seen limit small ns h.1)

pub map_again : (classes columns : ℕ) (places : List ℕ) → columns ≤ 2 ^ 32 → length places ≡ classes → AllByRecursion (λ column. column < columns) places → Spells (map_in classes columns) (map_line places) places
unfolding map_in
map_again classes columns places small each within =
    let seen = numbers_seen columns small places within in
    let long : (length (map decimal places) == classes) ≡ true = eq-eqb (length (map decimal places)) classes (length-map places decimal ∙ each) in
    let numbers = each_again (number_below columns) decimal (λ column. column < columns) (λ n lt. below_again columns n small lt) places within in
    record { seen = seen; again = rw (operands_again (codes "map") (map decimal places) refl seen, long, numbers) refl }

asks_of_again : (before asks : List (List ℕ)) → AllByRecursion (λ name. IsTrue (is_name name)) asks → AreNew before asks → asks_of before asks ≡ Ok asks
unfolding asks_of
asks_of_again before [] named new = refl
asks_of_again before (name ∷ asks) named new =
    let both : (is_name name && is_new before name) ≡ true = and_from (is_name name) (is_new before name) named.0 new.0 in
    rw (both, asks_of_again (before ++ name ∷ []) asks named.1 new.1) refl

-- each name is visible
pub names_seen : (names : List (List ℕ)) → AllByRecursion (λ name. IsTrue (is_name name)) names → list_all is_field names ≡ true
names_seen [] named = refl
names_seen (name ∷ names) named = and_from (is_field name) (list_all is_field names) (name_is_field name named.0) (names_seen names named.1)

pub asks_again : (columns states : ℕ) (before asks : List (List ℕ)) → AreAsks columns states before asks → Spells (asks_in columns states before) (codes "asks" ∷ asks) asks
unfolding asks_in
asks_again columns states before asks h =
    let seen = names_seen asks h.named in
    let test : are_asks columns states (length asks) ≡ true =
    and_from (nat_le (length asks) unit_limit) (nat_le (states * (columns + length asks + 1)) cell_limit) (le-leb (length asks) unit_limit h.few) (le-leb (states * (columns + length asks + 1)) cell_limit h.cells) in
    let again = asks_of_again before asks h.named h.new in
    record { seen = seen; again = rw (operands_again (codes "asks") asks refl seen, again, test) refl }

pub counts_again : (counts : Counts) → AreCounts counts → Spells counts_in (codes "stats" ∷ decimal counts.grids ∷ decimal counts.states ∷ decimal counts.members ∷ []) tt
unfolding counts_in
counts_again counts h =
    let g = h.grids in
    let s = h.states in
    let m = h.members in
    let last = and_from (is_field (decimal counts.states)) (list_all is_field (decimal counts.members ∷ [])) (field_of_decimal counts.states (omega arith)) (one_seen (decimal counts.members) (field_of_decimal counts.members (omega arith))) in
    let seen = and_from (is_field (decimal counts.grids)) (list_all is_field (decimal counts.states ∷ decimal counts.members ∷ [])) (field_of_decimal counts.grids (omega arith)) last in
    record { seen = seen; again = rw (operands_again (codes "stats") (decimal counts.grids ∷ decimal counts.states ∷ decimal counts.members ∷ []) refl seen, number_again counts.grids g, number_again counts.states s, number_again counts.members m) refl }

entry_seen : (states : ℕ) → states ≤ 2 ^ 32 → (entry : Option ℕ) → IsEntry states entry → is_field (entry_field entry) ≡ true
entry_seen states small None h = refl
entry_seen states small (Some state) h = field_of_decimal state (omega (arith, h))

entries_seen : (states : ℕ) → states ≤ 2 ^ 32 → (entries : List (Option ℕ)) → AllByRecursion (IsEntry states) entries → list_all is_field (map entry_field entries) ≡ true
entries_seen states small [] h = refl
entries_seen states small (e ∷ es) h = and_from (is_field (entry_field e)) (list_all is_field (map entry_field es)) (entry_seen states small e h.0) (entries_seen states small es h.1)

last_again : (states advance : ℕ) → states ≤ 2 ^ 32 → advance < states → each_by (advance_in states) (decimal advance ∷ []) ≡ Ok (Some advance ∷ [])
unfolding each_by
last_again states advance small goes = rw (advance_again states advance small goes) refl

ask_entry_seen : (number : ℕ) → number < 2 ^ 32 → (entry : Option ℕ) → IsAskEntry number entry → is_field (entry_field entry) ≡ true
ask_entry_seen number small None h = refl
ask_entry_seen number small (Some state) h = field_of_decimal state (omega (arith, h, small))

ask_entries_seen : (number : ℕ) → number < 2 ^ 32 → (entries : List (Option ℕ)) → AllByRecursion (IsAskEntry number) entries → list_all is_field (map entry_field entries) ≡ true
ask_entries_seen number small [] h = refl
ask_entries_seen number small (e ∷ es) h = and_from (is_field (entry_field e)) (list_all is_field (map entry_field es)) (ask_entry_seen number small e h.0) (ask_entries_seen number small es h.1)

-- the entries of asks, and the advance after them
module _ (asks states number : ℕ) (asked : List (Option ℕ)) (advance : ℕ) (small : states ≤ 2 ^ 32) (low : number < 2 ^ 32) (width : length asked ≡ asks) (stays : AllByRecursion (IsAskEntry number) asked) (goes : advance < states) where
  abbrev tail_fields : List (List ℕ)
  tail_fields = map entry_field (asked ++ Some advance ∷ [])

  tail_parts : tail_fields ≡ map entry_field asked ++ decimal advance ∷ []
  tail_parts = map-append entry_field asked (Some advance ∷ [])

  tail_width : length (map entry_field asked) ≡ asks
  tail_width = length-map asked entry_field ∙ width

  tail_long : length tail_fields ≡ asks + 1
  tail_long = ap length tail_parts ∙ omega (arith, length-append (map entry_field asked) (decimal advance ∷ []), tail_width)

  tail_seen : list_all is_field tail_fields ≡ true
  tail_seen =
      ap (list_all is_field) tail_parts
      ∙ (list_all-append is_field (map entry_field asked) (decimal advance ∷ [])
      ∙ and_from (list_all is_field (map entry_field asked)) (list_all is_field (decimal advance ∷ [])) (ask_entries_seen number low asked stays) (one_seen (decimal advance) (field_of_decimal advance (omega (arith, small, goes)))))

  tail_taken : take asks tail_fields ≡ map entry_field asked
  tail_taken = ap (take asks) tail_parts ∙ take_at (map entry_field asked) (decimal advance ∷ []) asks tail_width

  tail_left : drop asks tail_fields ≡ decimal advance ∷ []
  tail_left = ap (drop asks) tail_parts ∙ drop_at (map entry_field asked) (decimal advance ∷ []) asks tail_width

row_of_parts : (columns asks states number : ℕ) (classes asked : List (Option ℕ)) (advance : ℕ) → states ≤ 2 ^ 32 → number < 2 ^ 32 → length classes ≡ columns → AllByRecursion (IsEntry states) classes → length asked ≡ asks → AllByRecursion (IsAskEntry number) asked → advance < states
    → Spells (row_in columns asks states number) (entries_line (classes ++ (asked ++ Some advance ∷ []))) (classes ++ (asked ++ Some advance ∷ []))
unfolding row_in
row_of_parts columns asks states number classes asked advance small low width targets ask_width stays goes =
    let fields = map entry_field (classes ++ (asked ++ Some advance ∷ [])) in
    let tail = map entry_field (asked ++ Some advance ∷ []) in
    let parts : fields ≡ map entry_field classes ++ tail = map-append entry_field classes (asked ++ Some advance ∷ []) in
    let front : length (map entry_field classes) ≡ columns = length-map classes entry_field ∙ width in
    let seen : list_all is_field fields ≡ true = ap (list_all is_field) parts ∙ (list_all-append is_field (map entry_field classes) tail ∙ and_from (list_all is_field (map entry_field classes)) (list_all is_field tail) (entries_seen states small classes targets) (tail_seen asks states number asked advance small low ask_width stays goes)) in
    let total : length fields ≡ columns + asks + 1 = ap length parts ∙ omega (arith, length-append (map entry_field classes) tail, front, tail_long asks states number asked advance small low ask_width stays goes) in
    let long : (length fields == columns + asks + 1) ≡ true = eq-eqb (length fields) (columns + asks + 1) total in
    let taken : take columns fields ≡ map entry_field classes = ap (take columns) parts ∙ take_at (map entry_field classes) tail columns front in
    let left : drop columns fields ≡ tail = ap (drop columns) parts ∙ drop_at (map entry_field classes) tail columns front in
    let ask_taken : take asks tail ≡ map entry_field asked = tail_taken asks states number asked advance small low ask_width stays goes in
    let ask_left : drop asks tail ≡ decimal advance ∷ [] = tail_left asks states number asked advance small low ask_width stays goes in
    let first = each_again (entry_in states) entry_field (IsEntry states) (λ e h. entry_again states e small h) classes targets in
    let middle = each_again (ask_entry_in number) entry_field (IsAskEntry number) (λ e h. ask_entry_again number e low h) asked stays in
    let judged = operands_again (codes "row") fields refl seen in
    record { seen = seen; again = rw (judged, long, taken, left, ask_taken, ask_left, first, middle, last_again states advance small goes) refl }

pub row_again : (columns asks states number : ℕ) (entries : List (Option ℕ)) → states ≤ 2 ^ 32 → number < 2 ^ 32 → AreEntries columns asks states number entries → Spells (row_in columns asks states number) (entries_line entries) entries
row_again columns asks states number entries small low h =
    subst (λ (es : List (Option ℕ)). Spells (row_in columns asks states number) (entries_line es) es) (sym h.both) (row_of_parts columns asks states number h.classes h.asked h.advance small low h.width h.targets h.ask_width h.stays h.goes)

pub origin_again : (columns states : ℕ) (origin : Option (ℕ × ℕ)) → columns < 2 ^ 32 → states ≤ 2 ^ 32 → IsOrigin columns states origin → Spells (origin_in columns states) (origin_line origin) tt
unfolding origin_in
origin_again columns states None narrow small h = record { seen = refl; again = rw (operands_again (codes "from") (codes "-" ∷ []) refl refl) refl }
origin_again columns states (Some place) narrow small h =
    let row = h.0 in
    let column = h.1 in
    let seen = and_from (is_field (decimal place.0)) (list_all is_field (decimal place.1 ∷ [])) (field_of_decimal place.0 (omega arith)) (one_seen (decimal place.1) (field_of_decimal place.1 (omega arith))) in
    let second = where_again (λ n. nat_le n columns) place.1 (omega arith) (le-leb place.1 columns column) in
    record { seen = seen; again = rw (operands_again (codes "from") (decimal place.0 ∷ decimal place.1 ∷ []) refl seen, below_again states place.0 small row, second) refl }

-- the first colon of a pair comes after its digits
digits_then_colon : (ds rest : List ℕ) → list_all is_ascii_digit ds ≡ true → position_or_len is_colon (ds ++ 58 ∷ rest) ≡ length ds
digits_then_colon [] rest h = refl
digits_then_colon (d ∷ ds) rest h =
    let parts = and_parts (is_ascii_digit d) (list_all is_ascii_digit ds) h in
    let high = leb-true d 57 (and_parts (nat_le 48 d) (nat_le d 57) parts.0).1 in
    let other : is_colon d ≡ false = ne_eqb d 58 (λ e. omega (arith, e, high)) in
    let later = digits_then_colon ds rest parts.1 in
    let one : 1 + length ds ≡ suc (length ds) = omega arith in
    rw (other, later) one

pair_cut : (ds rest : List ℕ) → list_all is_ascii_digit ds ≡ true → (before_first is_colon (ds ++ 58 ∷ rest) ≡ ds) × (after_first is_colon (ds ++ 58 ∷ rest) ≡ rest)
pair_cut ds rest h =
    let at = digits_then_colon ds rest h in
    let beyond : drop (length ds + 1) (ds ++ 58 ∷ rest) ≡ rest = subst (λ (xs : List ℕ). drop (length ds + 1) xs ≡ rest) (append_more ds 58 rest) (drop_at (ds ++ 58 ∷ []) rest (length ds + 1) (length-append ds (58 ∷ []))) in
    (ap (λ n. take n (ds ++ 58 ∷ rest)) at ∙ take_at ds (58 ∷ rest) (length ds) refl, ap (λ n. drop (n + 1) (ds ++ 58 ∷ rest)) at ∙ beyond)
  where
    append_more : (xs : List ℕ) (y : ℕ) (zs : List ℕ) → (xs ++ y ∷ []) ++ zs ≡ xs ++ y ∷ zs
    append_more [] y zs = refl
    append_more (x ∷ xs) y zs = ap (λ (ws : List ℕ). x ∷ ws) (append_more xs y zs)

pair_again : (pair : ℕ × List ℕ) → IsPair pair → (has_unit (pair_field pair) ≡ true) × (cycle_in (pair_field pair) ≡ Ok pair.0) × (is_field (pair_field pair) ≡ true)
unfolding cycle_in
pair_again pair h =
    let low = h.cycle in
    let named = h.unit in
    let wide : pair.0 < 2 ^ 64 = omega arith in
    let cut = pair_cut (decimal pair.0) pair.1 (digits_of_decimal pair.0 wide) in
    let unit : is_field (58 ∷ pair.1) ≡ true = and_from (is_visible 58) (list_all is_visible pair.1) refl (and_parts (not (is_nil pair.1)) (list_all is_visible pair.1) (name_is_field pair.1 named)).1 in
    (ap is_name cut.1 ∙ named, ap (number_below cycle_limit) cut.0 ∙ below_again cycle_limit pair.0 (omega arith) low, append_is_field (decimal pair.0) (58 ∷ pair.1) (visible_decimal pair.0 wide) unit)

-- the cycles of a grid, and that all of its fields are right
pairs_again : (grid : List (ℕ × List ℕ)) → AllByRecursion IsPair grid
    → (list_all has_unit (map pair_field grid) ≡ true) × (each_by cycle_in (map pair_field grid) ≡ Ok (map (λ (p : ℕ × List ℕ). p.0) grid)) × (list_all is_field (map pair_field grid) ≡ true)
unfolding each_by
pairs_again [] h = (refl, refl, refl)
pairs_again (pair ∷ grid) h =
    let here = pair_again pair h.0 in
    let later = pairs_again grid h.1 in
    (and_from (has_unit (pair_field pair)) (list_all has_unit (map pair_field grid)) here.0 later.0, rw (here.1, later.1) refl, and_from (is_field (pair_field pair)) (list_all is_field (map pair_field grid)) here.2 later.2)

pub grid_again : (grid : List (ℕ × List ℕ)) → AllByRecursion IsPair grid → Spells grid_in (grid_line grid) tt
unfolding grid_in
grid_again grid h =
    let p = pairs_again grid h in
    record { seen = p.2; again = rw (operands_again (codes "grid") (map pair_field grid) refl p.2, p.0, p.1) refl }
