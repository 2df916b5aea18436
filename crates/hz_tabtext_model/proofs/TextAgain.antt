-- What is spelled is read as what was said.
use Rattle.std.proofs.Common.{◌≡◌, ◌≢◌, ℕ, zero, suc, ◌+◌, ◌^◌, ◌<◌, ◌≤◌, true, false, List, [], ◌∷◌, ◌++◌, map, length, get_or, Option, Some, None, Result, Ok, refl, sym, ap, ◌∙◌, subst, arith, append_assoc, decimal, codes, Bool, IsFalse, ◌*◌, subst₂}
use Rattle.std.specs.Prelude.{IfSome, IsTrue}
use Rattle.std.specs.List.{AllByRecursion, AllPairs, list_all, list_any, flat_map}
use Rattle.std.specs.Str.{bytes_eq}
use Rattle.std.proofs.lemmas.Bool.{and_from, or_from, not_from_false, false_from_ne_true}
use Rattle.std.proofs.lemmas.List.{map-append, append-nil, length-append, get_or_append_left, get_or_at}
use Rattle.std.proofs.lemmas.List.Folds.{list_all-append}
use Rattle.std.proofs.lemmas.Slice.Eq.{bytes_eq-Decides}
use Rattle.hz_base_model.specs.Names.{is_name}
use Rattle.hz_base_model.specs.Limits.{class_limit}
use Rattle.hz_pipeline_model.specs.Tables.Machines as machines
use Rattle.hz_tabtext_model.specs.Judging.{Kind, Fault, ◌>>=◌}
use Rattle.hz_tabtext_model.specs.Fields.{is_nil, fields_of, is_headed}
use Rattle.hz_tabtext_model.specs.Lines.{header_in, treatment_in, classes_in, is_new, class_in, automata_in, Head, head_in, map_in, counts_in, row_in, origin_in, end_in, asks_in}
use Rattle.hz_tabtext_model.specs.Reading.{Rest, line_by, so_many, classes_at, begin_with, counts_at, grids_from, shown_at, row_at, part_at, machine_at, tables_in, next_row, more_asks, asks_at}
use Rattle.hz_tabtext_model.specs.Texts.{Shown, RowText, Counts, PartText, TablesText, joined, entries_line, origin_line, grid_line, shown_lines, row_lines, counts_lines, head_line, map_line, part_lines, treatment_line, class_line, tables_lines, spelled, IsPair, IsShown, IsRow, AreCounts, IsPartText, IsTables, part_of, machine_of, TableText, asks_lines, header_line, AreRows, asks_said}
use Rattle.hz_tabtext_model.proofs.FieldLaws.{is_field, fields_joined, lines_spelled}
use Rattle.hz_tabtext_model.proofs.LineTakes.{AreEntries, AreNew, AreAsks}
use Rattle.hz_tabtext_model.proofs.LineAgain.{Spells, header_again, end_again, treatment_again, classes_again, class_again, automata_again, head_again, map_again, counts_again, row_again, origin_again, grid_again, asks_again, names_seen}
use Rattle.hz_tabtext_model.proofs.TextTakes.{AllFrom, row_view, FitsBeside, BesideAll, lines_after}
use Rattle.hz_pipeline_model.specs.Tables.StateLimits.{cell_limit}
use Rattle.std.proofs.Math.Nat.{mul-le-mul_left}

-- what is left from a line of this number on
abbrev at : ℕ → List (List ℕ) → Rest
at number lines = record { number = number; lines = lines }

-- ---- one line

line_again : {A : Type 0} (judge : List ℕ → Result A Kind) (fields : List (List ℕ)) (x : A) → Spells judge fields x → (n : ℕ) (others : List (List ℕ)) → is_nil others ≡ false
    → line_by judge (at n (joined fields ∷ others)) ≡ Ok (x, at (n + 1) others)
line_again judge fields x s n others some = let again = s.again in rw (some, again) refl

head_word : (word : List ℕ) (fields : List (List ℕ)) → list_all is_field (word ∷ fields) ≡ true → (w : List ℕ) → is_headed w (fields_of (joined (word ∷ fields))) ≡ bytes_eq word w
head_word word fields seen w = ap (is_headed w) (fields_joined word fields seen)

-- What may come after a state: a line that tells nothing of it.
record IsNext (lines : List (List ℕ)) : Type 0 where
  some : is_nil lines ≡ false
  no_origin : begin_with (codes "from") lines ≡ false
  no_grid : begin_with (codes "grid") lines ≡ false

next_line : (word : List ℕ) (fields : List (List ℕ)) (others : List (List ℕ)) → bytes_eq word (codes "from") ≡ false → bytes_eq word (codes "grid") ≡ false → list_all is_field (word ∷ fields) ≡ true → IsNext (joined (word ∷ fields) ∷ others)
next_line word fields others p q seen = record { some = refl; no_origin = head_word word fields seen (codes "from") ∙ p; no_grid = head_word word fields seen (codes "grid") ∙ q }

-- ---- so many

-- What reading gives of these lines, whatever may come after them.
abbrev Again : {A : Type 0} → (Rest → Result (A × Rest) Fault) → List (List (List ℕ)) → A → Type 0
Again read lines x = (n : ℕ) (others : List (List ℕ)) → IsNext others → (m : ℕ) × (read (at n (map joined lines ++ others)) ≡ Ok (x, at m others))

-- the lines may come after a state, whatever comes after them
abbrev Starts : List (List (List ℕ)) → Type 0
Starts lines = (others : List (List ℕ)) → IsNext (map joined lines ++ others)

regroup : (ls ms : List (List (List ℕ))) (others : List (List ℕ)) → map joined (ls ++ ms) ++ others ≡ map joined ls ++ (map joined ms ++ others)
regroup ls ms others = ap (λ (xs : List (List ℕ)). xs ++ others) (map-append joined ls ms) ∙ append_assoc (map joined ls) (map joined ms) others

module _ {S : Type 0} {A : Type 0} {X : Type 0} (next : S → A → S) (read : S → Rest → Result (A × Rest) Fault) (spell : X → List (List (List ℕ))) (view : X → A) (P : S → X → Type 0) (starts : (known : S) (x : X) → P known x → Starts (spell x)) where
  abbrev All : S → List X → Type 0
  All = AllFrom (λ (known : S) (x : X). next known (view x)) P

  next_many : (known : S) (xs : List X) → All known xs → (others : List (List ℕ)) → IsNext others → IsNext (map joined (flat_map spell xs) ++ others)
  next_many known [] h others after = after
  next_many known (x ∷ xs) h others after = subst IsNext (sym (regroup (spell x) (flat_map spell xs) others)) (starts known x h.0 (map joined (flat_map spell xs) ++ others))

  many_again : ((known : S) (x : X) → P known x → Again (read known) (spell x) (view x)) → (known : S) (xs : List X) → All known xs → Again (so_many next read (length xs) known) (flat_map spell xs) (map view xs)
  unfolding so_many
  many_again one known [] h n others after = (n, refl)
  many_again one known (x ∷ xs) h n others after =
      let first = one known x h.0 n (map joined (flat_map spell xs) ++ others) (next_many (next known (view x)) xs h.1 others after) in
      let later = many_again one (next known (view x)) xs h.1 first.0 others after in
      let here = first.1 in
      let rest = later.1 in
      (later.0, ap (λ (ls : List (List ℕ)). so_many next read (suc (length xs)) known (at n ls)) (regroup (spell x) (flat_map spell xs) others) ∙ rw (here, rest) refl)

-- ---- classes

class_start : (before : List (List ℕ)) (name : List ℕ) → is_name name ≡ true → is_new before name ≡ true → (others : List (List ℕ)) → IsNext (map joined (class_line name ∷ []) ++ others)
class_start before name named new others = next_line (codes "class") (name ∷ []) others refl refl (class_again before name named new).seen

next_classes : (before names : List (List ℕ)) → AllByRecursion (λ name. IsTrue (is_name name)) names → AreNew before names → (others : List (List ℕ)) → IsNext others → IsNext (map joined (map class_line names) ++ others)
next_classes before [] named new others next = next
next_classes before (name ∷ names) named new others next = class_start before name named.0 new.0 (map joined (map class_line names) ++ others)

classes_at_again : (before names : List (List ℕ)) → AllByRecursion (λ name. IsTrue (is_name name)) names → AreNew before names → (n : ℕ) (others : List (List ℕ)) → IsNext others
    → (m : ℕ) × (classes_at (length names) before (at n (map joined (map class_line names) ++ others)) ≡ Ok (before ++ names, at m others))
unfolding classes_at
classes_at_again before [] named new n others next = (n, ap (λ (xs : List (List ℕ)). Ok (xs, at n others)) (sym (append-nil before)))
classes_at_again before (name ∷ names) named new n others next =
    let more = next_classes (before ++ name ∷ []) names named.1 new.1 others next in
    let first = line_again (class_in before) (class_line name) name (class_again before name named.0 new.0) n (map joined (map class_line names) ++ others) more.some in
    let later = classes_at_again (before ++ name ∷ []) names named.1 new.1 (n + 1) others next in
    let rest = later.1 in
    (later.0, rw (first, rest) (ap (λ (xs : List (List ℕ)). Ok (xs, at later.0 others)) (append_assoc before (name ∷ []) names)))

abbrev Differ : List (List ℕ) → Type 0
Differ names = AllPairs (λ a b. a ≢ b) names

-- a name that differs from each before it is new
is_new_name : (before : List (List ℕ)) (name : List ℕ) → ((k : ℕ) → k < length before → get_or before k [] ≢ name) → list_any (bytes_eq name) before ≡ false
is_new_name [] name h = refl
is_new_name (b ∷ bs) name h =
    or_from (bytes_eq name b) (list_any (bytes_eq name) bs)
    (false_from_ne_true (bytes_eq name b) (λ e. h zero (omega arith) (sym ((bytes_eq-Decides name b).0 e))))
    (is_new_name bs name (λ k lt. h (suc k) (omega arith)))

differ_new : (before names : List (List ℕ)) → Differ (before ++ names) → AreNew before names
differ_new before [] h = tt
differ_new before (name ∷ names) h =
    let long = length-append before (name ∷ names) in (
      not_from_false (list_any (bytes_eq name) before) (is_new_name before name (λ k lt e.
          h k (length before) [] lt (omega arith) (get_or_append_left before (name ∷ names) [] k lt ∙ (e ∙ sym (get_or_at before name names [] (length before) refl))))),
      differ_new (before ++ name ∷ []) names (subst Differ (sym (append_assoc before (name ∷ []) names)) h),
    )

-- ---- what is reported of a state

grids_none : (n : ℕ) (others : List (List ℕ)) → IsNext others → grids_from n others ≡ Ok (at n others)
unfolding grids_from
grids_none n [] next = refl
grids_none n (line ∷ others) next = let other = next.no_grid in rw other refl

nil_append : {A : Type 0} (xs ys : List A) → is_nil ys ≡ false → is_nil (xs ++ ys) ≡ false
nil_append [] ys h = h
nil_append (x ∷ xs) ys h = refl

grids_again : (grids : List (List (ℕ × List ℕ))) → AllByRecursion (AllByRecursion IsPair) grids → (n : ℕ) (others : List (List ℕ)) → IsNext others
    → (m : ℕ) × (grids_from n (map joined (map grid_line grids) ++ others) ≡ Ok (at m others))
unfolding grids_from
grids_again [] h n others next = (n, grids_none n others next)
grids_again (grid ∷ grids) h n others next =
    let g = grid_again grid h.0 in
    let word = head_word (codes "grid") (map _ grid) g.seen (codes "grid") in
    let some = nil_append (map joined (map grid_line grids)) others next.some in
    let right = g.again in
    let later = grids_again grids h.1 (n + 1) others next in
    let rest = later.1 in
    (later.0, rw (word, some, right) rest)

shown_again : (columns states : ℕ) (shown : Option Shown) → columns < 2 ^ 32 → states ≤ 2 ^ 32 → IfSome shown (IsShown columns states) → (n : ℕ) (others : List (List ℕ)) → IsNext others
    → (m : ℕ) × (shown_at columns states (at n (map joined (shown_lines shown) ++ others)) ≡ Ok (at m others))
unfolding shown_at
shown_again columns states None narrow small h n others next = let other = next.no_origin in (n, rw other refl)
shown_again columns states (Some shown) narrow small h n others next =
    let o = origin_again columns states shown.origin narrow small h.origin in
    let some = nil_append (map joined (map grid_line shown.grids)) others next.some in
    let first = line_again (origin_in columns states) (origin_line shown.origin) tt o n (map joined (map grid_line shown.grids) ++ others) some in
    let later = grids_again shown.grids h.grids (n + 1) others next in
    let rest = later.1 in
    let word = origin_word shown.origin o.seen in
    (later.0, rw (word, first) rest)
  where
    origin_word : (origin : Option (ℕ × ℕ)) → list_all is_field (origin_line origin) ≡ true → is_headed (codes "from") (fields_of (joined (origin_line origin))) ≡ true
    origin_word None seen = head_word (codes "from") (codes "-" ∷ []) seen (codes "from")
    origin_word (Some place) seen = head_word (codes "from") (decimal place.0 ∷ decimal place.1 ∷ []) seen (codes "from")

-- ---- states

entries_of_row : (columns asks states number : ℕ) (row : RowText) → IsRow columns asks states number row → AreEntries columns asks states number row.entries
entries_of_row columns asks states number row h = record { classes = h.classes; asked = h.asked; advance = h.advance; both = h.entries; width = h.width; targets = h.targets; ask_width = h.ask_width; stays = h.stays; goes = h.goes }

-- a row whose number is small
record IsLowRow (columns asks states number : ℕ) (row : RowText) : Type 0 where
  low : number < 2 ^ 32
  is : IsRow columns asks states number row

low_rows : (columns asks states number : ℕ) (rows : List RowText) → number + length rows ≤ 2 ^ 32 → AreRows columns asks states number rows → AllFrom (λ (n : ℕ) (row : RowText). next_row n (row_view row)) (IsLowRow columns asks states) number rows
low_rows columns asks states number [] small h = tt
low_rows columns asks states number (row ∷ rows) small h =
    let more : suc number + length rows ≤ 2 ^ 32 = omega (arith, small) in
    (record { low = omega (arith, small); is = h.0 }, low_rows columns asks states (suc number) rows more h.1)

row_spells : (columns asks states number : ℕ) → states ≤ 2 ^ 32 → (row : RowText) → IsLowRow columns asks states number row → Spells (row_in columns asks states number) (entries_line row.entries) row.entries
row_spells columns asks states number small row h = row_again columns asks states number row.entries small h.low (entries_of_row columns asks states number row h.is)

row_starts : (columns asks states : ℕ) → states ≤ 2 ^ 32 → (number : ℕ) (row : RowText) → IsLowRow columns asks states number row → Starts (row_lines row)
row_starts columns asks states small number row h others =
    next_line (codes "row") (map _ row.entries) (map joined (shown_lines row.shown) ++ others) refl refl (row_spells columns asks states number small row h).seen

row_at_again : (columns asks states : ℕ) → columns < 2 ^ 32 → states ≤ 2 ^ 32 → (number : ℕ) (row : RowText) → IsLowRow columns asks states number row → Again (row_at columns asks states number) (row_lines row) (row_view row)
unfolding row_at
row_at_again columns asks states narrow small number row h n others next =
    let some = nil_append (map joined (shown_lines row.shown)) others next.some in
    let first = line_again (row_in columns asks states number) (entries_line row.entries) row.entries (row_spells columns asks states number small row h) n (map joined (shown_lines row.shown) ++ others) some in
    let later = shown_again columns states row.shown narrow small (h.is).shown (n + 1) others next in
    let rest = later.1 in
    (later.0, rw (first, rest) refl)

-- ---- automata

counts_at_again : (counts : Option Counts) → IfSome counts AreCounts → (n : ℕ) (others : List (List ℕ)) → is_nil others ≡ false → begin_with (codes "stats") others ≡ false
    → (m : ℕ) × (counts_at (at n (map joined (counts_lines counts) ++ others)) ≡ Ok (at m others))
unfolding counts_at
counts_at_again None h n others some other = (n, rw other refl)
counts_at_again (Some counts) h n others some other =
    let c = counts_again counts h in
    let word = head_word (codes "stats") (decimal counts.grids ∷ decimal counts.states ∷ decimal counts.members ∷ []) c.seen (codes "stats") in
    let first = line_again counts_in (codes "stats" ∷ decimal counts.grids ∷ decimal counts.states ∷ decimal counts.members ∷ []) tt c n others some in
    (n + 1, rw (word, first) refl)

no_counts : (columns asks states : ℕ) → states ≤ 2 ^ 32 → (rows : List RowText) → 1 ≤ length rows → AllFrom (λ (n : ℕ) (row : RowText). next_row n (row_view row)) (IsLowRow columns asks states) 0 rows → (others : List (List ℕ))
    → begin_with (codes "stats") (map joined (flat_map row_lines rows) ++ others) ≡ false
no_counts columns asks states small [] some h others = absurd (omega arith)
no_counts columns asks states small (row ∷ rows) some h others = head_word (codes "row") (map _ row.entries) (row_spells columns asks states 0 small row h.0).seen (codes "stats")

head_said : PartText → Head
head_said part = record { name = part.name; columns = part.columns; states = length part.rows }

-- with fewer columns there are fewer entries
head_cells : (states columns asks : ℕ) → states * (columns + asks + 1) ≤ cell_limit → states * (columns + 1) ≤ cell_limit
head_cells states columns asks h = let fewer : columns + 1 ≤ columns + asks + 1 = omega arith in let less = mul-le-mul_left {m = columns + 1} {n = columns + asks + 1} states fewer in omega (arith, less, h)

asks_said_by : (classes : ℕ) (before : List (List ℕ)) (part : PartText) → IsPartText classes part → AreNew before part.asks → AreAsks part.columns (length part.rows) before part.asks
asks_said_by classes before part h new = record { named = h.asks; new = new; few = h.few_asks; cells = h.cells }

asks_at_again : (asked : Bool) (columns states : ℕ) (before asks : List (List ℕ)) → AreAsks columns states before asks → (asked ≡ false → asks ≡ []) → (n : ℕ) (others : List (List ℕ)) → is_nil others ≡ false
    → (m : ℕ) × (asks_at asked columns states before (at n (map joined (asks_lines asked asks) ++ others)) ≡ Ok (asks, at m others))
unfolding asks_at
asks_at_again true columns states before asks h none n others some = (n + 1, line_again (asks_in columns states before) (codes "asks" ∷ asks) asks (asks_again columns states before asks h) n others some)
asks_at_again false columns states before asks h none n others some = (n, ap (λ (names : List (List ℕ)). Ok (names, at n others)) (sym (none refl)))

part_starts : (asked : Bool) (classes : ℕ) → classes ≤ class_limit → (before : List (List ℕ)) (part : PartText) → FitsBeside asked classes before part → Starts (part_lines asked part)
part_starts asked classes small before part beside others =
    let h = beside.fits in
    next_line (codes "automaton") (part.name ∷ decimal part.columns ∷ decimal (length part.rows) ∷ []) (map joined (map_line part.map ∷ (asks_lines asked part.asks ++ (counts_lines part.counts ++ flat_map row_lines part.rows))) ++ others) refl refl
    (head_again classes (record { name = part.name; columns = part.columns; states = length part.rows }) small (record { name = h.name; columns = h.columns; some = h.some; few = h.few; cells = head_cells (length part.rows) part.columns (length part.asks) h.cells })).seen

part_at_again : (asked : Bool) (classes : ℕ) → classes ≤ class_limit → (before : List (List ℕ)) (part : PartText) → FitsBeside asked classes before part → Again (part_at asked classes before) (part_lines asked part) (part_of part)
unfolding part_at
part_at_again asked classes small before part beside n others next =
    let h = beside.fits in
    let low = h.columns in
    let few = h.few in
    let narrow : part.columns < 2 ^ 32 = omega arith in
    let states : length part.rows ≤ 2 ^ 32 = omega arith in
    let asks = length part.asks in
    let head : Head = record { name = part.name; columns = part.columns; states = length part.rows } in
    let rows = flat_map row_lines part.rows in
    let beyond = map joined rows ++ others in
    let below = low_rows part.columns asks (length part.rows) 0 part.rows (omega (arith, states)) h.rows in
    let rows_next = next_many next_row (row_at part.columns asks (length part.rows)) row_lines row_view (IsLowRow part.columns asks (length part.rows)) (row_starts part.columns asks (length part.rows) states) 0 part.rows below others next in
    let counted_lines = map joined (counts_lines part.counts) ++ beyond in
    let some_counts = nil_append (map joined (counts_lines part.counts)) beyond rows_next.some in
    let asked_lines = map joined (asks_lines asked part.asks) ++ counted_lines in
    let some_asks = nil_append (map joined (asks_lines asked part.asks)) counted_lines some_counts in
    let first = line_again (head_in classes) (head_line part) head (head_again classes head small (record { name = h.name; columns = h.columns; some = h.some; few = h.few; cells = head_cells (length part.rows) part.columns asks h.cells })) n (joined (map_line part.map) ∷ asked_lines) refl in
    let second = line_again (map_in classes part.columns) (map_line part.map) part.map (map_again classes part.columns part.map (omega arith) h.each h.within) (n + 1) asked_lines some_asks in
    let asking = asks_at_again asked part.columns (length part.rows) before part.asks (asks_said_by classes before part h beside.new) beside.none (n + 1 + 1) counted_lines some_counts in
    let third = counts_at_again part.counts h.counts asking.0 beyond rows_next.some (no_counts part.columns asks (length part.rows) states part.rows h.some below others) in
    let fourth = many_again next_row (row_at part.columns asks (length part.rows)) row_lines row_view (IsLowRow part.columns asks (length part.rows)) (row_starts part.columns asks (length part.rows) states) (row_at_again part.columns asks (length part.rows) narrow states) 0 part.rows below third.0 others next in
    let answered = asking.1 in
    let counted = third.1 in
    let looped = fourth.1 in
    let cut =
    regroup (asks_lines asked part.asks) (counts_lines part.counts ++ rows) others
    ∙ ap (λ (ls : List (List ℕ)). map joined (asks_lines asked part.asks) ++ ls) (regroup (counts_lines part.counts) rows others) in
    (fourth.0, ap (λ (ls : List (List ℕ)). part_at asked classes before (at n (joined (head_line part) ∷ joined (map_line part.map) ∷ ls))) cut ∙ rw (first, second, answered, counted, looped) refl)

-- the front of different names
differ_front : (before names : List (List ℕ)) → Differ (before ++ names) → Differ before
differ_front before names h i j d less within =
    let long = length-append before names in
    let inside : j < length (before ++ names) = omega (arith, within, long) in
    subst₂ (λ (a b : List ℕ). a ≢ b) (get_or_append_left before names d i (omega (arith, less, within))) (get_or_append_left before names d j within) (h i j d less inside)

nil_front : (names others : List (List ℕ)) → names ++ others ≡ [] → names ≡ []
nil_front [] others e = refl
nil_front (name ∷ names) others e = absurd (cc)

nil_back : (names others : List (List ℕ)) → names ++ others ≡ [] → others ≡ []
nil_back [] others e = e
nil_back (name ∷ names) others e = absurd (cc)

-- automata fit one after the other where all names of asks differ
beside_all : (asked : Bool) (classes : ℕ) (before : List (List ℕ)) (parts : List PartText) → AllByRecursion (IsPartText classes) parts → Differ (before ++ asks_said parts) → (asked ≡ false → asks_said parts ≡ []) → BesideAll asked classes before parts
beside_all asked classes before [] h differ none = tt
beside_all asked classes before (part ∷ parts) h differ none =
    let grouped = subst Differ (sym (append_assoc before part.asks (asks_said parts))) differ in (
      record { fits = h.0; new = differ_new before part.asks (differ_front (before ++ part.asks) (asks_said parts) grouped); none = λ no. nil_front part.asks (asks_said parts) (none no) },
      beside_all asked classes (before ++ part.asks) parts h.1 grouped (λ no. nil_back part.asks (asks_said parts) (none no)),
    )

all_beside_of : (says : TablesText) → IsTables says → BesideAll says.asked (length says.classes) [] says.parts
all_beside_of says h = beside_all says.asked (length says.classes) [] says.parts h.parts h.asks (λ no. h.version (subst IsFalse (sym no) refl))

-- ---- the whole

-- the end of a text may come after a state
end_next : IsNext ([] ∷ [])
end_next = record { some = refl; no_origin = refl; no_grid = refl }

machine_at_again : (says : TablesText) → IsTables says → (n : ℕ)
    → machine_at says.asked (at n (map joined (lines_after says.asked says) ++ [] ∷ [])) ≡ Ok (machine_of says)
unfolding machine_at
machine_at_again says h n =
    let parts = flat_map (part_lines says.asked) says.parts in
    let last = joined (codes "end" ∷ []) ∷ [] ∷ [] in
    let last_next : IsNext last = next_line (codes "end") [] ([] ∷ []) refl refl refl in
    let after_parts = map joined parts ++ last in
    let starts = part_starts says.asked (length says.classes) h.class_count in
    let beside = all_beside_of says h in
    let parts_next : IsNext after_parts = next_many more_asks (part_at says.asked (length says.classes)) (part_lines says.asked) part_of (FitsBeside says.asked (length says.classes)) starts [] says.parts beside last last_next in
    let automata = automata_again (length says.parts) h.some h.few in
    let after_classes = joined (codes "automata" ∷ decimal (length says.parts) ∷ []) ∷ after_parts in
    let classes_next : IsNext after_classes = next_line (codes "automata") (decimal (length says.parts) ∷ []) after_parts refl refl automata.seen in
    let new = differ_new [] says.classes h.different in
    let named_next = next_classes [] says.classes h.names new after_classes classes_next in
    let after_count = map joined (map class_line says.classes) ++ after_classes in
    let first = line_again treatment_in (treatment_line says.ndfa) says.ndfa (treatment_again says.ndfa) n (joined (codes "classes" ∷ decimal (length says.classes) ∷ []) ∷ after_count) refl in
    let second = line_again classes_in (codes "classes" ∷ decimal (length says.classes) ∷ []) (length says.classes) (classes_again (length says.classes) h.class_count) (n + 1) after_count named_next.some in
    let third = classes_at_again [] says.classes h.names new (n + 1 + 1) after_classes classes_next in
    let fourth = line_again automata_in (codes "automata" ∷ decimal (length says.parts) ∷ []) (length says.parts) automata third.0 after_parts parts_next.some in
    let fifth = many_again more_asks (part_at says.asked (length says.classes)) (part_lines says.asked) part_of (FitsBeside says.asked (length says.classes)) starts (part_at_again says.asked (length says.classes) h.class_count) [] says.parts beside (third.0 + 1) last last_next in
    let sixth = line_again end_in (codes "end" ∷ []) tt end_again fifth.0 ([] ∷ []) refl in
    let named = third.1 in
    let looped = fifth.1 in
    ap (λ (ls : List (List ℕ)). machine_at says.asked (at n (joined (treatment_line says.ndfa) ∷ joined (codes "classes" ∷ decimal (length says.classes) ∷ []) ∷ ls)))
    (regroup (map class_line says.classes) ((codes "automata" ∷ decimal (length says.parts) ∷ []) ∷ (parts ++ (codes "end" ∷ []) ∷ [])) ([] ∷ [])
    ∙ ap (λ (ls : List (List ℕ)). map joined (map class_line says.classes) ++ joined (codes "automata" ∷ decimal (length says.parts) ∷ []) ∷ ls) (regroup parts ((codes "end" ∷ []) ∷ []) ([] ∷ [])))
    ∙ rw (first, second, named, fourth, looped, sixth) refl

-- ---- lines that are seen as they are spelled

abbrev AreLines : List (List (List ℕ)) → Type 0
AreLines lines = list_all (list_all is_field) lines ≡ true

lines_then : (ls ms : List (List (List ℕ))) → AreLines ls → AreLines ms → AreLines (ls ++ ms)
lines_then ls ms h k = list_all-append (list_all is_field) ls ms ∙ and_from (list_all (list_all is_field) ls) (list_all (list_all is_field) ms) h k

line_then : (line : List (List ℕ)) (lines : List (List (List ℕ))) → list_all is_field line ≡ true → AreLines lines → AreLines (line ∷ lines)
line_then line lines h k = and_from (list_all is_field line) (list_all (list_all is_field) lines) h k

module _ {X : Type 0} (P : X → Type 0) where
  many_lines : (spell : X → List (List (List ℕ))) → ((x : X) → P x → AreLines (spell x)) → (xs : List X) → AllByRecursion P xs → AreLines (flat_map spell xs)
  many_lines spell one [] h = refl
  many_lines spell one (x ∷ xs) h = lines_then (spell x) (flat_map spell xs) (one x h.0) (many_lines spell one xs h.1)

  each_line : (spell : X → List (List ℕ)) → ((x : X) → P x → list_all is_field (spell x) ≡ true) → (xs : List X) → AllByRecursion P xs → AreLines (map spell xs)
  each_line spell one [] h = refl
  each_line spell one (x ∷ xs) h = line_then (spell x) (map spell xs) (one x h.0) (each_line spell one xs h.1)

shown_lines_seen : (columns states : ℕ) → columns < 2 ^ 32 → states ≤ 2 ^ 32 → (shown : Option Shown) → IfSome shown (IsShown columns states) → AreLines (shown_lines shown)
shown_lines_seen columns states narrow small None h = refl
shown_lines_seen columns states narrow small (Some shown) h =
    line_then (origin_line shown.origin) (map grid_line shown.grids) (origin_again columns states shown.origin narrow small h.origin).seen
    (each_line (AllByRecursion IsPair) grid_line (λ grid fits. (grid_again grid fits).seen) shown.grids h.grids)

row_lines_seen : (columns asks states number : ℕ) → columns < 2 ^ 32 → states ≤ 2 ^ 32 → (row : RowText) → IsLowRow columns asks states number row → AreLines (row_lines row)
row_lines_seen columns asks states number narrow small row h =
    line_then (entries_line row.entries) (shown_lines row.shown) (row_spells columns asks states number small row h).seen (shown_lines_seen columns states narrow small row.shown (h.is).shown)

rows_lines_seen : (columns asks states number : ℕ) → columns < 2 ^ 32 → states ≤ 2 ^ 32 → (rows : List RowText) → AllFrom (λ (n : ℕ) (row : RowText). next_row n (row_view row)) (IsLowRow columns asks states) number rows → AreLines (flat_map row_lines rows)
rows_lines_seen columns asks states number narrow small [] h = refl
rows_lines_seen columns asks states number narrow small (row ∷ rows) h = lines_then (row_lines row) (flat_map row_lines rows) (row_lines_seen columns asks states number narrow small row h.0) (rows_lines_seen columns asks states (suc number) narrow small rows h.1)

asks_lines_seen : (asked : Bool) (asks : List (List ℕ)) → AllByRecursion (λ name. IsTrue (is_name name)) asks → AreLines (asks_lines asked asks)
asks_lines_seen true asks named = line_then (codes "asks" ∷ asks) [] (names_seen asks named) refl
asks_lines_seen false asks named = refl

counts_lines_seen : (counts : Option Counts) → IfSome counts AreCounts → AreLines (counts_lines counts)
counts_lines_seen None h = refl
counts_lines_seen (Some counts) h = line_then (codes "stats" ∷ decimal counts.grids ∷ decimal counts.states ∷ decimal counts.members ∷ []) [] (counts_again counts h).seen refl

part_lines_seen : (asked : Bool) (classes : ℕ) → classes ≤ class_limit → (part : PartText) → IsPartText classes part → AreLines (part_lines asked part)
part_lines_seen asked classes small part h =
    let low = h.columns in
    let few = h.few in
    let narrow : part.columns < 2 ^ 32 = omega arith in
    let states : length part.rows ≤ 2 ^ 32 = omega arith in
    let below = low_rows part.columns (length part.asks) (length part.rows) 0 part.rows (omega (arith, states)) h.rows in
    let tail = counts_lines part.counts ++ flat_map row_lines part.rows in
    line_then (head_line part) (map_line part.map ∷ (asks_lines asked part.asks ++ tail))
    (head_again classes (record { name = part.name; columns = part.columns; states = length part.rows }) small (record { name = h.name; columns = h.columns; some = h.some; few = h.few; cells = head_cells (length part.rows) part.columns (length part.asks) h.cells })).seen
    (line_then (map_line part.map) (asks_lines asked part.asks ++ tail) (map_again classes part.columns part.map (omega arith) h.each h.within).seen
    (lines_then (asks_lines asked part.asks) tail (asks_lines_seen asked part.asks h.asks)
    (lines_then (counts_lines part.counts) (flat_map row_lines part.rows) (counts_lines_seen part.counts h.counts)
    (rows_lines_seen part.columns (length part.asks) (length part.rows) 0 narrow states part.rows below))))

class_seen : (name : List ℕ) → IsTrue (is_name name) → list_all is_field (class_line name) ≡ true
class_seen name named = (class_again [] name named refl).seen

pub tables_lines_seen : (says : TablesText) → IsTables says → AreLines (tables_lines says)
tables_lines_seen says h =
    let classes = map class_line says.classes in
    let parts = flat_map (part_lines says.asked) says.parts in
    let after_parts = lines_then parts ((codes "end" ∷ []) ∷ []) (many_lines (IsPartText (length says.classes)) (part_lines says.asked) (part_lines_seen says.asked (length says.classes) h.class_count) says.parts h.parts) refl in
    let after_classes = line_then (codes "automata" ∷ decimal (length says.parts) ∷ []) (parts ++ (codes "end" ∷ []) ∷ []) (automata_again (length says.parts) h.some h.few).seen after_parts in
    let after_count = lines_then classes ((codes "automata" ∷ decimal (length says.parts) ∷ []) ∷ (parts ++ (codes "end" ∷ []) ∷ [])) (each_line (λ name. IsTrue (is_name name)) class_line class_seen says.classes h.names) after_classes in
    let after_treatment = line_then (codes "classes" ∷ decimal (length says.classes) ∷ []) (classes ++ (codes "automata" ∷ decimal (length says.parts) ∷ []) ∷ (parts ++ (codes "end" ∷ []) ∷ [])) (classes_again (length says.classes) h.class_count).seen after_count in
    line_then (header_line says.asked) (treatment_line says.ndfa ∷ (codes "classes" ∷ decimal (length says.classes) ∷ []) ∷ (classes ++ (codes "automata" ∷ decimal (length says.parts) ∷ []) ∷ (parts ++ (codes "end" ∷ []) ∷ []))) (header_again says.asked).seen
    (line_then (treatment_line says.ndfa) ((codes "classes" ∷ decimal (length says.classes) ∷ []) ∷ (classes ++ (codes "automata" ∷ decimal (length says.parts) ∷ []) ∷ (parts ++ (codes "end" ∷ []) ∷ []))) (treatment_again says.ndfa).seen after_treatment)

pub spelled_again : (says : TablesText) → IsTables says → tables_in (spelled says) ≡ Ok (machine_of says)
unfolding tables_in
spelled_again says h =
    let lines = lines_spelled (tables_lines says) (tables_lines_seen says h) in
    let header = line_again header_in (header_line says.asked) says.asked (header_again says.asked) 1 (map joined (lines_after says.asked says) ++ [] ∷ []) refl in
    let beyond = machine_at_again says h (1 + 1) in
    ap (λ (ls : List (List ℕ)). line_by header_in (at 1 ls) >>= λ header. machine_at header.0 header.1) lines ∙ rw header beyond

pub tables_again : (text : List ℕ) (machine : machines.Machine) → TableText text machine → tables_in text ≡ Ok machine
tables_again text machine t = ap tables_in t.spells ∙ (spelled_again t.says t.fits ∙ ap Ok (sym t.stands))
