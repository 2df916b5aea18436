-- No line of an explanation is long.
use Rattle.std.proofs.Common.{◌≡◌, ℕ, zero, suc, ◌+◌, ◌-◌, ◌*◌, ◌/◌, ◌<◌, ◌≤◌, ◌^◌, min, max, Bool, true, false, cond, List, [], ◌∷◌, ◌++◌, All, map, take, drop, length, nat_le, nat_lt, append_assoc, Option, Some, None, refl, sym, ap, ◌∙◌, subst, arith}
use Rattle.std.specs.Prelude.{◌==◌, codes, decimal, slice_get, slice_index, IfSome}
use Rattle.std.specs.List.{concat, flat_map, onto_first, range_with_len}
use Rattle.std.proofs.Math.Nat.{div-mul-le_self, mul-le-mul_right, min-le_right, min-le_left}
use Rattle.std.proofs.lemmas.Bool.{leb-true}
use Rattle.std.proofs.lemmas.Fmt.{length-decimal-le}
use Rattle.std.proofs.lemmas.List.{length-append, length-replicate, length-take}
use Rattle.std.proofs.lemmas.List.Elements.{All-nil, All-cons}
use Rattle.std.proofs.lemmas.List.Folds.{concat-append}
use Rattle.std.proofs.lemmas.List.FromFn.{length-map-range_with_len}
use Rattle.hz_base_model.specs.Lines.{lines_of}
use Rattle.hz_base_model.specs.Pairs.{Pair, ascending_by}
use Rattle.hz_description_model.specs.Reservations.Sets.{Statement}
use Rattle.hz_pipeline_model.specs.Accepting.Events.{Event, cycles_of}
use Rattle.hz_pipeline_model.specs.Accepting.Replay.{Treatment, first_fit, any_fit, Pipeline, alternatives_at}
use Rattle.hz_why_model.specs.Explanations.{Wording, choice_line, wait_line, reason_words, wanted_text, part_text, detail_line, group_lines, reasons, pair_lists, ways_text, picture_after, left_text, refusal_text}
use Rattle.hz_why_model.specs.Groups.{leaders, led_by, groups_from}
use Rattle.hz_why_model.specs.Holders.{Entry}
use Rattle.hz_why_model.specs.Lists.{narrow, kept_for, listed, runs, range_text, numbers_limit, alternatives_text}
use Rattle.hz_why_model.specs.Pictures.{spaces, at_left, at_right, Layout, room_after, longest, longest_cell, name_columns, cycle_columns, layout_by, picture_line, text_at, row_of, rows_by, rows_of}
use Rattle.hz_why_model.specs.Reasons.{Reason, taken, broken, patterns_of}
use Rattle.hz_why_model.specs.Takes.{Stretch, takes_limit, stretches, are_same, stretch_text, taken_text, takes_word, takes_line, more_line, takes_lines}
use Rattle.hz_why_model.specs.Ways.{Way, ways_left, ways_limit, ago_text, way_line, way_lines}
use Rattle.hz_why_laws.specs.Narrow.{IsNarrow}

-- ---- texts of narrow lines

-- A text each of whose lines has its line feed, and few bytes before it.
data Rows : List ℕ → Type 0 where
  none : Rows []
  more : (line rest : List ℕ) → length line ≤ 80 → Rows rest → Rows (line ++ 10 ∷ rest)

-- the lines that are left of a text, before whose first so many bytes came
abbrev Left : ℕ → List (List ℕ) → Type 0
Left n [] = n ≤ 80
Left n (line ∷ lines) = (n + length line ≤ 80) × All (λ l. length l ≤ 80) lines

all_left : (n : ℕ) (lines : List (List ℕ)) → Left n lines → All (λ l. length l ≤ 80) lines
all_left n [] h = All-nil (λ (l : List ℕ). length l ≤ 80)
all_left n (line ∷ lines) h = let short : length line ≤ 80 = omega (arith, h.0) in All-cons (λ (l : List ℕ). length l ≤ 80) line lines short h.1

byte_left : (n b : ℕ) (lines : List (List ℕ)) → Left (suc n) lines → Left n (onto_first b lines)
byte_left n b [] h = (omega (arith, h), All-nil (λ (l : List ℕ). length l ≤ 80))
byte_left n b (line ∷ lines) h = (omega (arith, h.0), h.1)

first_left : (line rest : List ℕ) (n : ℕ) → n + length line ≤ 80 → All (λ l. length l ≤ 80) (lines_of rest) → Left n (lines_of (line ++ 10 ∷ rest))
first_left [] rest n short all = (omega (arith, short), all)
first_left (b ∷ bs) rest n short all =
    elim (b == 10) as (λ t. Left n (cond t ([] ∷ lines_of (bs ++ 10 ∷ rest)) (onto_first b (lines_of (bs ++ 10 ∷ rest))))) [
      | true ↦ (omega (arith, short), all_left 0 (lines_of (bs ++ 10 ∷ rest)) (first_left bs rest 0 (omega (arith, short)) all))
      | false ↦ byte_left n b (lines_of (bs ++ 10 ∷ rest)) (first_left bs rest (suc n) (omega (arith, short)) all)
    ]

narrow_of : (text : List ℕ) → Rows text → IsNarrow text
narrow_of _ none = All-nil (λ (l : List ℕ). length l ≤ 80)
narrow_of _ (more line rest short rows) = all_left 0 (lines_of (line ++ 10 ∷ rest)) (first_left line rest 0 (omega (arith, short)) (narrow_of rest rows))

both : (xs ys : List ℕ) → Rows xs → Rows ys → Rows (xs ++ ys)
both _ ys none b = b
both _ ys (more line rest short rows) b = subst Rows (sym (append_assoc line (10 ∷ rest) ys)) (more line (rest ++ ys) short (both rest ys rows b))

each : {A : Type 0} (f : A → List ℕ) → ((x : A) → Rows (f x)) → (xs : List A) → Rows (flat_map f xs)
each f rows [] = none
each f rows (x ∷ xs) = both (f x) (flat_map f xs) (rows x) (each f rows xs)

-- a line of words
line_of : (words : List (List ℕ)) → length (concat words) ≤ 80 → Rows (concat (words ++ codes "\n" ∷ []))
line_of words short = subst Rows (sym (concat-append words (codes "\n" ∷ []))) (more (concat words) [] short none)

by_test : (b : Bool) (xs ys : List ℕ) → (b ≡ true → Rows xs) → (b ≡ false → Rows ys) → Rows (cond b xs ys)
by_test true xs ys x y = x refl
by_test false xs ys x y = y refl

-- ---- how long

digits : (n : ℕ) → n < 2 ^ 64 → length (decimal n) ≤ 20
digits n few = length-decimal-le 20 n (omega arith) (omega (arith, few)) few

narrow_by : (line : List ℕ) (b : Bool) → nat_le (length line) 80 ≡ b → length (cond b line (take 78 line ++ codes "..")) ≤ 80
narrow_by line true e = leb-true _ _ e
narrow_by line false e =
    let parts = length-append (take 78 line) (codes "..") in
    let front = length-take 78 line in
    let most = min-le_left 78 (length line) in
    omega (arith, parts, front, most)

narrow_short : (line : List ℕ) → length (narrow line) ≤ 80
narrow_short line = narrow_by line _ refl

-- what follows an item
rest_short : (columns : ℕ) (between : List ℕ) (items : List (List ℕ)) → kept_for items ≤ columns → (3 ≤ columns → length (listed columns between between items) ≤ columns) → length (listed columns between between items) ≤ columns
rest_short columns between [] room later = omega arith
rest_short columns between (item ∷ items) room later = later room

listed_by : (columns : ℕ) (before between item : List ℕ) (items : List (List ℕ)) → 3 ≤ columns → ((left : ℕ) → 3 ≤ left → length (listed left between between items) ≤ left) → (b : Bool) → nat_le (length before + length item + kept_for items) columns ≡ b
    → length (cond b (before ++ (item ++ listed (columns - (length before + length item)) between between items)) (codes " ..")) ≤ columns
listed_by columns before between item items room later true e =
    let fits : length before + length item + kept_for items ≤ columns = leb-true _ _ e in
    let left : ℕ = columns - (length before + length item) in
    let rest : List ℕ = listed left between between items in
    let outer = length-append before (item ++ rest) in
    let inner = length-append item rest in
    let short = rest_short left between items (omega (arith, fits)) (later left) in
    omega (arith, fits, outer, inner, short)
listed_by columns before between item items room later false e = room

-- a list has no more columns than it may have, if ` ..` has room
pub listed_short : (columns : ℕ) (before between : List ℕ) (items : List (List ℕ)) → 3 ≤ columns → length (listed columns before between items) ≤ columns
listed_short columns before between [] room = omega (arith, room)
listed_short columns before between (item ∷ items) room = listed_by columns before between item items room (λ left. listed_short left between between items) _ refl

alternatives_word : (b : Bool) → length (cond b (codes "alternative") (codes "alternatives")) ≤ 12
alternatives_word true = omega arith
alternatives_word false = omega arith

numbers_short : (numbers : List ℕ) → length (alternatives_text numbers) ≤ 42
numbers_short numbers =
    let word : List ℕ = cond (length numbers == 1) (codes "alternative") (codes "alternatives") in
    let list : List ℕ = listed numbers_limit (codes " ") (codes ", ") (map (λ r. range_text r.first r.last) (runs numbers)) in
    let sum = length-append word list in
    let one = alternatives_word (length numbers == 1) in
    let other = listed_short numbers_limit (codes " ") (codes ", ") (map (λ r. range_text r.first r.last) (runs numbers)) (omega arith) in
    omega (arith, sum, one, other)

takes_short : (numbers : List ℕ) → length (takes_word numbers) ≤ 6
takes_short [] = omega arith
takes_short (n ∷ []) = omega arith
takes_short (n ∷ k ∷ numbers) = omega arith

-- ---- lines of alternatives

groups_rows : {A : Type 0} (text : List ℕ → A → List ℕ) → ((numbers : List ℕ) (x : A) → Rows (text numbers x)) → (leads : List ℕ) (place : ℕ) (xs : List A) → Rows (groups_from text leads place xs)
groups_rows text rows leads place [] = none
groups_rows text rows leads place (x ∷ xs) =
    both _ (groups_from text leads (suc place) xs)
    (by_test (slice_index leads place == place) (text (led_by place 1 leads) x) [] (λ _. rows (led_by place 1 leads) x) (λ _. none))
    (groups_rows text rows leads (suc place) xs)

module _ {U : Type 0} (w : Wording U) (now : ℕ) (held : List (Entry U)) (statements : List (Statement U)) where
  detail_rows : (reason : Reason U) → Rows (detail_line w now held statements reason)
  detail_rows (taken p) = none
  detail_rows (broken n cycle unit []) =
      let items : List (List ℕ) = map (wanted_text w now held) (patterns_of (slice_get statements n)) in
      let list : List ℕ = listed 73 (codes " ") (codes "; ") items in
      let most = listed_short 73 (codes " ") (codes "; ") items (omega arith) in
      let end = length-append list [] in
      line_of (codes "  wants" ∷ list ∷ []) (omega (arith, most, end))
  detail_rows (broken n cycle unit (u ∷ us)) =
      let items : List (List ℕ) = map (part_text w now held cycle) (unit ∷ u ∷ us) in
      let list : List ℕ = listed 79 (codes " ") (codes "; ") items in
      let most = listed_short 79 (codes " ") (codes "; ") items (omega arith) in
      let end = length-append list [] in
      line_of (codes " " ∷ list ∷ []) (omega (arith, most, end))

  group_rows : (numbers : List ℕ) (reason : Option (Reason U)) → Rows (group_lines w now held statements numbers reason)
  group_rows numbers None = none
  group_rows numbers (Some reason) =
      let line : List ℕ = concat (alternatives_text numbers ∷ codes ": " ∷ reason_words w now held reason) in
      more (narrow line) (detail_line w now held statements reason ++ []) (narrow_short line) (both _ [] (detail_rows reason) none)

-- ---- what alternatives take

module _ {U : Type 0} (name : U → List ℕ) where
  taken_short : (columns : ℕ) (ss : List (Stretch U)) → 8 ≤ columns → length (taken_text name columns ss) ≤ columns
  taken_short columns [] room = room
  taken_short columns (s ∷ ss) room = listed_short columns (codes " ") (codes ", ") (map (stretch_text name) (s ∷ ss)) (omega (arith, room))

  takes_rows : (same : U → U → Bool) (numbers : List ℕ) (pairs : List (Pair U)) → Rows (takes_line same name numbers pairs)
  takes_rows same numbers pairs =
      let a : List ℕ = alternatives_text numbers in
      let b : List ℕ = takes_word numbers in
      let columns : ℕ = 80 - (length a + length b) in
      let c : List ℕ = taken_text name columns (stretches same pairs) in
      let one = numbers_short numbers in
      let two = takes_short numbers in
      let three = taken_short columns (stretches same pairs) (omega (arith, one, two)) in
      let first = length-append a (b ++ (c ++ [])) in
      let second = length-append b (c ++ []) in
      let third = length-append c [] in
      line_of (a ∷ b ∷ c ∷ []) (omega (arith, one, two, three, first, second, third))

counted : (word : List ℕ) (n : ℕ) → length word ≤ 60 → n < 2 ^ 64 → Rows (concat (word ∷ decimal n ∷ codes "\n" ∷ []))
counted word n short few =
    let most = digits n few in
    let first = length-append word (decimal n ++ []) in
    let second = length-append (decimal n) [] in
    line_of (word ∷ decimal n ∷ []) (omega (arith, short, most, first, second))

module _ {U : Type 0} (same : U → U → Bool) (name : U → List ℕ) where
  more_rows : (n : ℕ) → n < 2 ^ 64 → Rows (more_line same name n)
  more_rows n few = by_test (nat_lt takes_limit n) _ [] (λ _. counted (codes "more alternatives: ") (n - takes_limit) (omega arith) (omega (arith, few))) (λ _. none)

  all_takes : (lists : List (List (Pair U))) → length lists < 2 ^ 64 → Rows (takes_lines same name lists)
  all_takes lists few =
      both _ (more_line same name (length lists))
      (groups_rows (takes_line same name) (takes_rows name same) (leaders (are_same same) (take takes_limit lists)) 0 (take takes_limit lists))
      (more_rows (length lists) few)

-- ---- issues

module _ (class_name : ℕ → List ℕ) (now : ℕ) where
  way_rows : (way : Way) → Rows (way_line class_name now way)
  way_rows way =
      let line : List ℕ = concat (codes "line " ∷ decimal way.line ∷ codes " " ∷ class_name way.class ∷ codes " in cycle " ∷ ago_text (now - way.cycle) ∷ codes " took alternative " ∷ decimal (suc way.number) ∷ []) in
      more (narrow line) [] (narrow_short line) none

  all_ways : (issues : List Way) → length issues < 2 ^ 64 → Rows (way_lines class_name now issues)
  all_ways issues few =
      both _ _
      (by_test (nat_lt ways_limit (length issues)) _ [] (λ _. counted (codes "more issues before: ") (length issues - ways_limit) (omega arith) (omega (arith, few))) (λ _. none))
      (each (way_line class_name now) way_rows (drop (length issues - ways_limit) issues))

-- ---- pictures

spaces_long : (n : ℕ) → length (spaces n) ≡ n
spaces_long n = length-replicate n 32

left_long : (columns : ℕ) (text : List ℕ) → length (at_left columns text) ≡ columns
left_long columns text =
    let sum = length-append (take columns text) (spaces (columns - length text)) in
    let front = length-take columns text in
    let back = spaces_long (columns - length text) in
    omega (arith, sum, front, back)

right_long : (columns : ℕ) (text : List ℕ) → length (at_right columns text) ≡ columns
right_long columns text =
    let sum = length-append (spaces (columns - length text)) (drop (length text - columns) text) in
    let front = spaces_long (columns - length text) in
    let back = length_drop (length text - columns) text in
    omega (arith, sum, front, back)
  where
    length_drop : (n : ℕ) (xs : List ℕ) → length (drop n xs) ≡ length xs - n
    length_drop zero xs = let same : length xs ≡ length xs - 0 = omega arith in same
    length_drop (suc n) [] = omega arith
    length_drop (suc n) (x ∷ xs) = let rest = length_drop n xs in omega (arith, rest)

cells_long : (columns : ℕ) (texts : List (List ℕ)) → length (flat_map (λ text. spaces 1 ++ at_right columns text) texts) ≡ length texts * (columns + 1)
cells_long columns [] = omega arith
cells_long columns (text ∷ texts) =
    let sum = length-append (spaces 1 ++ at_right columns text) (flat_map (λ t. spaces 1 ++ at_right columns t) texts) in
    let one = right_long columns text in
    let rest = cells_long columns texts in
    omega (arith, sum, one, rest)

-- A layout leaves no line too long.
abbrev IsShort : Layout → Type 0
IsShort l = l.name + 2 + l.shown * (l.cycle + 1) ≤ 80

line_rows : (l : Layout) → IsShort l → (name : List ℕ) (texts : List (List ℕ)) → length texts ≡ l.shown → Rows (picture_line l name texts)
line_rows l short name texts count =
    let cells : List ℕ = flat_map (λ text. spaces 1 ++ at_right l.cycle text) texts in
    let first = length-append (at_left l.name name) (spaces 2 ++ (cells ++ [])) in
    let left = left_long l.name name in
    let end = length-append cells [] in
    let many : length cells ≡ l.shown * (l.cycle + 1) = cells_long l.cycle texts ∙ ap (λ (n : ℕ). n * (l.cycle + 1)) count in
    line_of (at_left l.name name ∷ spaces 2 ∷ cells ∷ []) (omega (arith, short, first, left, end, many))

short_by : (name cycle cycles : ℕ) → name ≤ 32 → IsShort (layout_by name cycle cycles)
short_by name cycle cycles few =
    let room : ℕ = 80 - (name + 2) in
    let least : min cycles (room / (cycle + 1)) * (cycle + 1) ≤ room / (cycle + 1) * (cycle + 1) = mul-le-mul_right (cycle + 1) (min-le_right cycles (room / (cycle + 1))) in
    let most = div-mul-le_self room (cycle + 1) in
    omega (arith, few, least, most)

shown_few : (name cycle cycles : ℕ) → (layout_by name cycle cycles).shown ≤ 80
shown_few name cycle cycles =
    let room : ℕ = 80 - (name + 2) in
    let least = min-le_right cycles (room / (cycle + 1)) in
    let most = div-mul-le_self room (cycle + 1) in
    let part : room / (cycle + 1) * 1 ≤ room / (cycle + 1) * (cycle + 1) = mul_more (room / (cycle + 1)) cycle in
    omega (arith, least, most, part)
  where
    mul_more : (q c : ℕ) → q * 1 ≤ q * (c + 1)
    mul_more zero c = omega arith
    mul_more (suc q) c = let rest = mul_more q c in omega (arith, rest)

module _ {U : Type 0} (same : U → U → Bool) (name : U → List ℕ) (held : List (Entry U)) where
  picture_rows : (l : Layout) → IsShort l → l.shown ≤ 80 → (cycles : ℕ) (units : List U) → Rows (rows_by same name held l cycles units)
  picture_rows l short few cycles units =
      both _ _ (line_rows l short (codes "cycle") (map decimal (range_with_len 0 l.shown)) (length-map-range_with_len decimal 0 l.shown))
      (both _ _ (each (row_of same name held l) (λ u. line_rows l short (name u) (map (text_at same name held u) (range_with_len 0 l.shown)) (length-map-range_with_len (text_at same name held u) 0 l.shown)) units)
      (both _ [] (by_test (nat_lt l.shown cycles) _ [] (λ _. counted (codes "cut after cycle ") (l.shown - 1) (omega arith) (omega (arith, few))) (λ _. none)) none))

  all_rows : (cycles : ℕ) (units : List U) → Rows (rows_of same name held cycles units)
  all_rows cycles [] = none
  all_rows cycles (u ∷ us) =
      let names : ℕ = name_columns (map name (u ∷ us)) in
      let columns : ℕ = cycle_columns (room_after names) cycles (longest_cell same name held cycles) in
      picture_rows (layout_by names columns cycles) (short_by names columns cycles (min-le_left 32 (max 5 (longest (map name (u ∷ us)))))) (shown_few names columns cycles) cycles (u ∷ us)

-- ---- all

choice_rows : (treatment : Treatment) → Rows (choice_line treatment)
choice_rows first_fit = none
choice_rows any_fit = line_of (codes "by one of the choices" ∷ []) (omega arith)

wait_rows : (wait : Option ℕ) → IfSome wait (λ n. n < 2 ^ 64) → Rows (wait_line wait)
wait_rows None few = line_of (codes "fits in no later cycle" ∷ []) (omega arith)
wait_rows (Some n) few = by_test (n == 1) _ _ (λ _. line_of (codes "fits 1 cycle later" ∷ []) (omega arith)) (λ _.
    let most = digits n few in
    let parts = length-append (decimal n) (codes " cycles later" ++ []) in
    line_of (codes "fits " ∷ decimal n ∷ codes " cycles later" ∷ []) (omega (arith, most, parts)))

module _ {U : Type 0} (w : Wording U) (m : Pipeline U) (t : List Event) (lines choices : List ℕ) where
  picture_is : (asked : List (Pair U)) → Rows (picture_after w m t lines choices asked)
  picture_is asked = all_rows w.same w.unit _ _ _

  ways_are : length (ways_left m t lines choices) < 2 ^ 64 → Rows (ways_text w m t lines choices)
  ways_are few = all_ways w.class (cycles_of t) (ways_left m t lines choices) few

  pub left_narrow : length (ways_left m t lines choices) < 2 ^ 64 → IsNarrow (left_text w m t lines choices)
  left_narrow few = narrow_of (left_text w m t lines choices) (both _ _ (choice_rows m.treatment) (both _ _ (ways_are few) (both _ [] (picture_is []) none)))

  pub refusal_narrow : (class : ℕ) (wait : Option ℕ) → IfSome wait (λ n. n < 2 ^ 64) → length (alternatives_at m class) < 2 ^ 64 → length (ways_left m t lines choices) < 2 ^ 64 → IsNarrow (refusal_text w m t lines choices class wait)
  refusal_narrow class wait soon many few =
      narrow_of (refusal_text w m t lines choices class wait)
      (both _ _ (choice_rows m.treatment)
      (both _ _ (wait_rows wait soon)
      (both _ _ (groups_rows (group_lines w (cycles_of t) _ m.statements) (group_rows w (cycles_of t) _ m.statements) _ 0 (reasons w m t lines choices class))
      (both _ _ (all_takes w.same w.unit (pair_lists w m t lines choices class) (rw (length_map (λ a. ascending_by w.unit_cmp a.pairs) (alternatives_at m class)) many))
      (both _ _ (ways_are few)
      (both _ [] (picture_is _) none))))))
    where
      length_map : {A B : Type 0} (f : A → B) (xs : List A) → length (map f xs) ≡ length xs
      length_map f [] = refl
      length_map f (x ∷ xs) = ap suc (length_map f xs)
