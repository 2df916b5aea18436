-- Every table has one with columns for asks, whatever is marked.
use Rattle.std.proofs.Common.{◌≡◌, ℕ, zero, suc, ◌+◌, ◌-◌, ◌<◌, Bool, if◌then◌else◌, List, [], ◌∷◌, ◌++◌, Option, Some, None, length, map, take, drop, get_or, refl, sym, ap, ◌∙◌, arith, length-append, zero-add, add-zero}
use Rattle.std.specs.List.{range_with_len}
use Rattle.std.proofs.lemmas.List.{length-map, length-take-le, length-drop, get_or-take, get_or-drop, get_or_append_left, get_or-append_right}
use Rattle.std.proofs.lemmas.List.FromFn.{length-range_with_len, get_or-map-range_with_len}
use Rattle.hz_pipeline_model.specs.Tables.Tables.{Table, row_of, IsTable}
use Rattle.hz_pipeline_model.specs.Tables.AskColumns.{HasAsks}

module _ (columns asks : ℕ) (marks : ℕ → ℕ → Bool) where
  abbrev mark_at : ℕ → ℕ → Option ℕ
  mark_at state ask = if marks state ask then Some state else None

  abbrev marks_at : ℕ → List (Option ℕ)
  marks_at state = map (mark_at state) (range_with_len 0 asks)

  -- a row with its asks
  abbrev asked_row : ℕ → List (Option ℕ) → List (Option ℕ)
  asked_row state row = take columns row ++ (marks_at state ++ drop columns row)

  -- the rows from a state on
  abbrev pub asked_rows : (state : ℕ) → Table → Table
  asked_rows state [] = []
  asked_rows state (row ∷ rows) = asked_row state row ∷ asked_rows (suc state) rows

  many_rows : (state : ℕ) (rows : Table) → length (asked_rows state rows) ≡ length rows
  many_rows state [] = refl
  many_rows state (row ∷ rows) = ap suc (many_rows (suc state) rows)

  row_there : (state : ℕ) (rows : Table) (i : ℕ) → i < length rows → row_of (asked_rows state rows) i ≡ asked_row (state + i) (row_of rows i)
  row_there state [] i low = absurd (omega (arith, low))
  row_there state (row ∷ rows) zero low = ap (λ n. asked_row n row) (sym (add-zero state))
  row_there state (row ∷ rows) (suc i) low = let next : suc state + i ≡ state + suc i = omega arith in row_there (suc state) rows i (omega (arith, low)) ∙ ap (λ n. asked_row n (row_of rows i)) next

  many_marks : (state : ℕ) → length (marks_at state) ≡ asks
  many_marks state = length-map (range_with_len 0 asks) (mark_at state) ∙ length-range_with_len 0 asks

  module _ (state : ℕ) (row : List (Option ℕ)) (wide : length row ≡ columns + 1) where
    front : length (take columns row) ≡ columns
    front = length-take-le columns row (omega (arith, wide))

    back : length (drop columns row) ≡ 1
    back = omega (arith, length-drop columns row, wide)

    row_width : length (asked_row state row) ≡ columns + asks + 1
    row_width = omega (arith, length-append (take columns row) (marks_at state ++ drop columns row), length-append (marks_at state) (drop columns row), front, back, many_marks state)

    class_there : (column : ℕ) → column < columns → get_or (asked_row state row) column None ≡ get_or row column None
    class_there column low = get_or_append_left (take columns row) (marks_at state ++ drop columns row) None column (omega (arith, low, front)) ∙ get_or-take columns row column None low

    after_front : (place : ℕ) → get_or (asked_row state row) (columns + place) None ≡ get_or (marks_at state ++ drop columns row) place None
    after_front place =
        let at : columns + place - columns ≡ place = omega arith in
        get_or-append_right (take columns row) (marks_at state ++ drop columns row) columns (columns + place) None front (omega arith) ∙ ap (λ n. get_or (marks_at state ++ drop columns row) n None) at

    mark_there : (ask : ℕ) → ask < asks → get_or (asked_row state row) (columns + ask) None ≡ mark_at state ask
    mark_there ask low =
        after_front ask ∙ (get_or_append_left (marks_at state) (drop columns row) None ask (omega (arith, low, many_marks state)) ∙ get_or-map-range_with_len (mark_at state) 0 asks ask ask None low (omega arith))

    advance_there : get_or (asked_row state row) (columns + asks) None ≡ get_or row columns None
    advance_there =
        let none : asks - asks ≡ 0 = omega arith in
        let at : columns + 0 ≡ columns = omega arith in
        after_front asks
        ∙ (get_or-append_right (marks_at state) (drop columns row) asks asks None (many_marks state) (omega arith)
        ∙ (ap (λ n. get_or (drop columns row) n None) none ∙ (get_or-drop columns row 0 None ∙ ap (λ n. get_or row n None) at)))

  pub rows_have_asks : (table : Table) → IsTable table columns → HasAsks table (asked_rows 0 table) columns asks marks
  rows_have_asks table is =
      let here : (state : ℕ) → state < length table → row_of (asked_rows 0 table) state ≡ asked_row state (row_of table state) =
      λ state low. row_there 0 table state low ∙ ap (λ n. asked_row n (row_of table state)) (zero-add state) in
      record {
        each = many_rows 0 table;
        width = λ state low. ap length (here state low) ∙ row_width state (row_of table state) (is.width state low);
        classes = λ state column low class. ap (λ row. get_or row column None) (here state low) ∙ class_there state (row_of table state) (is.width state low) column class;
        marked = λ state ask low lt. ap (λ row. get_or row (columns + ask) None) (here state low) ∙ mark_there state (row_of table state) (is.width state low) ask lt;
        advance = λ state low. ap (λ row. get_or row (columns + asks) None) (here state low) ∙ advance_there state (row_of table state) (is.width state low);
      }
