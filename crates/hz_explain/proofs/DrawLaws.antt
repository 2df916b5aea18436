-- What is drawn of rows is the picture of their units.
use Rattle.std.proofs.Common.{◌≡◌, ◌≤◌, ◌+◌, ◌/◌, min, ℕ, Bool, List, [], ◌∷◌, ◌++◌, map, take, length, Option, Some, None, refl, sym, ap, ◌∙◌, arith}
use Rattle.std.specs.Prelude.{codes, decimal}
use Rattle.std.specs.List.{concat, flat_map, range_with_len}
use Rattle.std.specs.Option.{option_map, option_map_or}
use Rattle.std.proofs.Math.Nat.{div-le_self}
use Rattle.std.proofs.lemmas.List.{append_assoc, append-nil}
use Rattle.std.proofs.lemmas.List.Concat.{flat_map-append}
use Rattle.std.proofs.lemmas.List.FromFn.{take-map-range_with_len}
use Rattle.hz_why_model.specs.Holders.{Entry, entry_at}
use Rattle.hz_why_model.specs.Pictures.{line_limit, spaces, at_right, Layout, picture_line, cut_line, text_at, row_of, rows_of, layout_of, layout_by, name_columns, room_after, cycle_columns, longest_cell}
use Rattle.hz_explain.specs.Drawing.{cell_text, cells, names_of, row_text, rows_text, picture_text, IsRowOf, AreRowsOf}
use Rattle.hz_explain.specs.declared.drawing.Row.{Row}

-- a cell more
pub one_cell : (columns : ℕ) (old before now : List ℕ) (texts : List (List ℕ)) (text : List ℕ) → before ≡ old ++ cells columns texts → now ≡ before ++ (spaces 1 ++ at_right columns text) → now ≡ old ++ cells columns (texts ++ text ∷ [])
one_cell columns old before now texts text so more =
    let one : List ℕ = spaces 1 ++ at_right columns text in
    let all : cells columns (texts ++ text ∷ []) ≡ cells columns texts ++ one = flat_map-append (λ (t : List ℕ). spaces 1 ++ at_right columns t) texts (text ∷ []) ∙ ap (λ (l : List ℕ). cells columns texts ++ l) (append-nil one) in
    more ∙ (ap (λ (b : List ℕ). b ++ one) so ∙ (append_assoc old (cells columns texts) one ∙ ap (λ (l : List ℕ). old ++ l) (sym all)))

-- rows that there are
pub picture_some : (cycles most : ℕ) (rows : List Row) → (length rows ≡ 0 → ⊥) → rows_text (layout_of (names_of rows) cycles most) cycles rows ≡ picture_text cycles most rows
picture_some cycles most [] some = absurd (some refl)
picture_some cycles most (row ∷ rows) some = refl

same_map : {A B C : Type 0} (f : B → C) (g : A → B) (h : A → C) → ((x : A) → f (g x) ≡ h x) → (xs : List A) → map f (map g xs) ≡ map h xs
same_map f g h each [] = refl
same_map f g h each (x ∷ xs) = ap (λ (y : _). y ∷ map f (map g xs)) (each x) ∙ ap (λ (ys : List _). h x ∷ ys) (same_map f g h each xs)

-- no more cycles are shown than there are columns
shown_within : (name cycle cycles n : ℕ) → min cycles line_limit ≤ n → (layout_by name cycle cycles).shown ≤ n
shown_within name cycle cycles n wide = let some : room_after name / (cycle + 1) ≤ room_after name = div-le_self (room_after name) (cycle + 1) in let room : room_after name ≤ line_limit = omega arith in omega arith

module _ {U : Type 0} (same : U → U → Bool) (name : U → List ℕ) (held : List (Entry U)) where
  cell : (o : Option (Entry U)) → cell_text (option_map (λ e. e.line) o) ≡ option_map_or (λ e. decimal e.line) o (codes ".")
  cell None = refl
  cell (Some e) = refl

  module _ (cycles : ℕ) (l : Layout) (shown : l.shown ≤ cycles) where
    row_is : (u : U) (row : Row) → IsRowOf same name held cycles u row → row_text l row ≡ row_of same name held l u
    row_is u row is =
        let at : ℕ → Option (Entry U) = λ cycle. entry_at same held (record { unit = u; cycle = cycle }) in
        let lines : ℕ → Option ℕ = λ cycle. option_map (λ (e : Entry U). e.line) (at cycle) in
        let front : take l.shown row.lines.items ≡ map lines (range_with_len 0 l.shown) = ap (take l.shown) is.1 ∙ take-map-range_with_len lines 0 cycles l.shown shown in
        let cells : map cell_text (take l.shown row.lines.items) ≡ map (text_at same name held u) (range_with_len 0 l.shown) =
        ap (map cell_text) front ∙ same_map cell_text lines (text_at same name held u) (λ cycle. cell (at cycle)) (range_with_len 0 l.shown) in
        ap (λ (n : List ℕ). picture_line l n (map cell_text (take l.shown row.lines.items))) is.0 ∙ ap (picture_line l (name u)) cells

    rows_are : (us : List U) (rows : List Row) → AreRowsOf same name held cycles us rows → flat_map (row_text l) rows ≡ flat_map (row_of same name held l) us
    rows_are [] [] is = refl
    rows_are [] (row ∷ rows) is = absurd is
    rows_are (u ∷ us) [] is = absurd is
    rows_are (u ∷ us) (row ∷ rows) is = ap (λ (t : List ℕ). t ++ flat_map (row_text l) rows) (row_is u row is.0) ∙ ap (λ (t : List ℕ). row_of same name held l u ++ t) (rows_are us rows is.1)

  names_are : (n : ℕ) (us : List U) (rows : List Row) → AreRowsOf same name held n us rows → names_of rows ≡ map name us
  names_are n [] [] is = refl
  names_are n [] (row ∷ rows) is = absurd is
  names_are n (u ∷ us) [] is = absurd is
  names_are n (u ∷ us) (row ∷ rows) is = ap (λ (t : List ℕ). t ∷ names_of rows) is.0.0 ∙ ap (λ (ns : List (List ℕ)). name u ∷ ns) (names_are n us rows is.1)

  -- rows that have the lines of all cycles that may be shown
  pub drawn_is : (cycles n : ℕ) → min cycles line_limit ≤ n → (us : List U) (rows : List Row) → AreRowsOf same name held n us rows → picture_text cycles (longest_cell same name held cycles) rows ≡ rows_of same name held cycles us
  drawn_is cycles n wide [] [] is = refl
  drawn_is cycles n wide [] (row ∷ rows) is = absurd is
  drawn_is cycles n wide (u ∷ us) [] is = absurd is
  drawn_is cycles n wide (u ∷ us) (row ∷ rows) is =
      let most : ℕ = longest_cell same name held cycles in
      let l : Layout = layout_of (map name (u ∷ us)) cycles most in
      let shown : l.shown ≤ n = shown_within (name_columns (map name (u ∷ us))) (cycle_columns (room_after (name_columns (map name (u ∷ us)))) cycles most) cycles n wide in
      ap (λ (ns : List (List ℕ)). rows_text (layout_of ns cycles most) cycles (row ∷ rows)) (names_are n (u ∷ us) (row ∷ rows) is)
      ∙ ap (λ (t : List ℕ). concat (picture_line l (codes "cycle") (map decimal (range_with_len 0 l.shown)) ∷ t ∷ cut_line l cycles ∷ [])) (rows_are n l shown (u ∷ us) (row ∷ rows) is)
