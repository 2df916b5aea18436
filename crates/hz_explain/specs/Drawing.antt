-- Pictures as they are drawn: rows of a name and lines.
use Rattle.std.specs.Prelude.{◌≡◌, ⊤, ℕ, Bool, List, [], ◌∷◌, ◌++◌, Option, Some, None, codes, decimal, map, take}
use Rattle.std.specs.List.{concat, flat_map, range_with_len}
use Rattle.std.specs.Option.{option_map}
use Rattle.hz_why_model.specs.Holders.{Entry, entry_at}
use Rattle.hz_why_model.specs.Pictures as model
use Rattle.hz_why_model.specs.Pictures.{spaces, at_right, layout_of, picture_line, cut_line}
use Rattle.hz_explain.specs.declared.drawing.Layout.{Layout}
use Rattle.hz_explain.specs.declared.drawing.Row.{Row}

-- a layout
abbrev pub layout_in : Layout → model.Layout
layout_in l = record { name = l.name; cycle = l.cycle; shown = l.shown }

-- what stands in a cell: the line of the issue that holds it, or a dot
abbrev pub cell_text : Option ℕ → List ℕ
cell_text None = codes "."
cell_text (Some line) = decimal line

-- texts of cells, each of so many columns
abbrev pub cells : ℕ → List (List ℕ) → List ℕ
cells columns texts = flat_map (λ text. spaces 1 ++ at_right columns text) texts

-- the names of rows
abbrev pub names_of : List Row → List (List ℕ)
names_of rows = map (λ r. r.name.now) rows

-- a row
abbrev pub row_text : model.Layout → Row → List ℕ
row_text l r = picture_line l r.name.now (map cell_text (take l.shown r.lines.items))

-- rows below the numbers of the cycles
abbrev pub rows_text : model.Layout → (cycles : ℕ) → List Row → List ℕ
rows_text l cycles rows = concat (picture_line l (codes "cycle") (map decimal (range_with_len 0 l.shown)) ∷ flat_map (row_text l) rows ∷ cut_line l cycles ∷ [])

-- rows in their layout, for so many cycles and texts of at most this length; no line if there is no row
abbrev pub picture_text : (cycles longest_text : ℕ) → List Row → List ℕ
picture_text cycles longest_text [] = []
picture_text cycles longest_text (r ∷ rs) = rows_text (layout_of (names_of (r ∷ rs)) cycles longest_text) cycles (r ∷ rs)

-- who holds a unit in each of so many cycles, by lines
abbrev pub lines_at : {U : Type 0} → (U → U → Bool) → List (Entry U) → ℕ → U → List (Option ℕ)
lines_at same held cycles u = map (λ cycle. option_map (λ e. e.line) (entry_at same held (record { unit = u; cycle = cycle }))) (range_with_len 0 cycles)

-- the row is a unit's, for so many cycles
abbrev pub IsRowOf : {U : Type 0} → (U → U → Bool) → (U → List ℕ) → List (Entry U) → ℕ → U → Row → Type 0
IsRowOf same name held cycles u row = (row.name.now ≡ name u) × (row.lines.items ≡ lines_at same held cycles u)

-- the rows are those of units, one after the other
abbrev pub AreRowsOf : {U : Type 0} → (U → U → Bool) → (U → List ℕ) → List (Entry U) → ℕ → List U → List Row → Type 0
AreRowsOf same name held cycles [] [] = ⊤
AreRowsOf same name held cycles (u ∷ us) (row ∷ rows) = IsRowOf same name held cycles u row × AreRowsOf same name held cycles us rows
AreRowsOf same name held cycles us rows = ⊥
