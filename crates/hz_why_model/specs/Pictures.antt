-- Pictures of what stands reserved: a row for each unit, a column for each cycle. This profile, docs/RULES.md, 'Reasons'.
use Rattle.std.specs.Prelude.{ℕ, suc, ◌+◌, ◌-◌, ◌/◌, Bool, nat_lt, min, max, List, [], ◌∷◌, ◌++◌, codes, decimal, replicate, take, drop, length, map, filter, if◌then◌else◌}
use Rattle.std.specs.List.{concat, flat_map, list_any, range_with_len}
use Rattle.std.specs.Option.{option_map_or}
use Rattle.hz_base_model.specs.Pairs.{Pair}
use Rattle.hz_why_model.specs.Holders.{Entry, entry_at, pairs_in}

-- the columns of a line, at most
abbrev pub line_limit : ℕ
line_limit = 80

-- the columns of a name in a picture, at most
abbrev pub name_limit : ℕ
name_limit = 32

abbrev pub spaces : ℕ → List ℕ
spaces n = replicate n 32

-- a text at the left of so many columns: the first bytes of one that is longer
abbrev pub at_left : ℕ → List ℕ → List ℕ
at_left columns text = take columns text ++ spaces (columns - length text)

-- a text at the right of so many columns: the last bytes of one that is longer
abbrev pub at_right : ℕ → List ℕ → List ℕ
at_right columns text = spaces (columns - length text) ++ drop (length text - columns) text

-- the length of the longest text
abbrev pub longest : List (List ℕ) → ℕ
longest [] = 0
longest (text ∷ texts) = max (length text) (longest texts)

-- how many cycles there are up to the last of a pair
abbrev pub cycles_in : {U : Type 0} → List (Pair U) → ℕ
cycles_in [] = 0
cycles_in (p ∷ ps) = max (suc p.cycle) (cycles_in ps)

-- How a picture is laid out: the columns of names, those of a cycle, and how many cycles are shown.
pub record Layout : Type 0 where
  pub name : ℕ
  pub cycle : ℕ
  pub shown : ℕ

-- the columns of names, which are as wide as the longest and as the word `cycle`
abbrev pub name_columns : List (List ℕ) → ℕ
name_columns names = min name_limit (max 5 (longest names))

-- the columns that are left after the names
abbrev pub room_after : ℕ → ℕ
room_after name = line_limit - (name + 2)

-- the columns of each of so many cycles: as wide as the longest text, or narrower if there is no room for that
abbrev pub cycle_columns : (room cycles longest_text : ℕ) → ℕ
cycle_columns room cycles longest_text = max 1 (min longest_text (room / cycles - 1))

-- the layout with these columns, for so many cycles
abbrev pub layout_by : (name cycle cycles : ℕ) → Layout
layout_by name cycle cycles = record { name = name; cycle = cycle; shown = min cycles (room_after name / (cycle + 1)) }

-- the layout for rows of these names, and so many cycles with texts of at most this length
abbrev pub layout_of : List (List ℕ) → (cycles longest_text : ℕ) → Layout
layout_of names cycles longest_text = layout_by (name_columns names) (cycle_columns (room_after (name_columns names)) cycles longest_text) cycles

-- a line of a picture: a name, and a text for each cycle
abbrev pub picture_line : Layout → List ℕ → List (List ℕ) → List ℕ
picture_line l name texts = concat (at_left l.name name ∷ spaces 2 ∷ flat_map (λ text. spaces 1 ++ at_right l.cycle text) texts ∷ codes "\n" ∷ [])

-- the line that says where a picture is cut, if it is
abbrev pub cut_line : Layout → (cycles : ℕ) → List ℕ
cut_line l cycles = if nat_lt l.shown cycles then concat (codes "cut after cycle " ∷ decimal (l.shown - 1) ∷ codes "\n" ∷ []) else []

module _ {U : Type 0} (same : U → U → Bool) (name : U → List ℕ) (held : List (Entry U)) where
  -- what a unit has in a cycle: the line of the issue that holds it, or a dot
  abbrev pub text_at : U → (cycle : ℕ) → List ℕ
  text_at u cycle = option_map_or (λ e. decimal e.line) (entry_at same held (record { unit = u; cycle = cycle })) (codes ".")

  -- the row of a unit
  abbrev pub row_of : Layout → U → List ℕ
  row_of l u = picture_line l (name u) (map (text_at u) (range_with_len 0 l.shown))

  -- rows of these units below the numbers of the cycles
  abbrev pub rows_by : Layout → (cycles : ℕ) → List U → List ℕ
  rows_by l cycles units = concat (picture_line l (codes "cycle") (map decimal (range_with_len 0 l.shown)) ∷ flat_map (row_of l) units ∷ cut_line l cycles ∷ [])

  -- the longest text of a cell: the number of the last cycle, or a line
  abbrev pub longest_cell : (cycles : ℕ) → ℕ
  longest_cell cycles = longest (decimal (cycles - 1) ∷ map (λ e. decimal e.line) held)

  -- the rows of these units in their layout; no line if there is none
  abbrev pub rows_of : (cycles : ℕ) → List U → List ℕ
  rows_of cycles [] = []
  rows_of cycles (u ∷ us) = rows_by (layout_of (map name (u ∷ us)) cycles (longest_cell cycles)) cycles (u ∷ us)

  -- The picture of what is held and asked for, with cycles counted from the present one: a row for each unit of these pairs, in the
  -- order of the units, a column for each cycle up to the last.
  abbrev pub picture : (units : List U) → (asked : List (Pair U)) → List ℕ
  picture units asked = rows_of (cycles_in (pairs_in held ++ asked)) (filter (λ u. list_any (λ p. same p.unit u) (pairs_in held ++ asked)) units)
