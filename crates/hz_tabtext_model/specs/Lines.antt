-- What each line must be at its place. Of a line that may be dropped only what is wrong with it is reported.
use Rattle.std.specs.Prelude.{ℕ, ◌+◌, ◌*◌, ◌==◌, ◌&&◌, not, nat_le, Bool, true, false, if◌then◌else◌, List, [], ◌∷◌, ◌++◌, Option, Result, Ok, Err, length, take, drop, codes}
use Rattle.std.specs.List.{list_all, list_any}
use Rattle.std.specs.Str.{bytes_eq}
use Rattle.hz_base_model.specs.Names.{is_name}
use Rattle.hz_base_model.specs.Limits.{automaton_limit, class_limit, unit_limit}
use Rattle.hz_pipeline_model.specs.Tables.StateLimits.{state_limit, cell_limit}
use Rattle.hz_tabtext_model.specs.Judging.{Kind, bad_header, bad_line, ◌>>=◌, each_by, out_of_range}
use Rattle.hz_tabtext_model.specs.Fields.{is_nil, operands, one_in, three_in, number_where, number_below, number_in, entry_in, advance_in, has_unit, cycle_in, ask_entry_in}

-- nothing but what is wrong
abbrev pub Nothing : Type 0
Nothing = Unit {0}

-- whether it is `hazard-tables 2`; else `hazard-tables 1`
unfoldable pub header_in : List ℕ → Result Bool Kind
header_in line = if bytes_eq line (codes "hazard-tables 2") then Ok true else (if bytes_eq line (codes "hazard-tables 1") then Ok false else Err bad_header)

-- whether it is `treatment ndfa`; else `treatment first`
unfoldable pub treatment_in : List ℕ → Result Bool Kind
treatment_in line = do
  name ← one_in (codes "treatment") line
  if bytes_eq name (codes "ndfa") then Ok true else (if bytes_eq name (codes "first") then Ok false else Err bad_line)

-- `classes K`
unfoldable pub classes_in : List ℕ → Result ℕ Kind
classes_in line = do
  count ← one_in (codes "classes") line
  number_where (λ n. nat_le n class_limit) count

-- a name that is not among those before
abbrev pub is_new : (before : List (List ℕ)) (name : List ℕ) → Bool
is_new before name = not (list_any (bytes_eq name) before)

-- `class NAME`, after other classes
unfoldable pub class_in : (before : List (List ℕ)) (line : List ℕ) → Result (List ℕ) Kind
class_in before line = do
  name ← one_in (codes "class") line
  if is_name name && is_new before name then Ok name else Err bad_line

-- `automata N`
unfoldable pub automata_in : List ℕ → Result ℕ Kind
automata_in line = do
  count ← one_in (codes "automata") line
  number_where (λ n. nat_le 1 n && nat_le n automaton_limit) count

-- What the line of an automaton says: its name, its columns and its states.
pub record Head : Type 0 where
  pub name : List ℕ
  pub columns : ℕ
  pub states : ℕ

-- so many states of so many columns are neither none nor too many
abbrev pub are_states : (columns states : ℕ) → Bool
are_states columns states = nat_le 1 states && nat_le states state_limit && nat_le (states * (columns + 1)) cell_limit

-- the name and the two numbers of an automaton, beside so many classes
abbrev pub head_of : (classes : ℕ) (name columns states : List ℕ) → Result Head Kind
head_of classes name columns states =
    if is_name name then
    (do
      c ← number_where (λ n. nat_le n classes) columns
      s ← number_where (are_states c) states
      Ok (record { name = name; columns = c; states = s }))
    else Err bad_line

-- `automaton NAME COLUMNS STATES`
unfoldable pub head_in : (classes : ℕ) (line : List ℕ) → Result Head Kind
head_in classes line = do
  parts ← three_in (codes "automaton") line
  head_of classes parts.0 parts.1 parts.2

-- `map c ..`: a column for each class
unfoldable pub map_in : (classes columns : ℕ) (line : List ℕ) → Result (List ℕ) Kind
map_in classes columns line = do
  fields ← operands (codes "map") line
  if length fields == classes then each_by (number_below columns) fields else Err bad_line

-- names that are not among those before, nor among one another
unfoldable pub asks_of : (before : List (List ℕ)) → List (List ℕ) → Result (List (List ℕ)) Kind
asks_of before [] = Ok []
asks_of before (name ∷ names) =
    if is_name name && is_new before name
    then (asks_of (before ++ name ∷ []) names >>= λ others. Ok (name ∷ others))
    else Err bad_line

-- so many names of asks, beside so many columns and states, are not too many, and neither are all entries
abbrev pub are_asks : (columns states asks : ℕ) → Bool
are_asks columns states asks = nat_le asks unit_limit && nat_le (states * (columns + asks + 1)) cell_limit

-- `asks NAME ..`, beside other asks
unfoldable pub asks_in : (columns states : ℕ) (before : List (List ℕ)) (line : List ℕ) → Result (List (List ℕ)) Kind
asks_in columns states before line = do
  names ← operands (codes "asks") line
  asks ← asks_of before names
  if are_asks columns states (length asks) then Ok asks else Err out_of_range

-- three numbers
abbrev pub counts_of : List ℕ → List ℕ → List ℕ → Result Nothing Kind
counts_of grids states members = do
  g ← number_in grids
  s ← number_in states
  m ← number_in members
  Ok tt

-- `stats GRIDS STATES MEMBERS`
unfoldable pub counts_in : List ℕ → Result Nothing Kind
counts_in line = do
  counts ← three_in (codes "stats") line
  counts_of counts.0 counts.1 counts.2

-- the entries of so many columns and asks in the row of this number, and the advance
abbrev pub entries_of : (columns asks states number : ℕ) → List (List ℕ) → Result (List (Option ℕ)) Kind
entries_of columns asks states number fields = do
  classes ← each_by (entry_in states) (take columns fields)
  asked ← each_by (ask_entry_in number) (take asks (drop columns fields))
  advance ← each_by (advance_in states) (drop asks (drop columns fields))
  Ok (classes ++ (asked ++ advance))

-- `row t ..`: an entry for each column and each ask, and the advance
unfoldable pub row_in : (columns asks states number : ℕ) (line : List ℕ) → Result (List (Option ℕ)) Kind
row_in columns asks states number line = do
  fields ← operands (codes "row") line
  if length fields == columns + asks + 1 then entries_of columns asks states number fields else Err bad_line

-- a row below the number of states, and a column or the advance
abbrev pub place_of : (columns states : ℕ) (row column : List ℕ) → Result Nothing Kind
place_of columns states row column = do
  r ← number_below states row
  c ← number_where (λ n. nat_le n columns) column
  Ok tt

-- `-`, or a row and a column
abbrev pub origin_of : (columns states : ℕ) → List (List ℕ) → Result Nothing Kind
origin_of columns states [] = Err bad_line
origin_of columns states (row ∷ []) = if bytes_eq row (codes "-") then Ok tt else Err bad_line
origin_of columns states (row ∷ column ∷ fields) = if is_nil fields then place_of columns states row column else Err bad_line

-- `from -`, or `from P C`
unfoldable pub origin_in : (columns states : ℕ) (line : List ℕ) → Result Nothing Kind
origin_in columns states line = do
  fields ← operands (codes "from") line
  origin_of columns states fields

-- `grid CYCLE:UNIT ..`
unfoldable pub grid_in : List ℕ → Result Nothing Kind
grid_in line = do
  fields ← operands (codes "grid") line
  if list_all has_unit fields then (each_by cycle_in fields >>= λ cycles. Ok tt) else Err bad_line

-- `end`
unfoldable pub end_in : List ℕ → Result Nothing Kind
end_in line = if bytes_eq line (codes "end") then Ok tt else Err bad_line
