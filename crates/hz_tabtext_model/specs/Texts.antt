-- Tables texts: what a text says, line by line, and the machine that it stands for. This profile, docs/FORMATS.md,
-- 'Tables'. A line is its fields, with a space between each two, and ends with a line feed.
use Rattle.std.specs.Prelude.{◌≡◌, ◌≢◌, ℕ, ◌+◌, ◌*◌, ◌^◌, ◌<◌, ◌≤◌, Bool, if◌then◌else◌, List, [], ◌∷◌, ◌++◌, Option, Some, None, IsTrue, IfSome, length, map, codes, decimal, suc, IsFalse}
use Rattle.std.specs.List.{AllByRecursion, AllPairs, flat_map, join_with_byte}
use Rattle.hz_base_model.specs.Names.{is_name}
use Rattle.hz_base_model.specs.Limits.{automaton_limit, class_limit, cycle_limit, unit_limit}
use Rattle.hz_pipeline_model.specs.Tables.StateLimits.{state_limit, cell_limit}
use Rattle.hz_pipeline_model.specs.Tables.Machines as machines

-- What is reported of a state beside its row: the row and column where it is read first, none for the start; and its grids,
-- each a list of cycles and names of units.
pub record Shown : Type 0 where
  pub origin : Option (ℕ × ℕ)
  pub grids : List (List (ℕ × List ℕ))

-- A state: its entries, the advance last, and what is reported of it, if anything is.
pub record RowText : Type 0 where
  pub entries : List (Option ℕ)
  pub shown : Option Shown

-- Grids, states and members before minimisation.
pub record Counts : Type 0 where
  pub grids : ℕ
  pub states : ℕ
  pub members : ℕ

-- An automaton: its name, how many columns its classes have, the column of each class, the names of the units that are asked
-- for, its counts, if they are reported, and its states.
pub record PartText : Type 0 where
  pub name : List ℕ
  pub columns : ℕ
  pub map : List ℕ
  pub asks : List (List ℕ)
  pub counts : Option Counts
  pub rows : List RowText

-- All that a text says: whether it has lines of asks, which is version 2; the treatment, the names of the classes, and the
-- automata.
pub record TablesText : Type 0 where
  pub asked : Bool
  pub ndfa : Bool
  pub classes : List (List ℕ)
  pub parts : List PartText

-- the fields of a line, as bytes, without its line feed
unfoldable pub joined : List (List ℕ) → List ℕ
joined fields = join_with_byte 32 fields

-- a line as bytes
abbrev pub line_text : List (List ℕ) → List ℕ
line_text fields = joined fields ++ 10 ∷ []

-- an entry is a state, or `-`
abbrev pub entry_field : Option ℕ → List ℕ
entry_field None = codes "-"
entry_field (Some state) = decimal state

-- `row t ..`
abbrev pub entries_line : List (Option ℕ) → List (List ℕ)
entries_line entries = codes "row" ∷ map entry_field entries

-- `from -`, or `from P C`
abbrev pub origin_line : Option (ℕ × ℕ) → List (List ℕ)
origin_line None = codes "from" ∷ codes "-" ∷ []
origin_line (Some place) = codes "from" ∷ decimal place.0 ∷ decimal place.1 ∷ []

-- `CYCLE:UNIT`
abbrev pub pair_field : ℕ × List ℕ → List ℕ
pair_field pair = decimal pair.0 ++ 58 ∷ pair.1

-- `grid CYCLE:UNIT ..`
abbrev pub grid_line : List (ℕ × List ℕ) → List (List ℕ)
grid_line grid = codes "grid" ∷ map pair_field grid

-- the lines of what is reported of a state
abbrev pub shown_lines : Option Shown → List (List (List ℕ))
shown_lines None = []
shown_lines (Some shown) = origin_line shown.origin ∷ map grid_line shown.grids

-- the lines of a state
abbrev pub row_lines : RowText → List (List (List ℕ))
row_lines row = entries_line row.entries ∷ shown_lines row.shown

-- `stats GRIDS STATES MEMBERS`, where the counts are reported
abbrev pub counts_lines : Option Counts → List (List (List ℕ))
counts_lines None = []
counts_lines (Some counts) = (codes "stats" ∷ decimal counts.grids ∷ decimal counts.states ∷ decimal counts.members ∷ []) ∷ []

-- `automaton NAME COLUMNS STATES`
abbrev pub head_line : PartText → List (List ℕ)
head_line part = codes "automaton" ∷ part.name ∷ decimal part.columns ∷ decimal (length part.rows) ∷ []

-- `map c ..`
abbrev pub map_line : List ℕ → List (List ℕ)
map_line columns = codes "map" ∷ map decimal columns

-- `asks NAME ..`, in version 2
abbrev pub asks_lines : (asked : Bool) → List (List ℕ) → List (List (List ℕ))
asks_lines asked asks = if asked then (codes "asks" ∷ asks) ∷ [] else []

-- the lines of an automaton
abbrev pub part_lines : (asked : Bool) → PartText → List (List (List ℕ))
part_lines asked part = head_line part ∷ map_line part.map ∷ (asks_lines asked part.asks ++ (counts_lines part.counts ++ flat_map row_lines part.rows))

-- `hazard-tables 1`, or `hazard-tables 2`
abbrev pub header_line : (asked : Bool) → List (List ℕ)
header_line asked = codes "hazard-tables" ∷ (if asked then codes "2" else codes "1") ∷ []

-- `treatment first`, or `treatment ndfa`
abbrev pub treatment_line : Bool → List (List ℕ)
treatment_line ndfa = codes "treatment" ∷ (if ndfa then codes "ndfa" else codes "first") ∷ []

-- `class NAME`
abbrev pub class_line : List ℕ → List (List ℕ)
class_line name = codes "class" ∷ name ∷ []

-- the lines of a text
abbrev pub tables_lines : TablesText → List (List (List ℕ))
tables_lines says =
    header_line says.asked ∷ treatment_line says.ndfa
    ∷ (codes "classes" ∷ decimal (length says.classes) ∷ []) ∷ (map class_line says.classes
    ++ (codes "automata" ∷ decimal (length says.parts) ∷ []) ∷ (flat_map (part_lines says.asked) says.parts
    ++ (codes "end" ∷ []) ∷ []))

-- the bytes of a text
abbrev pub spelled : TablesText → List ℕ
spelled says = flat_map line_text (tables_lines says)

-- an entry of a table of so many states is one of them, or none
abbrev pub IsEntry : ℕ → Option ℕ → Type 0
IsEntry states entry = IfSome entry (λ state. state < states)

-- a pair of a cycle and the name of a unit
pub record IsPair (pair : ℕ × List ℕ) : Type 0 where
  pub cycle : pair.0 < cycle_limit
  pub unit : IsTrue (is_name pair.1)

-- What is reported of a state of a table of so many columns and states: its origin is a row and a column of that table, the
-- advance among them.
pub record IsShown (columns states : ℕ) (shown : Shown) : Type 0 where
  pub origin : IfSome shown.origin (λ place. (place.0 < states) × (place.1 ≤ columns))
  pub grids : AllByRecursion (AllByRecursion IsPair) shown.grids

-- an entry of an ask is the number of its row, or none
abbrev pub IsAskEntry : ℕ → Option ℕ → Type 0
IsAskEntry number entry = IfSome entry (λ state. state ≡ number)

-- The row of this number of a table of so many columns, asks and states: an entry for each column and for each ask, and the
-- advance, which is none never.
pub record IsRow (columns asks states number : ℕ) (row : RowText) : Type 0 where
  pub classes : List (Option ℕ)
  pub asked : List (Option ℕ)
  pub advance : ℕ
  pub entries : row.entries ≡ classes ++ (asked ++ Some advance ∷ [])
  pub width : length classes ≡ columns
  pub targets : AllByRecursion (IsEntry states) classes
  pub ask_width : length asked ≡ asks
  pub stays : AllByRecursion (IsAskEntry number) asked
  pub goes : advance < states
  pub shown : IfSome row.shown (IsShown columns states)

-- the rows of a table from this number on
abbrev pub AreRows : (columns asks states number : ℕ) → List RowText → Type 0
AreRows columns asks states number [] = Unit {0}
AreRows columns asks states number (row ∷ rows) = IsRow columns asks states number row × AreRows columns asks states (suc number) rows

-- counts are below 2 ^ 32
pub record AreCounts (counts : Counts) : Type 0 where
  pub grids : counts.grids < 2 ^ 32
  pub states : counts.states < 2 ^ 32
  pub members : counts.members < 2 ^ 32

-- An automaton beside so many classes.
pub record IsPartText (classes : ℕ) (part : PartText) : Type 0 where
  pub name : IsTrue (is_name part.name)
  pub columns : part.columns ≤ classes
  pub some : 1 ≤ length part.rows
  pub few : length part.rows ≤ state_limit
  pub each : length part.map ≡ classes
  pub within : AllByRecursion (λ column. column < part.columns) part.map
  pub asks : AllByRecursion (λ name. IsTrue (is_name name)) part.asks
  pub few_asks : length part.asks ≤ unit_limit
  pub cells : length part.rows * (part.columns + length part.asks + 1) ≤ cell_limit
  pub counts : IfSome part.counts AreCounts
  pub rows : AreRows part.columns (length part.asks) (length part.rows) 0 part.rows

-- the names of all asks, part by part
abbrev pub asks_said : List PartText → List (List ℕ)
asks_said parts = flat_map (λ part. part.asks) parts

-- What a text may say.
pub record IsTables (says : TablesText) : Type 0 where
  pub names : AllByRecursion (λ name. IsTrue (is_name name)) says.classes
  pub different : AllPairs (λ a b. a ≢ b) says.classes
  pub class_count : length says.classes ≤ class_limit
  pub some : 1 ≤ length says.parts
  pub few : length says.parts ≤ automaton_limit
  pub parts : AllByRecursion (IsPartText (length says.classes)) says.parts
  pub asks : AllPairs (λ a b. a ≢ b) (asks_said says.parts)
  pub version : IsFalse says.asked → asks_said says.parts ≡ []

-- an automaton as a part of a machine: its counts and what is reported of its states are dropped
abbrev pub part_of : PartText → machines.Part
part_of part = record { name = part.name; map = part.map; columns = part.columns; asks = part.asks; rows = map (λ row. row.entries) part.rows }

-- the machine that is said
abbrev pub machine_of : TablesText → machines.Machine
machine_of says = record { classes = says.classes; parts = map part_of says.parts }

-- The text spells something that a text may say, and the machine is the one that is said.
pub record TableText (text : List ℕ) (machine : machines.Machine) : Type 0 where
  pub says : TablesText
  pub fits : IsTables says
  pub spells : text ≡ spelled says
  pub stands : machine ≡ machine_of says
