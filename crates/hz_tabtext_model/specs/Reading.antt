-- The machine that a text stands for, or the first fault of the text.
use Rattle.std.specs.Prelude.{ℕ, zero, suc, ◌+◌, ◌==◌, ◌&&◌, Bool, true, false, if◌then◌else◌, List, [], ◌∷◌, ◌++◌, Option, Result, Ok, Err, codes, length}
use Rattle.std.specs.List.{slice_split}
use Rattle.hz_pipeline_model.specs.Tables.Machines.{Part, Machine}
use Rattle.hz_tabtext_model.specs.Judging.{Kind, truncated, trailing, Fault, ◌>>=◌}
use Rattle.hz_tabtext_model.specs.Fields.{is_nil, fields_of, is_headed}
use Rattle.hz_tabtext_model.specs.Lines.{header_in, treatment_in, classes_in, class_in, automata_in, head_in, map_in, counts_in, row_in, origin_in, grid_in, end_in, asks_in}

-- What is left of a text: the number of its first line, and its lines. The last is what comes after the last line feed:
-- it is not ended, and empty where the text ends with a line feed.
pub record Rest : Type 0 where
  pub number : ℕ
  pub lines : List (List ℕ)

-- a fault at a line
abbrev pub at_line : {A : Type 0} → ℕ → Result A Kind → Result A Fault
at_line number (Ok x) = Ok x
at_line number (Err kind) = Err (record { kind = kind; line = number })

-- A line with this number before others is judged where it is ended.
abbrev pub judged : {A : Type 0} → (List ℕ → Result A Kind) → (number : ℕ) (line : List ℕ) (others : List (List ℕ)) → Result A Fault
judged judge number line others = at_line number (if is_nil others then Err truncated else judge line)

-- the first of some lines is judged, and the others are left
abbrev pub first_by : {A : Type 0} → (List ℕ → Result A Kind) → (number : ℕ) → List (List ℕ) → Result (A × Rest) Fault
first_by judge number [] = Err (record { kind = truncated; line = number })
first_by judge number (line ∷ others) = judged judge number line others >>= λ x. Ok (x, record { number = number + 1; lines = others })

-- the next line is judged
abbrev pub line_by : {A : Type 0} → (List ℕ → Result A Kind) → Rest → Result (A × Rest) Fault
line_by judge rest = first_by judge rest.number rest.lines

-- So many, one after the other, each by what is known before it: after each of them the next thing is known.
unfoldable pub so_many : {S A : Type 0} → (next : S → A → S) → (read : S → Rest → Result (A × Rest) Fault) → ℕ → (known : S) → Rest → Result (List A × Rest) Fault
so_many next read zero known rest = Ok ([], rest)
so_many next read (suc n) known rest = do
  first ← read known rest
  others ← so_many next read n (next known first.0) first.1
  Ok (first.0 ∷ others.0, others.1)

-- so many classes, after others
unfoldable pub classes_at : ℕ → (before : List (List ℕ)) → Rest → Result (List (List ℕ) × Rest) Fault
classes_at zero before rest = Ok (before, rest)
classes_at (suc n) before rest = do
  class ← line_by (class_in before) rest
  classes_at n (before ++ class.0 ∷ []) class.1

-- whether the first of some lines begins with this word
abbrev pub begin_with : (word : List ℕ) → List (List ℕ) → Bool
begin_with word [] = false
begin_with word (line ∷ others) = is_headed word (fields_of line)

-- whether the next line does
abbrev pub comes : (word : List ℕ) → Rest → Bool
comes word rest = begin_with word rest.lines

-- counts, where they come
unfoldable pub counts_at : Rest → Result Rest Fault
counts_at rest = if comes (codes "stats") rest then (line_by counts_in rest >>= λ x. Ok x.1) else Ok rest

-- grids, as many as come
unfoldable pub grids_from : ℕ → List (List ℕ) → Result Rest Fault
grids_from number [] = Ok (record { number = number; lines = [] })
grids_from number (line ∷ others) =
    if is_headed (codes "grid") (fields_of line)
    then (judged grid_in number line others >>= λ x. grids_from (number + 1) others)
    else Ok (record { number = number; lines = line ∷ others })

-- what is reported of a state of a table of so many columns and states, where it comes
unfoldable pub shown_at : (columns states : ℕ) → Rest → Result Rest Fault
shown_at columns states rest =
    if comes (codes "from") rest
    then (line_by (origin_in columns states) rest >>= λ x. grids_from x.1.number x.1.lines)
    else Ok rest

-- the state of this number, of a table of so many columns, asks and states
unfoldable pub row_at : (columns asks states number : ℕ) → Rest → Result (List (Option ℕ) × Rest) Fault
row_at columns asks states number rest = do
  row ← line_by (row_in columns asks states number) rest
  after ← shown_at columns states row.1
  Ok (row.0, after)

-- the number of the next row
abbrev pub next_row : ℕ → List (Option ℕ) → ℕ
next_row number row = suc number

-- asks of a table of so many columns and states beside other asks, in version 2
unfoldable pub asks_at : (asked : Bool) (columns states : ℕ) (before : List (List ℕ)) → Rest → Result (List (List ℕ) × Rest) Fault
asks_at asked columns states before rest = if asked then line_by (asks_in columns states before) rest else Ok ([], rest)

-- an automaton beside so many classes and other asks
unfoldable pub part_at : (asked : Bool) (classes : ℕ) (before : List (List ℕ)) → Rest → Result (Part × Rest) Fault
part_at asked classes before rest = do
  head ← line_by (head_in classes) rest
  columns ← line_by (map_in classes head.0.columns) head.1
  asks ← asks_at asked head.0.columns head.0.states before columns.1
  after ← counts_at asks.1
  rows ← so_many next_row (row_at head.0.columns (length asks.0) head.0.states) head.0.states 0 after
  Ok (record { name = head.0.name; map = columns.0; columns = head.0.columns; asks = asks.0; rows = rows.0 }, rows.1)

-- the names of asks up to the next automaton
abbrev pub more_asks : List (List ℕ) → Part → List (List ℕ)
more_asks before part = before ++ part.asks

-- nothing is left but the end of the last line
abbrev pub is_over : List (List ℕ) → Bool
is_over [] = true
is_over (line ∷ others) = is_nil line && is_nil others

-- after the header
unfoldable pub machine_at : (asked : Bool) → Rest → Result Machine Fault
machine_at asked rest = do
  treatment ← line_by treatment_in rest
  count ← line_by classes_in treatment.1
  classes ← classes_at count.0 [] count.1
  automata ← line_by automata_in classes.1
  parts ← so_many more_asks (part_at asked count.0) automata.0 [] automata.1
  last ← line_by end_in parts.1
  if is_over last.1.lines then Ok (record { classes = classes.0; parts = parts.0 }) else Err (record { kind = trailing; line = last.1.number })

-- the lines of a text; the last one is not ended
abbrev pub lines_in : List ℕ → List (List ℕ)
lines_in text = slice_split (λ b. b == 10) text

-- The machine of a text. Lines are judged in their order, so that the first fault stands.
unfoldable pub tables_in : List ℕ → Result Machine Fault
tables_in text = do
  header ← line_by header_in (record { number = 1; lines = lines_in text })
  machine_at header.0 header.1
