-- What is written of two machines that are compared. This profile, docs/FORMATS.md, 'Comparisons'.
use Rattle.std.specs.Prelude.{◌==◌, ℕ, ◌+◌, ◌-◌, Bool, true, false, if◌then◌else◌, nat_lt, List, [], ◌∷◌, ◌++◌, codes, decimal, length, slice_index_or}
use Rattle.std.specs.List.{concat, flat_map}
use Rattle.hz_pipeline_model.specs.Tables.Machines.{Machine}
use Rattle.hz_same_model.specs.Common.{Common, advance_symbol, classes_alone, asks_alone}

-- the text of machines that are the same
abbrev pub same_line : List ℕ
same_line = codes "same\n"

-- the line of pairs that pass their limit
abbrev pub pairs_line : List ℕ
pairs_line = codes "limit pairs\n"

-- ---- names that one machine has alone

-- a class, or a query unit, that the text of this file has alone
abbrev pub alone_line : (kind file name : List ℕ) → List ℕ
alone_line kind file name = concat (codes "; " ∷ kind ∷ codes " " ∷ name ∷ codes " is of " ∷ file ∷ codes " alone\n" ∷ [])

-- all that a machine has and the other has not: its classes, and then its query units
abbrev pub alone_lines : (file : List ℕ) → (m other : Machine) → List ℕ
alone_lines file m other = flat_map (alone_line (codes "class") file) (classes_alone m other) ++ flat_map (alone_line (codes "ask") file) (asks_alone m other)

-- those of the first, and then those of the second
abbrev pub names_alone : (file other_file : List ℕ) → (first second : Machine) → List ℕ
names_alone file other_file first second = alone_lines file first second ++ alone_lines other_file second first

-- after them, where nothing else differs
abbrev pub else_line : List ℕ
else_line = codes "; else the same\n"

-- ---- the trace

-- so many cycles; no line for none
abbrev pub advance_lines : ℕ → List ℕ
advance_lines cycles = if cycles == 0 then [] else concat (codes "advance " ∷ decimal cycles ∷ codes "\n" ∷ [])

-- the issue of a class
abbrev pub issue_line : (name : List ℕ) → List ℕ
issue_line name = concat (codes "issue " ∷ name ∷ codes "\n" ∷ [])

-- the ask of a query unit
abbrev pub ask_line : (name : List ℕ) → List ℕ
ask_line name = concat (codes "ask " ∷ name ∷ codes "\n" ∷ [])

-- the line of a symbol that is no advance: the issue of a class, or the ask of a query unit
abbrev pub symbol_line : Common → ℕ → List ℕ
symbol_line common symbol =
    if nat_lt symbol (length common.classes) then issue_line (slice_index_or common.classes symbol []) else ask_line (slice_index_or common.asks (symbol - length common.classes - 1) [])

-- The lines of symbols, where so many cycles wait to be written: advances side by side are one line.
abbrev pub trace_lines : Common → (waiting : ℕ) → List ℕ → List ℕ
trace_lines common waiting [] = advance_lines waiting
trace_lines common waiting (symbol ∷ word) =
    if symbol == advance_symbol common then trace_lines common (waiting + 1) word else advance_lines waiting ++ (symbol_line common symbol ++ trace_lines common 0 word)

-- ---- the last line

-- the one refuses the last event, and the other takes it
abbrev pub refused_line : (refuses accepts : List ℕ) → List ℕ
refused_line refuses accepts = concat (codes "; refused by " ∷ refuses ∷ codes ", accepted by " ∷ accepts ∷ codes "\n" ∷ [])

-- the unit that is asked for last is reserved in the one, and free in the other
abbrev pub reserved_line : (reserved free : List ℕ) → List ℕ
reserved_line reserved free = concat (codes "; reserved in " ∷ reserved ∷ codes ", free in " ∷ free ∷ codes "\n" ∷ [])

-- by whether the last event is an ask, and by what the first machine answers to it
abbrev pub last_line : (file other_file : List ℕ) → (asks answer : Bool) → List ℕ
last_line file other_file false true = refused_line other_file file
last_line file other_file false false = refused_line file other_file
last_line file other_file true true = reserved_line file other_file
last_line file other_file true false = reserved_line other_file file

-- the trace, and who answers its last event how
abbrev pub difference_text : (file other_file : List ℕ) → Common → (trace : List ℕ) → (last : ℕ) → (answer : Bool) → List ℕ
difference_text file other_file common trace last answer = trace_lines common 0 trace ++ last_line file other_file (nat_lt (advance_symbol common) last) answer
