-- What the reader answers of a text, beside what the definitions read. Want of memory says nothing.
use Rattle.std.specs.Prelude.{◌≡◌, ℕ, ⊤, List, Option, Some, None, MatchOption, Result, Ok, Err}
use Rattle.hz_tabtext_model.specs.Judging.{Fault, Kind, bad_header, bad_line, bad_number, out_of_range, truncated, trailing}
use Rattle.hz_tabtext_model.specs.Reading.{Rest, lines_in}
use Rattle.hz_tabfile.specs.declared.reading.fault.TabFault.{TabFault}
use Rattle.hz_tabfile.specs.declared.reading.fault.TabFault.TheVariants as reported
use Rattle.hz_tabfile.specs.declared.reading.wrong.Wrong.{Wrong}
use Rattle.hz_tabfile.specs.declared.reading.wrong.Wrong.TheVariants.{BadLine, BadNumber, OutOfRange, NoMemory}

-- the fault of the definitions and its line; want of memory is none
abbrev pub fault_of : TabFault → Option (Kind × ℕ)
fault_of (reported.BadHeader line) = Some (bad_header, line)
fault_of (reported.BadLine line) = Some (bad_line, line)
fault_of (reported.BadNumber line) = Some (bad_number, line)
fault_of (reported.OutOfRange line) = Some (out_of_range, line)
fault_of (reported.Truncated line) = Some (truncated, line)
fault_of (reported.Trailing line) = Some (trailing, line)
fault_of reported.NoMemory = None

-- what is reported of a text is what is read; want of memory says nothing
abbrev pub Tells : {Y : Type 0} → TabFault → Result Y Fault → Type 0
Tells fault read = MatchOption (fault_of fault) ⊤ (λ found. read ≡ Err (record { kind = found.0; line = found.1 }))

-- what a function answered of a text, seen by view, is what is read
abbrev pub Gives : {X Y : Type 0} → (X → Y) → Result X TabFault → Result Y Fault → Type 0
Gives view (Ok x) read = read ≡ Ok (view x)
Gives view (Err fault) read = Tells fault read

-- what is wrong with the line of this number
abbrev pub fault_at : ℕ → Wrong → TabFault
fault_at line BadLine = reported.BadLine line
fault_at line BadNumber = reported.BadNumber line
fault_at line OutOfRange = reported.OutOfRange line
fault_at line NoMemory = reported.NoMemory

-- what is left of a text, from the line of this number on
abbrev pub rest_at : ℕ → List ℕ → Rest
rest_at number bytes = record { number = number; lines = lines_in bytes }
