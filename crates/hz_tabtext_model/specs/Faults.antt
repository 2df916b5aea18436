-- Where a text ends, and the faults that are reported of its first line and of its end.
use Rattle.std.specs.Prelude.{ℕ, List, length}
use Rattle.hz_tabtext_model.specs.Judging.{Fault, bad_header, truncated, trailing}
use Rattle.hz_tabtext_model.specs.Reading.{lines_in}

-- the number of the last line of a text, which is not ended: one more than the text has line feeds
abbrev pub last_line : List ℕ → ℕ
last_line text = length (lines_in text)

-- this line, the first, is another than the header
abbrev pub bad_header_at : ℕ → Fault
bad_header_at line = record { kind = bad_header; line = line }

-- the text ends within this line, or before it where it had to come
abbrev pub truncated_at : ℕ → Fault
truncated_at line = record { kind = truncated; line = line }

-- something comes after the end, from this line on
abbrev pub trailing_at : ℕ → Fault
trailing_at line = record { kind = trailing; line = line }
