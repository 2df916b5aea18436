-- What a function of the reader answers, beside what the definitions judge. Want of memory says nothing.
use Rattle.std.specs.Prelude.{◌≡◌, Result, Ok, Err}
use Rattle.hz_tabtext_model.specs.Judging.{Kind, bad_line, bad_number, out_of_range}
use Rattle.hz_tabfile.specs.declared.reading.wrong.Wrong.{Wrong}
use Rattle.hz_tabfile.specs.declared.reading.wrong.Wrong.TheVariants.{BadLine, BadNumber, OutOfRange, NoMemory}

-- what is wrong with a line is what is judged
abbrev pub Refuses : {Y : Type 0} → Wrong → Result Y Kind → Type 0
Refuses BadLine judged = judged ≡ Err bad_line
Refuses BadNumber judged = judged ≡ Err bad_number
Refuses OutOfRange judged = judged ≡ Err out_of_range
Refuses NoMemory judged = Unit {0}

-- what a function answered of a line, seen by view, is what is judged
abbrev pub Judges : {X Y : Type 0} → (X → Y) → Result X Wrong → Result Y Kind → Type 0
Judges view (Ok x) judged = judged ≡ Ok (view x)
Judges view (Err wrong) judged = Refuses wrong judged
