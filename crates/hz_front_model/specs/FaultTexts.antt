-- The texts of faults of a description. This profile, docs/FORMATS.md, 'Answers'.
use Rattle.std.specs.Prelude.{ℕ, List, Option, Some, None}
use Rattle.hz_description_model.specs.Reading.DescriptionForms.{DescriptionFault, description_word, description_at}
use Rattle.hz_description_model.specs.Check.CheckFaults.{CheckFault, LimitName, check_word, limit_word, limit_passed}
use Rattle.hz_description_model.specs.Check.Sites.{Site}
use Rattle.hz_front_model.specs.Texts.{fault_text, passed_line}

-- a fault of a description's form; an expression's fault has a word of its own and a byte of its string
abbrev pub description_line : List ℕ → DescriptionFault → ℕ → List ℕ
description_line file fault line = fault_text file line (description_word fault) None None None (description_at fault)

-- a fault of a description, by the limit that it passes if it is one: the limit with the name of what passes it, or the word and the name
abbrev pub reported_line : List ℕ → List ℕ → Site → Option LimitName → List ℕ
reported_line file word site (Some limit) = passed_line file site.line (limit_word limit) site.name
reported_line file word site None = fault_text file site.line word None (Some site.name) None None

-- the line of a fault of a description, where it stands
abbrev pub check_line : List ℕ → CheckFault → Site → List ℕ
check_line file fault site = reported_line file (check_word fault) site (limit_passed fault)

-- the status of a limit, and of any other fault
abbrev pub status_by : Option LimitName → ℕ
status_by (Some limit) = 3
status_by None = 2

-- the status of a fault of a description
abbrev pub check_status : CheckFault → ℕ
check_status fault = status_by (limit_passed fault)
