-- Parts of a text, as the reader has them.
use Rattle.std.specs.Prelude.{◌≡◌, ℕ, ◌<◌, List, [], ◌∷◌, ◌++◌, Some, Result, Ok}
use Rattle.hz_pipeline_model.specs.Tables.Tables.{Table, entry}
use Rattle.hz_tabtext_model.specs.Judging.{Fault, ◌>>=◌}
use Rattle.hz_tabtext_model.specs.Lines.{class_in}
use Rattle.hz_tabtext_model.specs.Reading.{Rest, line_by, grids_from}

-- the classes with that of the next line after them
unfoldable pub class_read : List (List ℕ) → Rest → Result (List (List ℕ) × Rest) Fault
class_read before rest = line_by (class_in before) rest >>= λ class. Ok (before ++ class.0 ∷ [], class.1)

-- the grids that come, dropped
unfoldable pub grids_read : Rest → Result Rest Fault
grids_read rest = grids_from rest.number rest.lines

-- the entries of a table that are not none are below a number
abbrev pub AreTargets : ℕ → Table → Type 0
AreTargets states table = (row column next : ℕ) → entry table row column ≡ Some next → next < states
