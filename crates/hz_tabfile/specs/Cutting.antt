-- A text in pieces, as the reader holds them.
use Rattle.std.specs.Prelude.{ℕ, ◌==◌, not, if◌then◌else◌, List, [], Option, Some, None, length}
use Rattle.std.specs.Borrow.{Bor}
use Rattle.std.specs.List.{slice_split, list_all}
use Rattle.hz_tabtext_model.specs.Fields.{is_nil}

-- the pieces of what is left, with this byte between each two; none where nothing is left
abbrev pub pieces : ℕ → Option (Bor (List ℕ)) → List (List ℕ)
pieces byte None = []
pieces byte (Some text) = slice_split (λ b. b == byte) text.now

-- the fields of what is left of a line
abbrev pub fields_in : Option (Bor (List ℕ)) → List (List ℕ)
fields_in rest = pieces 32 rest

-- how many fields there are, where none is empty
unfoldable pub counted : List (List ℕ) → Option ℕ
counted fields = if list_all (λ field. not (is_nil field)) fields then Some (length fields) else None
