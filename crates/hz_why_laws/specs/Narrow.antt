-- Texts without long lines.
use Rattle.std.specs.Prelude.{◌≤◌, ℕ, List, All, length}
use Rattle.hz_base_model.specs.Lines.{lines_of}
use Rattle.hz_why_model.specs.Pictures.{line_limit}

-- no line of the text has more bytes than a line may have
abbrev pub IsNarrow : List ℕ → Type 0
IsNarrow text = All (λ line. length line ≤ line_limit) (lines_of text)
