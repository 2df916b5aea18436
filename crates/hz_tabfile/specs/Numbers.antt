-- A number as the reader finds it.
use Rattle.std.specs.Prelude.{ℕ, ◌^◌, ◌==◌, ◌||◌, not, min, Bool, false, if◌then◌else◌, List, [], ◌∷◌, Option, Some, None}
use Rattle.std.specs.Char.{is_ascii_digit}
use Rattle.std.specs.List.{list_all}
use Rattle.hz_base_model.specs.Lines.{number_from}
use Rattle.hz_tabtext_model.specs.Fields.{is_nil}

-- there is a first byte, which is no zero that others follow
abbrev pub begins_right : List ℕ → Bool
begins_right [] = false
begins_right (b ∷ bs) = not (b == 48) || is_nil bs

-- a number, or the first that is out of every range where it is greater
abbrev pub capped : ℕ → ℕ
capped n = min (2 ^ 32) n

-- the number of digits
abbrev pub digits_in : List ℕ → Option ℕ
digits_in bytes = if list_all is_ascii_digit bytes then Some (capped (number_from 0 bytes)) else None
