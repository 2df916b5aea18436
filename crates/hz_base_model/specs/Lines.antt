-- Lines, names between commas and decimal numbers: this profile, docs/FORMATS.md.
use Rattle.std.specs.Prelude.{ℕ, ◌+◌, ◌-◌, ◌*◌, ◌==◌, List, [], ◌∷◌, Option, Some, None, if◌then◌else◌, length, take, drop, map}
use Rattle.std.specs.Char.{is_ascii_digit, is_ascii_whitespace}
use Rattle.std.specs.List.{onto_first, slice_split, list_all, prefix_len, suffix_len, position}
use Rattle.std.specs.Str.{bytes_eq}

-- the lines of a text: each ends with a line feed, which the last may lack
abbrev pub lines_of : List ℕ → List (List ℕ)
lines_of [] = []
lines_of (b ∷ bs) = if b == 10 then [] ∷ lines_of bs else onto_first b (lines_of bs)

-- without the white space at both ends: space, tab, line feed, form feed, carriage return
abbrev pub trimmed : List ℕ → List ℕ
trimmed bytes = without_trailing (drop (prefix_len is_ascii_whitespace bytes) bytes)
  where
    without_trailing : List ℕ → List ℕ
    without_trailing rest = take (length rest - suffix_len is_ascii_whitespace rest) rest

-- the pieces between commas, white space round each dropped
abbrev pub separated : List ℕ → List (List ℕ)
separated bytes = map trimmed (slice_split (λ b. b == 44) bytes)

-- the number that digits spell, after those that spelled `high`
abbrev pub number_from : ℕ → List ℕ → ℕ
number_from high [] = high
number_from high (b ∷ bs) = number_from (high * 10 + (b - 48)) bs

-- the number of one or more digits
abbrev pub number_of : List ℕ → Option ℕ
number_of [] = None
number_of (b ∷ bs) = if list_all is_ascii_digit (b ∷ bs) then Some (number_from 0 (b ∷ bs)) else None

-- the place of a name in a list of names
abbrev pub place_of : List ℕ → List (List ℕ) → Option ℕ
place_of name names = position (bytes_eq name) names
