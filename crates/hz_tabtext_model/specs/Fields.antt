-- The fields of a line, and which numbers they are. This profile, docs/FORMATS.md, 'Tables'.
use Rattle.std.specs.Prelude.{ℕ, ◌^◌, ◌==◌, ◌&&◌, ◌||◌, not, nat_lt, Bool, true, false, if◌then◌else◌, List, [], ◌∷◌, Option, Some, None, Result, Ok, Err, codes}
use Rattle.std.specs.Char.{is_ascii_digit}
use Rattle.std.specs.List.{list_all, slice_split, before_first, after_first}
use Rattle.std.specs.Str.{bytes_eq}
use Rattle.hz_base_model.specs.Names.{is_name}
use Rattle.hz_base_model.specs.Lines.{number_from}
use Rattle.hz_base_model.specs.Limits.{cycle_limit}
use Rattle.hz_tabtext_model.specs.Judging.{Kind, bad_line, bad_number, out_of_range, ◌>>=◌}

-- whether a list has nothing
abbrev pub is_nil : {A : Type 0} → List A → Bool
is_nil [] = true
is_nil (x ∷ xs) = false

-- the fields of a line, which single spaces part
abbrev pub fields_of : List ℕ → List (List ℕ)
fields_of line = slice_split (λ b. b == 32) line

-- whether the first field is this word
abbrev pub is_headed : List ℕ → List (List ℕ) → Bool
is_headed word [] = false
is_headed word (first ∷ fields) = bytes_eq first word

-- the fields after the word, none of them empty
abbrev pub beyond : List ℕ → List (List ℕ) → Result (List (List ℕ)) Kind
beyond word [] = Err bad_line
beyond word (first ∷ fields) = if bytes_eq first word && list_all (λ field. not (is_nil field)) fields then Ok fields else Err bad_line

-- the fields that come after the word of a line
unfoldable pub operands : (word line : List ℕ) → Result (List (List ℕ)) Kind
operands word line = beyond word (fields_of line)

-- the one field, where there is just one
abbrev pub only : List (List ℕ) → Result (List ℕ) Kind
only [] = Err bad_line
only (field ∷ fields) = if is_nil fields then Ok field else Err bad_line

-- three fields, where there are just three
abbrev pub three : List (List ℕ) → Result (List ℕ × List ℕ × List ℕ) Kind
three [] = Err bad_line
three (a ∷ []) = Err bad_line
three (a ∷ b ∷ []) = Err bad_line
three (a ∷ b ∷ c ∷ fields) = if is_nil fields then Ok (a, b, c) else Err bad_line

-- the one field after the word of a line
abbrev pub one_in : (word line : List ℕ) → Result (List ℕ) Kind
one_in word line = operands word line >>= only

-- the three fields after the word of a line
abbrev pub three_in : (word line : List ℕ) → Result (List ℕ × List ℕ × List ℕ) Kind
three_in word line = operands word line >>= three

-- decimal digits without a leading zero
abbrev pub is_decimal : List ℕ → Bool
is_decimal [] = false
is_decimal (b ∷ bs) = list_all is_ascii_digit (b ∷ bs) && (not (b == 48) || is_nil bs)

-- a number that passes the test, else it is out of its range
abbrev pub passing : (ℕ → Bool) → ℕ → Result ℕ Kind
passing test n = if test n then Ok n else Err out_of_range

-- the number that a field is: below 2 ^ 32
unfoldable pub number_in : List ℕ → Result ℕ Kind
number_in field = if is_decimal field then passing (λ n. nat_lt n (2 ^ 32)) (number_from 0 field) else Err bad_number

-- the number that a field is, where it passes the test
abbrev pub number_where : (ℕ → Bool) → List ℕ → Result ℕ Kind
number_where test field = number_in field >>= passing test

-- a number below a limit
unfoldable pub number_below : (limit : ℕ) (field : List ℕ) → Result ℕ Kind
number_below limit field = number_where (λ n. nat_lt n limit) field

-- an entry of a table of so many states: one of them, or `-`
unfoldable pub entry_in : (states : ℕ) (field : List ℕ) → Result (Option ℕ) Kind
entry_in states field = if bytes_eq field (codes "-") then Ok None else (number_below states field >>= λ state. Ok (Some state))

-- an entry of an ask in the row of this number: that number, or `-`
unfoldable pub ask_entry_in : (number : ℕ) (field : List ℕ) → Result (Option ℕ) Kind
ask_entry_in number field = if bytes_eq field (codes "-") then Ok None else (number_where (λ n. n == number) field >>= λ state. Ok (Some state))

-- the advance of a table of so many states: one of them
unfoldable pub advance_in : (states : ℕ) (field : List ℕ) → Result (Option ℕ) Kind
advance_in states field = number_below states field >>= λ state. Ok (Some state)

-- the colon of a field of a grid
abbrev pub is_colon : ℕ → Bool
is_colon b = b == 58

-- whether a field of a grid has a colon, and a name after the first one
abbrev pub has_unit : List ℕ → Bool
has_unit field = is_name (after_first is_colon field)

-- the cycle of a field of a grid: the number before its first colon
unfoldable pub cycle_in : List ℕ → Result ℕ Kind
cycle_in field = number_below cycle_limit (before_first is_colon field)
