-- Lines, as the reader has them.
use Rattle.std.specs.Prelude.{ℕ, ◌+◌, ◌&&◌, nat_lt, if◌then◌else◌, List, [], ◌∷◌, ◌++◌, Option, Result, Ok, Err}
use Rattle.hz_base_model.specs.Names.{is_name}
use Rattle.hz_tabtext_model.specs.Judging.{Kind, bad_line, ◌>>=◌, each_by}
use Rattle.hz_tabtext_model.specs.Fields.{entry_in, ask_entry_in, advance_in, cycle_in}
use Rattle.hz_tabtext_model.specs.Lines.{Nothing, class_in, is_new}

-- the classes with that of a line after them
abbrev pub class_onto : List (List ℕ) → List ℕ → Result (List (List ℕ)) Kind
class_onto before line = class_in before line >>= λ name. Ok (before ++ name ∷ [])

-- a name that is not among those before
abbrev pub new_name_in : (before : List (List ℕ)) (name : List ℕ) → Result (List ℕ) Kind
new_name_in before name = if is_name name && is_new before name then Ok name else Err bad_line

-- what stands at a place of the row of this number: an entry of a class, that of an ask, or the advance
abbrev pub cell_in : (columns asks states number place : ℕ) → List ℕ → Result (Option ℕ) Kind
cell_in columns asks states number place field =
    if nat_lt place columns then entry_in states field
    else (if nat_lt place (columns + asks) then ask_entry_in number field else advance_in states field)

-- the cycles of a grid, dropped
abbrev pub cycles_in : List (List ℕ) → Result Nothing Kind
cycles_in fields = each_by cycle_in fields >>= λ cycles. Ok tt
