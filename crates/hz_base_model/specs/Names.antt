-- Names of units, reservations, classes and files, and what names hold: this profile, docs/RULES.md.
use Rattle.std.specs.Prelude.{ℕ, Bool, List, [], ◌∷◌, ◌&&◌, ◌||◌, ◌==◌, not, nat_le, false, Option, Some, None, if◌then◌else◌}
use Rattle.std.specs.List.{list_all}

-- `,` `|` `+` `*` `(` `)` `"`: the marks of expressions, lists and strings, which no name holds
abbrev pub is_separator : ℕ → Bool
is_separator b = b == 44 || b == 124 || b == 43 || b == 42 || b == 40 || b == 41 || b == 34

-- a printable ASCII byte that is no blank and no separator
abbrev pub is_name_byte : ℕ → Bool
is_name_byte b = nat_le 33 b && nat_le b 126 && not (is_separator b)

-- a name is one or more such bytes
abbrev pub is_name : List ℕ → Bool
is_name [] = false
is_name (b ∷ bs) = list_all is_name_byte (b ∷ bs)

-- the bytes as a name, where they are one
abbrev pub name_of : List ℕ → Option (List ℕ)
name_of bytes = if is_name bytes then Some bytes else None

-- what names hold: the bytes of the file of each, or `None` where there is no such file
abbrev pub Held : Type 0
Held = List ℕ → Option (List ℕ)
