-- Numbers of one, two or four bytes, the lowest byte first.
use Rattle.std.specs.Prelude.{ℕ, ◌+◌, ◌*◌, ◌==◌, ◌||◌, Bool, List, [], ◌∷◌}

-- a width that cells may have
abbrev pub is_width : ℕ → Bool
is_width width = (width == 1) || ((width == 2) || (width == 4))

-- the number that bytes stand for
abbrev pub number_of : List ℕ → ℕ
number_of [] = 0
number_of (byte ∷ bytes) = byte + 256 * number_of bytes
