-- Numbers among the words, as they are read.
use Rattle.std.specs.Prelude.{ℕ, min}

-- a number, cut where it is more than any of 32 bits
abbrev pub capped : ℕ → ℕ
capped number = min number 4294967296
