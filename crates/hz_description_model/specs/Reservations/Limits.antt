-- The limits of expressions and of their alternatives: docs/RULES.md, 'Limits'.
use Rattle.std.specs.Prelude.{ℕ}

-- alternatives of a class or of a reservation
abbrev pub alternative_limit : ℕ
alternative_limit = 4096

-- the cycles and pairs of alternatives together
abbrev pub size_limit : ℕ
size_limit = 2097152

-- the greatest number after `*`
abbrev pub repeat_limit : ℕ
repeat_limit = 65535
