-- Operators on words of 64 bits. GCC Internals, 'Arithmetic' and 'Comparison Operations'; docs/RULES.md, 'Blocks'.
use Rattle.std.specs.Prelude.{ℕ, ◌+◌, ◌-◌, ◌*◌, ◌/◌, ◌%◌, ◌^◌, ◌==◌, Bool, not, nat_lt, if◌then◌else◌, bit_and, bit_or, bit_xor}

-- how many words there are: a word is a number below
abbrev pub word_count : ℕ
word_count = 2 ^ 64

-- `neg` and `not`
pub data UnaryOperator : Type 0 where
  neg complement : UnaryOperator

pub data BinaryOperator : Type 0 where
  plus minus mult udiv umod conjunction disjunction exclusive ashift lshiftrt ashiftrt eq ne ltu lt : BinaryOperator

-- 1 if it is true
abbrev pub truth : Bool → ℕ
truth test = if test then 1 else 0

abbrev pub unary_word : UnaryOperator → ℕ → ℕ
unary_word neg a = (word_count - a) % word_count
unary_word complement a = word_count - 1 - a

-- the words from here on have the sign in two's complement
abbrev pub sign : ℕ
sign = 2 ^ 63

-- a shift goes by the second operand modulo 64
abbrev pub factor : ℕ → ℕ
factor b = 2 ^ (b % 64)

-- to the right with copies of the sign: the complement of a word with the sign is shifted with zeros, and taken back
abbrev pub arithmetic_shift : ℕ → ℕ → ℕ
arithmetic_shift a b = if nat_lt a sign then a / factor b else word_count - 1 - (word_count - 1 - a) / factor b

abbrev pub binary_word : BinaryOperator → ℕ → ℕ → ℕ
binary_word plus a b = (a + b) % word_count
binary_word minus a b = (a + (word_count - b)) % word_count
binary_word mult a b = (a * b) % word_count
-- by 0 all ones
binary_word udiv a b = if b == 0 then word_count - 1 else a / b
-- by 0 the dividend
binary_word umod a b = if b == 0 then a else a % b
binary_word conjunction a b = bit_and a b
binary_word disjunction a b = bit_or a b
binary_word exclusive a b = bit_xor a b
binary_word ashift a b = (a * factor b) % word_count
binary_word lshiftrt a b = a / factor b
binary_word ashiftrt a b = arithmetic_shift a b
binary_word eq a b = truth (a == b)
binary_word ne a b = truth (not (a == b))
binary_word ltu a b = truth (nat_lt a b)
-- words with the sign stand below those without
binary_word lt a b = truth (nat_lt ((a + sign) % word_count) ((b + sign) % word_count))
