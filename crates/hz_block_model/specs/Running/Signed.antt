-- Operators in the words of arithmetic, apart from how `Operators` computes them. GCC Internals, 'Arithmetic' and 'Comparison
-- Operations'; docs/FORMATS.md, 'Blocks and states'.
use Rattle.std.specs.Prelude.{◌≡◌, ◌⊎◌, ℕ, ◌+◌, ◌-◌, ◌*◌, ◌^◌, ◌<◌, ◌≤◌, nat_lt, if◌then◌else◌, ℤ, pos, negsuc, ◌+ℤ◌, ◌*ℤ◌, ◌<ℤ◌, ◌≤ℤ◌}

-- the number that a word is in two's complement: words from 2 ^ 63 on are below 0, by 2 ^ 64 less
abbrev pub signed : ℕ → ℤ
signed word = if nat_lt word (2 ^ 63) then pos word else negsuc (2 ^ 64 - 1 - word)

-- A word is a number without a multiple of 2 ^ 64.
pub record IsWordOf (number word : ℕ) : Type 0 where
  pub short : word < 2 ^ 64
  pub turns : ℕ
  pub is : number ≡ turns * 2 ^ 64 + word

-- A quotient is the floor of a number by a divisor, without sign.
pub record IsFloor (number divisor quotient : ℕ) : Type 0 where
  pub not_above : quotient * divisor ≤ number
  pub next_above : number < (quotient + 1) * divisor

-- The same with sign.
pub record IsSignedFloor (number : ℤ) (divisor : ℕ) (quotient : ℤ) : Type 0 where
  pub not_above : (quotient *ℤ pos divisor) ≤ℤ number
  pub next_above : number <ℤ ((quotient +ℤ pos 1) *ℤ pos divisor)

-- a word is 1 if something is so, and else 0
abbrev pub Tells : ℕ → Type 0 → Type 0
Tells word So = ((word ≡ 1) × So) ⊎ ((word ≡ 0) × (So → ⊥))
