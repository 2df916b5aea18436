-- Rows as words of 64 bits, the lowest first.
use Rattle.std.specs.Prelude.{◌≡◌, ℕ, zero, suc, ◌+◌, ◌*◌, ◌/◌, ◌%◌, ◌^◌, ◌<◌, ◌≤◌, ◌-◌, List, [], ◌∷◌, length, All, refl}
use Rattle.std.proofs.Common.{ap, ap₂, ◌∙◌, arith}
use Rattle.std.proofs.lemmas.List.Elements.{All-head, All-tail}
use Rattle.hz_grid.specs.Rows.{HasUnit}
use Rattle.std.specs.Hash as fed
use Rattle.std.specs.Prelude.{nat_eq, ◌++◌}
use Rattle.std.proofs.lemmas.Bool.Decides.{Decides-eqb}

-- the row of these words
abbrev pub row_of : List ℕ → ℕ
row_of [] = 0
row_of (word ∷ words) = row_of words * 2 ^ 64 + word

-- the words of a row
abbrev pub words_of : ℕ → ℕ → List ℕ
words_of zero row = []
words_of (suc count) row = row % 2 ^ 64 ∷ words_of count (row / 2 ^ 64)

-- words of 64 bits
abbrev pub AreWords : List ℕ → Type 0
AreWords words = All (λ word. word < 2 ^ 64) words

-- so many words, of which a row has at most four
pub record IsWords (many : ℕ) (words : List ℕ) : Type 0 where
  pub count : length words ≡ many
  pub small : AreWords words
  pub few : many ≤ 4

-- the words are found again
pub words_of-row_of : (count : ℕ) (words : List ℕ) → IsWords count words → words_of count (row_of words) ≡ words
words_of-row_of zero [] is = refl
words_of-row_of zero (word ∷ words) is = absurd (omega (arith, is.count))
words_of-row_of (suc count) [] is = absurd (omega (arith, is.count))
words_of-row_of (suc count) (word ∷ words) is =
    let small = All-head (λ w. w < 2 ^ 64) word words is.small in
    let low : (row_of words * 2 ^ 64 + word) % 2 ^ 64 ≡ word = omega (arith, small) in
    let high : (row_of words * 2 ^ 64 + word) / 2 ^ 64 ≡ row_of words = omega (arith, small) in
    let rest = words_of-row_of count words (record { count = omega (arith, is.count); small = All-tail (λ w. w < 2 ^ 64) word words is.small; few = omega (arith, is.few) }) in
    ap₂ (λ (w : ℕ) (ws : List ℕ). w ∷ ws) low (ap (words_of count) high ∙ rest)

-- what is fed for a row: its four words, whatever the width
abbrev pub fed_row : ℕ → fed.HashWrites
fed_row row = fed.u64 (row % 2 ^ 64) ++ (fed.u64 (row / 2 ^ 64 % 2 ^ 64) ++ (fed.u64 (row / 2 ^ 128 % 2 ^ 64) ++ fed.u64 (row / 2 ^ 192 % 2 ^ 64)))

-- equal rows are fed alike
pub same_rows_are_fed_alike : fed.Alike nat_eq fed_row
same_rows_are_fed_alike = fed.same_Alike fed_row Decides-eqb

-- the number is so many higher than one of the set
abbrev pub IsRaised : ℕ → ℕ → ℕ → Type 0
IsRaised row by unit = (by ≤ unit) × HasUnit row (unit - by)
