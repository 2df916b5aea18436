-- How lists and lines are cut. This profile, docs/FORMATS.md, 'Explanations'.
use Rattle.std.specs.Prelude.{ℕ, suc, ◌+◌, ◌-◌, ◌==◌, nat_le, List, [], ◌∷◌, ◌++◌, codes, decimal, take, length, map, if◌then◌else◌}
use Rattle.std.specs.List.{concat}
use Rattle.hz_why_model.specs.Pictures.{line_limit}

-- a line: of one that is longer the first bytes, and `..` in place of the others
abbrev pub narrow : List ℕ → List ℕ
narrow line = if nat_le (length line) line_limit then line else take (line_limit - 2) line ++ codes ".."

-- the columns that are kept for what says that a list goes on
abbrev pub kept_for : List (List ℕ) → ℕ
kept_for [] = 0
kept_for (item ∷ items) = 3

-- A list in so many columns: as many items as fit, the first after this text and each other after that one. Where there are more, ` ..`
-- is in their place.
abbrev pub listed : (columns : ℕ) → (before between : List ℕ) → List (List ℕ) → List ℕ
listed columns before between [] = []
listed columns before between (item ∷ items) =
    if nat_le (length before + length item + kept_for items) columns
    then before ++ (item ++ listed (columns - (length before + length item)) between between items)
    else codes " .."

-- Numbers that follow each other: the first, and the last.
pub record Run : Type 0 where
  pub first : ℕ
  pub last : ℕ

-- a number before runs of greater ones
abbrev pub before_runs : ℕ → List Run → List Run
before_runs n [] = record { first = n; last = n } ∷ []
before_runs n (r ∷ rs) = if suc n == r.first then record { first = n; last = r.last } ∷ rs else record { first = n; last = n } ∷ r ∷ rs

-- ascending numbers as runs
abbrev pub runs : List ℕ → List Run
runs [] = []
runs (n ∷ ns) = before_runs n (runs ns)

-- the numbers from one to another
abbrev pub range_text : (first last : ℕ) → List ℕ
range_text first last = if first == last then decimal first else concat (decimal first ∷ codes "-" ∷ decimal last ∷ [])

-- the columns of numbers, at most
abbrev pub numbers_limit : ℕ
numbers_limit = 30

-- `alternative`, or `alternatives`, and their numbers
abbrev pub alternatives_text : List ℕ → List ℕ
alternatives_text numbers = (if length numbers == 1 then codes "alternative" else codes "alternatives") ++ listed numbers_limit (codes " ") (codes ", ") (map (λ r. range_text r.first r.last) (runs numbers))
