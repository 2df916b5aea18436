-- What an alternative takes: each unit from a cycle to another without a break. This profile, docs/RULES.md, 'Reasons'.
use Rattle.std.specs.Prelude.{ℕ, zero, suc, ◌+◌, ◌-◌, ◌&&◌, Bool, true, false, nat_lt, List, [], ◌∷◌, ◌++◌, codes, decimal, take, length, map, if◌then◌else◌}
use Rattle.std.specs.List.{concat}
use Rattle.hz_base_model.specs.Pairs.{Pair, same_pair}
use Rattle.hz_pipeline_model.specs.Accepting.Plays.{has}
use Rattle.hz_why_model.specs.Groups.{group_texts}
use Rattle.hz_why_model.specs.Lists.{listed, range_text, alternatives_text}
use Rattle.hz_why_model.specs.Pictures.{line_limit, cycles_in}

-- A unit that is taken in each cycle from the first to the last.
pub record Stretch (U : Type 0) : Type 0 where
  pub unit : U
  pub first : ℕ
  pub last : ℕ

-- how many alternatives are written, at most
abbrev pub takes_limit : ℕ
takes_limit = 64

module _ {U : Type 0} (same : U → U → Bool) where
  module _ (pairs : List (Pair U)) where
    -- for how many cycles after this one the unit is taken without a break, of at most so many
    abbrev pub goes_on : (most : ℕ) → U → (cycle : ℕ) → ℕ
    goes_on zero u cycle = 0
    goes_on (suc most) u cycle = if has same pairs (record { unit = u; cycle = suc cycle }) then suc (goes_on most u (suc cycle)) else 0

    -- whether the unit of a pair is taken in the cycle before it, too
    abbrev pub continues : Pair U → Bool
    continues p = nat_lt 0 p.cycle && has same pairs (record { unit = p.unit; cycle = p.cycle - 1 })

    -- the stretch that begins with a pair
    abbrev pub stretch_from : Pair U → Stretch U
    stretch_from p = record { unit = p.unit; first = p.cycle; last = p.cycle + goes_on (cycles_in pairs) p.unit p.cycle }

    -- the stretches that begin with one of these pairs
    abbrev pub stretches_of : List (Pair U) → List (Stretch U)
    stretches_of [] = []
    stretches_of (p ∷ ps) = if continues p then stretches_of ps else stretch_from p ∷ stretches_of ps

  -- the stretches of pairs, in their order
  abbrev pub stretches : List (Pair U) → List (Stretch U)
  stretches pairs = stretches_of pairs pairs

  -- whether two lists of pairs are the same
  abbrev pub are_same : (xs ys : List (Pair U)) → Bool
  are_same [] [] = true
  are_same [] (y ∷ ys) = false
  are_same (x ∷ xs) [] = false
  are_same (x ∷ xs) (y ∷ ys) = same_pair same x y && are_same xs ys

module _ {U : Type 0} (name : U → List ℕ) where
  -- a unit, and its cycles
  abbrev pub stretch_text : Stretch U → List ℕ
  stretch_text s = concat (name s.unit ∷ codes " " ∷ range_text s.first s.last ∷ [])

  -- what is taken, in the columns that are left
  abbrev pub taken_text : (columns : ℕ) → List (Stretch U) → List ℕ
  taken_text columns [] = codes " nothing"
  taken_text columns (s ∷ ss) = listed columns (codes " ") (codes ", ") (map stretch_text (s ∷ ss))

-- `take`, or of one alternative `takes`
abbrev pub takes_word : (numbers : List ℕ) → List ℕ
takes_word (n ∷ []) = codes " takes"
takes_word numbers = codes " take"

module _ {U : Type 0} (same : U → U → Bool) (name : U → List ℕ) where
  -- the line of the alternatives of these numbers, which take these pairs
  abbrev pub takes_line : (numbers : List ℕ) → List (Pair U) → List ℕ
  takes_line numbers pairs = concat (alternatives_text numbers ∷ takes_word numbers ∷ taken_text name (line_limit - (length (alternatives_text numbers) + length (takes_word numbers))) (stretches same pairs) ∷ codes "\n" ∷ [])

  -- The line that says how many more alternatives there are than are written, if there are more.
  abbrev pub more_line : (alternatives : ℕ) → List ℕ
  more_line alternatives = if nat_lt takes_limit alternatives then concat (codes "more alternatives: " ∷ decimal (alternatives - takes_limit) ∷ codes "\n" ∷ []) else []

  -- What alternatives take, each list of pairs in order: of the first of them, those that take the same as one.
  abbrev pub takes_lines : List (List (Pair U)) → List ℕ
  takes_lines lists = group_texts (are_same same) takes_line (take takes_limit lists) ++ more_line (length lists)
