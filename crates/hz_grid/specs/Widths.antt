-- A grid of one of three widths.
use Rattle.std.specs.Prelude.{ℕ, ◌<◌, List, All}
use Rattle.hz_base_model.specs.Pairs.{Pair}
use Rattle.hz_grid.specs.declared.grids.Width.{Width}
use Rattle.hz_grid.specs.declared.grids.Width.TheVariants.{One, Two, Four}

-- the pairs, whatever the width
abbrev pub pairs_of : Width → List (Pair ℕ)
pairs_of (One grid) = grid
pairs_of (Two grid) = grid
pairs_of (Four grid) = grid

-- the units are below a number
abbrev pub AreBelow : ℕ → List (ℕ × ℕ) → Type 0
AreBelow most pairs = All (λ pair. pair.0 < most) pairs

-- the width is the least of the three that holds the units of these pairs
abbrev pub IsLeast : List (ℕ × ℕ) → Width → Type 0
IsLeast pairs (One grid) = AreBelow 64 pairs
IsLeast pairs (Two grid) = (AreBelow 64 pairs → ⊥) × AreBelow 128 pairs
IsLeast pairs (Four grid) = AreBelow 128 pairs → ⊥
