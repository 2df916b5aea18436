use Rattle.std.specs.Prelude.{◌≡◌, ◌≢◌, ℕ, ◌<◌, Bool, ◌==◌, IsTrue}
use Rattle.std.specs.Int.{bit_at}
use Rattle.hz_grid.specs.declared.rows.TheConstants.{UNITS}

-- A row is seen as a number: unit u is in it where bit u is 1.
unfoldable pub has_unit : ℕ → ℕ → Bool
has_unit row unit = bit_at row unit == 1

-- the unit is in the row
abbrev pub HasUnit : ℕ → ℕ → Type 0
HasUnit row unit = IsTrue (has_unit row unit)

-- some unit is in both rows
abbrev pub RowsMeet : ℕ → ℕ → Type 0
RowsMeet first second = (unit : ℕ) × HasUnit first unit × HasUnit second unit

-- each unit of the one row is in the other
abbrev pub IsWithin : ℕ → ℕ → Type 0
IsWithin first second = (unit : ℕ) → HasUnit first unit → HasUnit second unit

-- the unit is in one of the rows alone, and is the lowest such
pub record DifferAt (one other unit : ℕ) : Type 0 where
  pub below : unit < UNITS
  pub here : has_unit one unit ≢ has_unit other unit
  pub lower : (lower : ℕ) → lower < unit → has_unit one lower ≡ has_unit other lower

-- some unit above this one is in the row
abbrev pub HasAbove : ℕ → ℕ → Type 0
HasAbove row unit = (other : ℕ) × (unit < other) × HasUnit row other
