-- What is fed to a hasher for a grid: its rows, found again from its pairs.
use Rattle.std.specs.Prelude.{ℕ, zero, suc, ◌+◌, ◌*◌, ◌^◌, max, Bool, true, false, nat_eq, List, [], ◌∷◌, map}
use Rattle.std.specs.List.{range_with_len, list_any}
use Rattle.std.specs.Hash as fed
use Rattle.hz_base_model.specs.Pairs.{Pair, same_pair, grid_eq}
pub use Rattle.hz_base_model.proofs.PairOrder.{grid_eq-Decides}
use Rattle.hz_grid.specs.declared.rows.TheConstants.{UNITS}
use Rattle.hz_grid.specs.Words.{fed_row}

-- a bit
abbrev pub bit_of : Bool → ℕ
bit_of true = 1
bit_of false = 0

-- the number whose bits below n are those of the test
abbrev pub number_of : (ℕ → Bool) → ℕ → ℕ
number_of test zero = 0
number_of test (suc n) = bit_of (test n) * 2 ^ n + number_of test n

-- whether the pair of that unit and cycle is in the list
abbrev pub has_pair : List (Pair ℕ) → ℕ → ℕ → Bool
has_pair pairs cycle unit = list_any (same_pair nat_eq (record { unit = unit; cycle = cycle })) pairs

-- the row of a cycle
unfoldable pub row_in : List (Pair ℕ) → ℕ → ℕ
row_in pairs cycle = number_of (has_pair pairs cycle) UNITS

-- one more than the greatest cycle
abbrev pub cycles_in : List (Pair ℕ) → ℕ
cycles_in [] = 0
cycles_in (p ∷ pairs) = max (p.cycle + 1) (cycles_in pairs)

-- the rows of a grid
unfoldable pub rows_in : List (Pair ℕ) → List ℕ
rows_in pairs = map (row_in pairs) (range_with_len 0 (cycles_in pairs))

-- what is fed for a grid: how many rows, and each of them
abbrev pub fed_for : List (Pair ℕ) → fed.HashWrites
fed_for pairs = fed.slice fed_row (rows_in pairs)

-- equal grids are fed alike
pub same_grids_are_fed_alike : fed.Alike grid_eq fed_for
same_grids_are_fed_alike = fed.same_Alike fed_for grid_eq-Decides
