use Rattle.std.specs.Prelude.{◌⊎◌, ◌↔◌, ℕ, ◌<◌, List, All, Contains}
use Rattle.std.specs.Cmp.Lexicographic.{lists_equiv}
use Rattle.std.specs.Cmp.{IsEquivalence, nat_eq_equiv, on_equiv, and_equiv}
use Rattle.std.specs.Ordering.{nat_cmp}
use Rattle.hz_base_model.specs.Pairs.{Pair, later, IsAscendingBy, grid_eq}
use Rattle.hz_grid.specs.declared.rows.TheConstants.{UNITS}
use Rattle.hz_grid.specs.declared.grid_of.TheConstants.{CYCLES}

-- the grid has the pair of that unit and cycle
abbrev pub Holds : List (Pair ℕ) → ℕ → ℕ → Type 0
Holds grid unit cycle = Contains grid (record { unit = unit; cycle = cycle })

-- a set of pairs as the one list in which each pair precedes all later ones, with units and cycles in their range
pub record IsGrid (grid : List (Pair ℕ)) : Type 0 where
  pub ascending : IsAscendingBy nat_cmp grid
  pub units : All (λ p. p.unit < UNITS) grid
  pub cycles : All (λ p. p.cycle < CYCLES) grid

-- the grid has these pairs of a unit and a cycle, and no others
abbrev pub HoldsJust : List (ℕ × ℕ) → List (Pair ℕ) → Type 0
HoldsJust pairs grid = (unit cycle : ℕ) → Holds grid unit cycle ↔ Contains pairs (unit, cycle)

-- some pair is in both grids
abbrev pub Meets : List (Pair ℕ) → List (Pair ℕ) → Type 0
Meets first second = (p : Pair ℕ) × Contains first p × Contains second p

-- the union has the pairs of both, and no others
abbrev pub IsUnion : List (Pair ℕ) → List (Pair ℕ) → List (Pair ℕ) → Type 0
IsUnion first second union = (p : Pair ℕ) → Contains union p ↔ (Contains first p ⊎ Contains second p)

-- the new grid has the pairs that stand one cycle later in the old one
abbrev pub IsAdvanced : List (Pair ℕ) → List (Pair ℕ) → Type 0
IsAdvanced old new = (p : Pair ℕ) → Contains new p ↔ Contains old (later 1 p)

-- `==` on grids is an equivalence
pub grid_eq-laws : IsEquivalence grid_eq
grid_eq-laws = lists_equiv (and_equiv (on_equiv (λ (p : Pair ℕ). p.unit) nat_eq_equiv) (on_equiv (λ (p : Pair ℕ). p.cycle) nat_eq_equiv))

-- The same two, reported as one fact of grids of two widths.
pub record Unites (first second union : List (Pair ℕ)) : Type 0 where
  pub pairs : IsUnion first second union

pub record Advances (old new : List (Pair ℕ)) : Type 0 where
  pub pairs : IsAdvanced old new
