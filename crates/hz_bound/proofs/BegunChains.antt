-- The front of a chain.
use Rattle.std.specs.Prelude.{ℕ, List, ◌++◌}
use Rattle.hz_depend.specs.declared.parts.Edge.{Edge}
use Rattle.hz_bound.specs.Rows.{Follows, IsChainOf}

-- A chain up to a place: whatever goes on from there makes it a chain.
pub record IsBegun (rows : ℕ → List Edge) (tails : List ℕ) (place : ℕ) (chain : List ℕ) : Type 0 where
  pub goes : (rest : List ℕ) → Follows rows tails place rest → IsChainOf rows tails (chain ++ rest)
