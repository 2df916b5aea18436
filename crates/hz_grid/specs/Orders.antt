-- The order of grids: that of their ascending lists of pairs.
use Rattle.std.specs.Prelude.{◌≡◌, ◌⊎◌, ℕ, ◌<◌, ◌==◌, ◌&&◌, Bool, true, false, nat_eq, List, slice_index, refl}
use Rattle.std.proofs.Common.{◌∙◌}
use Rattle.std.specs.Ordering.{nat_cmp, as_partial_cmp, eq_by_cmp}
use Rattle.std.specs.Cmp.{IsPartialOrder, po, both_tied, unsigned_ties}
use Rattle.std.specs.Cmp.Lexicographic.{lists_ties}
use Rattle.hz_base_model.specs.Pairs.{Pair, pair_cmp, same_pair, grid_eq, grid_cmp}
pub use Rattle.hz_base_model.proofs.PairOrder.{grid_total}
use Rattle.hz_grid.specs.Rows.{DifferAt}
use Rattle.hz_grid.specs.Stored.{IsSet}

-- equal grids are those that no order tells apart
pub grid_eq-cmp : (first second : List (Pair ℕ)) → grid_eq first second ≡ eq_by_cmp grid_cmp first second
grid_eq-cmp = lists_ties (pair_cmp nat_cmp) pair_ties
  where
    swapped : (a b : Bool) → (a && b) ≡ (b && a)
    swapped true true = refl
    swapped true false = refl
    swapped false true = refl
    swapped false false = refl

    pair_ties : (p q : Pair ℕ) → same_pair nat_eq p q ≡ eq_by_cmp (pair_cmp nat_cmp) p q
    pair_ties p q = swapped (p.unit == q.unit) (p.cycle == q.cycle) ∙ both_tied _ _ (nat_cmp p.cycle q.cycle) (nat_cmp p.unit q.unit) (unsigned_ties p.cycle q.cycle) (unsigned_ties p.unit q.unit)

pub grid_cmp-partial : IsPartialOrder grid_eq (as_partial_cmp grid_cmp)
grid_cmp-partial = po grid_total grid_eq-cmp

-- the rows have a pair after that of this unit and cycle
abbrev pub HasLater : List ℕ → ℕ → ℕ → Type 0
HasLater rows cycle unit = (other : ℕ) × (later : ℕ) × IsSet rows other later × ((cycle < later) ⊎ ((cycle ≡ later) × (unit < other)))

-- The pair of this unit and cycle is in one of the two alone, and of the pairs before it each is in both or in neither.
pub record DifferFirst (first second : List ℕ) (cycle unit : ℕ) : Type 0 where
  pub differ : DifferAt (slice_index first cycle) (slice_index second cycle) unit
  pub earlier : (other : ℕ) → other < cycle → slice_index first other ≡ slice_index second other
