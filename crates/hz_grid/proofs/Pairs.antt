-- The pairs of rows.
use Rattle.std.proofs.Common.{◌≡◌, ℕ, ◌+◌, ◌-◌, ◌<◌, ◌≤◌, zero, suc, inl, ⊎_elim, ◌↔◌, IsTrue, Bool, List, [], ◌∷◌, length, get_or, Contains, refl, sym, ap, arith}
use Rattle.std.specs.List.{range_with_len, AllPairs}
use Rattle.std.proofs.lemmas.Bool.{cases_lt}
use Rattle.std.proofs.lemmas.Bool.Decides.{same_from_decides}
use Rattle.std.proofs.lemmas.List.{get_or_past, ext_get_or}
use Rattle.std.proofs.lemmas.List.Elements.{Contains-append_left, Contains-append_right, Contains-append_cases, Contains-get_or}
use Rattle.std.proofs.lemmas.List.Kept.{AllPairs-filter}
use Rattle.hz_base_model.specs.Pairs.{Pair, precedes_by, IsAscendingBy, grid_eq, SamePairs}
use Rattle.hz_grid.specs.Rows.{has_unit, HasUnit}
use Rattle.hz_grid.specs.Grids.{Holds, IsGrid}
use Rattle.hz_grid.specs.Hashes.{grid_eq-Decides}
use Rattle.hz_grid.specs.Stored.{IsSet, units_of, row_pairs, pairs_from, IsRows}
use Rattle.hz_grid.proofs.Units.{HasUnit-zero, same_from_units}
use Rattle.hz_base_model.proofs.Elements.{Contains-nil, Contains-filter, Contains-from_filter, Contains-map, Contains-from_map, Contains-range, Contains-from_range}
use Rattle.hz_base_model.proofs.Ascending.{AllPairs-append, AllPairs-map, AllPairs-range}
use Rattle.hz_base_model.proofs.PairOrder.{lower_unit, precedes_from, grid_one}
use Rattle.std.specs.Ordering.{nat_cmp}

-- ---- the units of one row

Contains-units_of : (row unit : ℕ) → unit < 256 → HasUnit row unit → Contains (units_of row) unit
unfolding units_of
Contains-units_of row unit small h = Contains-filter (has_unit row) unit h (range_with_len 0 256) (Contains-range 256 unit small)

unit_from_units_of : (row unit : ℕ) → Contains (units_of row) unit → (unit < 256) × HasUnit row unit
unfolding units_of
unit_from_units_of row unit h =
    let both = Contains-from_filter (has_unit row) unit (range_with_len 0 256) h in
    (Contains-from_range 256 unit both.0, both.1)

AllPairs-units_of : (row : ℕ) → AllPairs (λ a b. a < b) (units_of row)
unfolding units_of
AllPairs-units_of row = AllPairs-filter (λ a b. a < b) (has_unit row) (range_with_len 0 256) (AllPairs-range 256)

-- ---- the pairs of one row

abbrev in_cycle : ℕ → ℕ → Pair ℕ
in_cycle cycle unit = record { unit = unit; cycle = cycle }

pair_from_row : (cycle row : ℕ) (p : Pair ℕ) → Contains (row_pairs cycle row) p → (p.cycle ≡ cycle) × (p.unit < 256) × HasUnit row p.unit
pair_from_row cycle row p h =
    let found = Contains-from_map (in_cycle cycle) (units_of row) p h in
    let unit = unit_from_units_of row found.0 found.1 in
    let same : found.0 ≡ p.unit = ap (λ (q : Pair ℕ). q.unit) found.2 in
    (sym (ap (λ (q : Pair ℕ). q.cycle) found.2), rw (← same) unit.0, rw (← same) unit.1)

-- ---- the pairs of rows

pub Holds-pairs_from : (start : ℕ) (rows : List ℕ) (unit cycle : ℕ) → unit < 256 → IsSet rows unit cycle → Holds (pairs_from start rows) unit (start + cycle)
Holds-pairs_from start [] unit cycle small h = absurd (HasUnit-zero unit h)
Holds-pairs_from start (row ∷ rows) unit zero small h =
    let e : start + 0 ≡ start = omega arith in
    rw e (Contains-append_left (row_pairs start row) (pairs_from (start + 1) rows) _ (Contains-map (in_cycle start) (units_of row) unit (Contains-units_of row unit small h)))
Holds-pairs_from start (row ∷ rows) unit (suc cycle) small h =
    let e : start + suc cycle ≡ (start + 1) + cycle = omega arith in
    rw e (Contains-append_right (row_pairs start row) (pairs_from (start + 1) rows) _ (Holds-pairs_from (start + 1) rows unit cycle small h))

pub set_from_pairs : (start : ℕ) (rows : List ℕ) (p : Pair ℕ) → Contains (pairs_from start rows) p → (cycle : ℕ) × (p.cycle ≡ start + cycle) × (p.unit < 256) × IsSet rows p.unit cycle
set_from_pairs start [] p h = absurd (Contains-nil p h)
set_from_pairs start (row ∷ rows) p h =
    ⊎_elim
    (λ (k : Contains (row_pairs start row) p).
    let pair = pair_from_row start row p k in
    (0, omega (arith, pair.0), pair.1, pair.2))
    (λ (k : Contains (pairs_from (start + 1) rows) p).
    let pair = set_from_pairs (start + 1) rows p k in
    (suc pair.0, omega (arith, pair.1), pair.2, pair.3))
    (Contains-append_cases (row_pairs start row) (pairs_from (start + 1) rows) p h)

-- a grid has a pair where the unit is in the row of the cycle
pub Holds-rows : (rows : List ℕ) → IsRows rows → (unit cycle : ℕ) → Holds (pairs_from 0 rows) unit cycle ↔ IsSet rows unit cycle
Holds-rows rows is unit cycle = (
  λ h.
      let pair = set_from_pairs 0 rows (in_cycle cycle unit) h in
      let e : cycle ≡ pair.0 = omega (arith, pair.1) in
      rw e pair.3,
  λ h.
      let e : 0 + cycle ≡ cycle = omega arith in
      rw e at (Holds-pairs_from 0 rows unit cycle (is.units unit cycle h) h),
)

abbrev Precedes : Pair ℕ → Pair ℕ → Type 0
Precedes p q = IsTrue (precedes_by nat_cmp p q)

AllPairs-pairs_from : (start : ℕ) (rows : List ℕ) → IsAscendingBy nat_cmp (pairs_from start rows)
AllPairs-pairs_from start [] = λ i j d lt within. absurd (omega arith)
AllPairs-pairs_from start (row ∷ rows) =
    AllPairs-append Precedes (row_pairs start row) (pairs_from (start + 1) rows)
    (AllPairs-map (λ a b. a < b) Precedes (in_cycle start) (λ a b lt. lower_unit (in_cycle start a) (in_cycle start b) refl lt) 0 (units_of row) (AllPairs-units_of row))
    (AllPairs-pairs_from (start + 1) rows)
    (λ p q m n.
    let first = pair_from_row start row p m in
    let second = set_from_pairs (start + 1) rows q n in
    precedes_from p q (inl (omega (arith, first.0, second.1))))

-- a unit stands below the last row
pub row_below : (rows : List ℕ) (unit cycle : ℕ) → IsSet rows unit cycle → cycle < length rows
row_below rows unit cycle h =
    ⊎_elim
    (λ (lt : cycle < length rows). lt)
    (λ (past : length rows ≤ cycle). absurd (HasUnit-zero unit (rw (get_or_past rows cycle 0 past) at h)))
    (cases_lt cycle (length rows))

pub IsGrid-pairs_from : (rows : List ℕ) → IsRows rows → IsGrid (pairs_from 0 rows)
IsGrid-pairs_from rows is = record {
  ascending = AllPairs-pairs_from 0 rows;
  units = λ k d within.
      let pair = set_from_pairs 0 rows (get_or (pairs_from 0 rows) k d) (Contains-get_or (pairs_from 0 rows) k d within) in
      pair.2;
  cycles = λ k d within.
      let pair = set_from_pairs 0 rows (get_or (pairs_from 0 rows) k d) (Contains-get_or (pairs_from 0 rows) k d within) in
      omega (arith, pair.1, row_below rows _ pair.0 pair.3, is.cycles);
}

-- ---- equal grids

-- grids with the same pairs are equal
pub same_grids : (first second : List (Pair ℕ)) → IsGrid first → IsGrid second → SamePairs first second → first ≡ second
same_grids first second a b same =
    grid_one first second a.ascending b.ascending same

-- rows with the same units are equal
no_longer : (a b : List ℕ) → IsRows b → ((unit cycle : ℕ) → IsSet b unit cycle → IsSet a unit cycle) → length b ≤ length a
no_longer a b is into =
    ⊎_elim
    (λ (lt : length a < length b). absurd (is.trimmed (omega arith) (λ unit h.
    let within = row_below a unit (length b - 1) (into unit (length b - 1) h) in
    omega arith)))
    (λ (le : length b ≤ length a). le)
    (cases_lt (length a) (length b))

pub same_rows : (a b : List ℕ) → IsRows a → IsRows b → ((unit cycle : ℕ) → IsSet a unit cycle ↔ IsSet b unit cycle) → a ≡ b
same_rows a b is_a is_b same =
    let below = no_longer a b is_b (λ unit cycle. (same unit cycle).1) in
    let above = no_longer b a is_a (λ unit cycle. (same unit cycle).0) in
    ext_get_or 0 a b (omega arith) (λ cycle _. same_from_units (get_or a cycle 0) (get_or b cycle 0) (λ unit. same unit cycle))

pub rows_from_pairs : (a b : List ℕ) → IsRows a → IsRows b → pairs_from 0 a ≡ pairs_from 0 b → a ≡ b
rows_from_pairs a b is_a is_b e =
    same_rows a b is_a is_b (λ unit cycle. (
      λ h. (Holds-rows b is_b unit cycle).0 (rw e at ((Holds-rows a is_a unit cycle).1 h)),
      λ h. (Holds-rows a is_a unit cycle).0 (rw (← e) at ((Holds-rows b is_b unit cycle).1 h)),
    ))

-- grids are equal where their rows are
pub same_from_rows : (a b : List ℕ) → IsRows a → IsRows b → (r : Bool) → IsTrue r ↔ (a ≡ b) → IsTrue r ↔ (pairs_from 0 a ≡ pairs_from 0 b)
same_from_rows a b is_a is_b r rows =
    (λ t. ap (pairs_from 0) (rows.0 t), λ same. rows.1 (rows_from_pairs a b is_a is_b same))

pub grid_eq-rows : (a b : List ℕ) → IsRows a → IsRows b → (r : Bool) → IsTrue r ↔ (a ≡ b) → r ≡ grid_eq (pairs_from 0 a) (pairs_from 0 b)
grid_eq-rows a b is_a is_b r e =
    same_from_decides r _ (same_from_rows a b is_a is_b r e) (grid_eq-Decides (pairs_from 0 a) (pairs_from 0 b))

pub sets_from_rows : (a b : List ℕ) → IsRows a → IsRows b → (r : Bool) → IsTrue r ↔ (a ≡ b) → IsTrue r ↔ SamePairs (pairs_from 0 a) (pairs_from 0 b)
sets_from_rows a b is_a is_b r e =
    let equal = same_from_rows a b is_a is_b r e in (
      λ t p. let same = equal.0 t in (λ h. rw same at h, λ h. rw same h),
      λ same. equal.1 (same_grids (pairs_from 0 a) (pairs_from 0 b) (IsGrid-pairs_from a is_a) (IsGrid-pairs_from b is_b) same),
    )
