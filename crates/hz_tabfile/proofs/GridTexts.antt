-- The pairs of a grid, cycle by cycle.
use Rattle.std.proofs.Common.{◌≡◌, ℕ, zero, suc, ◌+◌, ◌<◌, ◌≤◌, Bool, true, false, ◌==◌, inl, ⊎_elim, ◌↔◌, List, [], ◌∷◌, ◌++◌, length, map, filter, Contains, All, if◌then◌else◌, refl, sym, ap, subst, ◌∙◌, arith, IsTrue}
use Rattle.std.specs.Prelude.{slice_index_or}
use Rattle.std.specs.List.{flat_map, range_with_len}
use Rattle.std.proofs.lemmas.Bool.{eqb-true, eq-eqb}
use Rattle.std.proofs.lemmas.List.{append_assoc}
use Rattle.std.proofs.lemmas.List.Kept.{AllPairs-filter}
use Rattle.std.proofs.lemmas.List.Elements.{Contains-append_left, Contains-append_right, Contains-append_cases, All-contains}
use Rattle.hz_base_model.specs.Pairs.{Pair, precedes_by, IsAscendingBy}
use Rattle.hz_base_model.proofs.Elements.{Contains-nil, Contains-filter, Contains-from_filter, Contains-map, Contains-from_map, Contains-range}
use Rattle.hz_base_model.proofs.Ascending.{AllPairs-append, AllPairs-map, AllPairs-range, same_from_ascending}
use Rattle.hz_grid.specs.Rows.{has_unit, HasUnit}
use Rattle.hz_grid.specs.Grids.{Holds, IsGrid}
use Rattle.hz_tabtext_model.specs.Texts.{pair_field}
use Rattle.hz_tabfile.specs.Spaced.{spaced, unit_text, pairs_text}
use Rattle.hz_base_model.proofs.PairOrder.{Precedes_asymmetric, precedes_from, lower_unit, grid_one}
use Rattle.std.specs.Ordering.{nat_cmp}
use Rattle.std.specs.FinMap.{nat_cmp-IsAntisymmetric}
use Rattle.std.proofs.lemmas.Cmp.{nat_cmp_total}

-- the pairs of one cycle
abbrev pub in_cycle : List (Pair ℕ) → ℕ → List (Pair ℕ)
in_cycle grid cycle = filter (λ p. p.cycle == cycle) grid

abbrev at_cycle : ℕ → ℕ → Pair ℕ
at_cycle cycle unit = record { unit = unit; cycle = cycle }

from_cycle : (grid : List (Pair ℕ)) (cycle : ℕ) (p : Pair ℕ) → Contains (in_cycle grid cycle) p → Contains grid p × (p.cycle ≡ cycle)
from_cycle grid cycle p h =
    let both = Contains-from_filter (λ (q : Pair ℕ). q.cycle == cycle) p grid h in
    (both.0, eqb-true p.cycle cycle both.1)

to_cycle : (grid : List (Pair ℕ)) (cycle : ℕ) (p : Pair ℕ) → Contains grid p → p.cycle ≡ cycle → Contains (in_cycle grid cycle) p
to_cycle grid cycle p there is = Contains-filter (λ (q : Pair ℕ). q.cycle == cycle) p (eq-eqb p.cycle cycle is) grid there

-- the pairs of so many cycles from one on
abbrev by_cycles : List (Pair ℕ) → ℕ → ℕ → List (Pair ℕ)
by_cycles grid start n = flat_map (in_cycle grid) (range_with_len start n)

from_cycles : (grid : List (Pair ℕ)) (start n : ℕ) (p : Pair ℕ) → Contains (by_cycles grid start n) p → Contains grid p × (start ≤ p.cycle)
from_cycles grid start zero p h = absurd (Contains-nil p h)
from_cycles grid start (suc n) p h =
    ⊎_elim
    (λ (k : Contains (in_cycle grid start) p). let both = from_cycle grid start p k in (both.0, omega (arith, both.1)))
    (λ (k : Contains (by_cycles grid (start + 1) n) p). let both = from_cycles grid (start + 1) n p k in (both.0, omega (arith, both.1)))
    (Contains-append_cases (in_cycle grid start) (by_cycles grid (start + 1) n) p h)

to_cycles : (grid : List (Pair ℕ)) (start n : ℕ) (p : Pair ℕ) → Contains grid p → (k : ℕ) → p.cycle ≡ start + k → k < n → Contains (by_cycles grid start n) p
to_cycles grid start zero p there k is low = absurd (omega (arith, low))
to_cycles grid start (suc n) p there zero is low = Contains-append_left (in_cycle grid start) (by_cycles grid (start + 1) n) p (to_cycle grid start p there (omega (arith, is)))
to_cycles grid start (suc n) p there (suc k) is low = Contains-append_right (in_cycle grid start) (by_cycles grid (start + 1) n) p (to_cycles grid (start + 1) n p there k (omega (arith, is)) (omega (arith, low)))

abbrev Precedes : Pair ℕ → Pair ℕ → Type 0
Precedes p q = IsTrue (precedes_by nat_cmp p q)

ascends : (grid : List (Pair ℕ)) → IsAscendingBy nat_cmp grid → (start n : ℕ) → IsAscendingBy nat_cmp (by_cycles grid start n)
ascends grid is start zero = λ i j d lt within. absurd (omega arith)
ascends grid is start (suc n) =
    AllPairs-append Precedes (in_cycle grid start) (by_cycles grid (start + 1) n)
    (AllPairs-filter Precedes (λ (p : Pair ℕ). p.cycle == start) grid is)
    (ascends grid is (start + 1) n)
    (λ p q m k.
    let first = from_cycle grid start p m in
    let second = from_cycles grid (start + 1) n q k in
    precedes_from p q (inl (omega (arith, first.1, second.1))))

-- a grid is its cycles, one after the other
pub cycle_by_cycle : (grid : List (Pair ℕ)) → IsGrid grid → (n : ℕ) → ((unit cycle : ℕ) → Holds grid unit cycle → cycle < n) → by_cycles grid 0 n ≡ grid
cycle_by_cycle grid is n below =
    grid_one (by_cycles grid 0 n) grid (ascends grid is.ascending 0 n) is.ascending
    (λ p. (λ h. (from_cycles grid 0 n p h).0, λ h. to_cycles grid 0 n p h p.cycle (omega arith) (below p.unit p.cycle h)))

-- the units of a row, below a number
abbrev row_units : ℕ → ℕ → List ℕ
row_units row n = filter (has_unit row) (range_with_len 0 n)

-- the pairs of a cycle are those of the units of its row
cycle_is_row : (grid : List (Pair ℕ)) → IsGrid grid → (cycle row n : ℕ) → ((unit : ℕ) → HasUnit row unit ↔ Holds grid unit cycle) → ((p : Pair ℕ) → Contains grid p → p.unit < n) → in_cycle grid cycle ≡ map (at_cycle cycle) (row_units row n)
cycle_is_row grid is cycle row n same below =
    same_from_ascending Precedes (Precedes_asymmetric nat_cmp nat_cmp_total nat_cmp-IsAntisymmetric) (in_cycle grid cycle) (map (at_cycle cycle) (row_units row n))
    (AllPairs-filter Precedes (λ (p : Pair ℕ). p.cycle == cycle) grid is.ascending)
    (AllPairs-map (λ a b. a < b) Precedes (at_cycle cycle) (λ a b lt. lower_unit (at_cycle cycle a) (at_cycle cycle b) refl lt) 0 (row_units row n) (AllPairs-filter (λ a b. a < b) (has_unit row) (range_with_len 0 n) (AllPairs-range n)))
    (λ p h.
    let both = from_cycle grid cycle p h in
    let there : Holds grid p.unit cycle = subst (λ (c : ℕ). Holds grid p.unit c) both.1 both.0 in
    let unit : Contains (row_units row n) p.unit = Contains-filter (has_unit row) p.unit ((same p.unit).1 there) (range_with_len 0 n) (Contains-range n p.unit (below p both.0)) in
    subst (λ (c : ℕ). Contains (map (at_cycle cycle) (row_units row n)) (at_cycle c p.unit)) (sym both.1) (Contains-map (at_cycle cycle) (row_units row n) p.unit unit))
    (λ p h.
    let found = Contains-from_map (at_cycle cycle) (row_units row n) p h in
    let unit = Contains-from_filter (has_unit row) found.0 (range_with_len 0 n) found.1 in
    let there : Holds grid found.0 cycle = (same found.0).0 unit.1 in
    to_cycle grid cycle p (subst (λ (q : Pair ℕ). Contains grid q) found.2 there) (sym (ap (λ (q : Pair ℕ). q.cycle) found.2)))

kept_text : {X Y : Type 0} (test : X → Bool) (make : X → Y) (text : Y → List ℕ) (x : X) (xs : List X) (b : Bool) → test x ≡ b → flat_map text (map make (filter test xs)) ≡ flat_map (λ y. if test y then text (make y) else []) xs → flat_map text (map make (filter test (x ∷ xs))) ≡ (if test x then text (make x) else []) ++ flat_map (λ y. if test y then text (make y) else []) xs
kept_text test make text x xs true e rest = rw e (ap (λ (bytes : List ℕ). text (make x) ++ bytes) rest)
kept_text test make text x xs false e rest = rw e rest

-- what is written of units by a test, item by item
kept_texts : {X Y : Type 0} (test : X → Bool) (make : X → Y) (text : Y → List ℕ) (xs : List X) → flat_map text (map make (filter test xs)) ≡ flat_map (λ x. if test x then text (make x) else []) xs
kept_texts test make text [] = refl
kept_texts test make text (x ∷ xs) = kept_text test make text x xs (test x) refl (kept_texts test make text xs)

-- the text of the pairs of a cycle, unit by unit
pub cycle_texts : (units : List (List ℕ)) (grid : List (Pair ℕ)) → IsGrid grid → (cycle row : ℕ) → ((unit : ℕ) → HasUnit row unit ↔ Holds grid unit cycle) → All (λ p. p.unit < length units) grid → flat_map (unit_text units cycle row) (range_with_len 0 (length units)) ≡ pairs_text units (in_cycle grid cycle)
cycle_texts units grid is cycle row same below =
    let text : Pair ℕ → List ℕ = λ p. spaced (pair_field (p.cycle, slice_index_or units p.unit [])) in
    sym (kept_texts (has_unit row) (at_cycle cycle) text (range_with_len 0 (length units)))
    ∙ (ap (flat_map text) (sym (cycle_is_row grid is cycle row (length units) same (λ p there. All-contains (λ (q : Pair ℕ). q.unit < length units) grid p below there)))
    ∙ texts (in_cycle grid cycle))
  where
    texts : (pairs : List (Pair ℕ)) → flat_map (λ p. spaced (pair_field (p.cycle, slice_index_or units p.unit []))) pairs ≡ pairs_text units pairs
    texts [] = refl
    texts (p ∷ ps) = ap (λ (bytes : List ℕ). spaced (pair_field (p.cycle, slice_index_or units p.unit [])) ++ bytes) (texts ps)

pairs_text-append : (units : List (List ℕ)) (xs ys : List (Pair ℕ)) → pairs_text units (xs ++ ys) ≡ pairs_text units xs ++ pairs_text units ys
pairs_text-append units [] ys = refl
pairs_text-append units (x ∷ xs) ys = ap (λ (bytes : List ℕ). spaced (pair_field (x.cycle, slice_index_or units x.unit [])) ++ bytes) (pairs_text-append units xs ys) ∙ sym (append_assoc (spaced (pair_field (x.cycle, slice_index_or units x.unit []))) (pairs_text units xs) (pairs_text units ys))

-- the text of a grid, cycle by cycle
pub grid_texts : (units : List (List ℕ)) (grid : List (Pair ℕ)) (cycles : List ℕ) → flat_map (λ cycle. pairs_text units (in_cycle grid cycle)) cycles ≡ pairs_text units (flat_map (in_cycle grid) cycles)
grid_texts units grid [] = refl
grid_texts units grid (cycle ∷ cycles) = ap (λ (bytes : List ℕ). pairs_text units (in_cycle grid cycle) ++ bytes) (grid_texts units grid cycles) ∙ sym (pairs_text-append units (in_cycle grid cycle) (flat_map (in_cycle grid) cycles))
