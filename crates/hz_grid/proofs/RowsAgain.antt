-- The rows of a grid, found again from its pairs.
use Rattle.std.proofs.Common.{◌≡◌, ℕ, ◌+◌, ◌-◌, ◌*◌, ◌^◌, ◌<◌, ◌≤◌, zero, suc, ⊎_elim, ◌↔◌, IsTrue, Bool, true, false, List, [], ◌∷◌, length, map, get_or, Contains, refl, sym, ap, ◌∙◌, arith, nat_eq}
use Rattle.std.specs.Int.{bit_at}
use Rattle.std.specs.List.{range_with_len}
use Rattle.std.proofs.lemmas.Bool.{cases_lt, cases_eq}
use Rattle.std.proofs.lemmas.List.{ext_get_or, length-map, get_or-map}
use Rattle.std.proofs.lemmas.List.FromFn.{length-range_with_len, get_or-range_with_len}
use Rattle.std.proofs.lemmas.Map.Views.{Contains-from_any, list_any-from_Contains}
use Rattle.std.proofs.lemmas.Nat.Bits.{bit_at_cat_low, bit_at_cat_high, bit_at_above, bit_at_lowest}
use Rattle.std.specs.Cmp.{IsEquivalence, nat_eq_equiv, on_equiv, and_equiv}
use Rattle.hz_base_model.specs.Pairs.{Pair, same_pair}
use Rattle.hz_base_model.proofs.Elements.{Contains-nil, Contains-head, Contains-tail, Contains-cons_cases}
use Rattle.hz_grid.specs.Rows.{HasUnit}
use Rattle.hz_grid.specs.Grids.{Holds}
use Rattle.hz_grid.specs.Stored.{pairs_from, IsRows}
use Rattle.hz_grid.specs.Hashes.{bit_of, number_of, has_pair, row_in, cycles_in, rows_in}
use Rattle.hz_grid.proofs.Units.{HasUnit-from_bit, bit_from_HasUnit, same_from_units}
use Rattle.hz_grid.proofs.Pairs.{Holds-rows, row_below, set_from_pairs}
use Rattle.hz_base_model.proofs.PairOrder.{same_pair-Decides}

-- ---- a number by its bits

number_of-lt : (test : ℕ → Bool) (n : ℕ) → number_of test n < 2 ^ n
number_of-lt test zero = omega arith
number_of-lt test (suc n) = below (test n) (number_of-lt test n)
  where
    below : (b : Bool) → number_of test n < 2 ^ n → bit_of b * 2 ^ n + number_of test n < 2 ^ suc n
    below true h = omega arith
    below false h = omega arith

bit-number_of : (test : ℕ → Bool) (n unit : ℕ) → unit < n → bit_at (number_of test n) unit ≡ bit_of (test unit)
bit-number_of test zero unit lt = absurd (omega arith)
bit-number_of test (suc n) unit lt =
    ⊎_elim
    (λ (same : unit ≡ n). rw same (
    let high = bit_at_cat_high (bit_of (test n)) n (number_of test n) n (number_of-lt test n) (omega arith) in
    let zeroth : n - n ≡ 0 = omega arith in
    high ∙ ap (bit_at (bit_of (test n))) zeroth ∙ lowest (test n)))
    (λ (other : unit ≡ n → ⊥).
    let low : unit < n = omega arith in
    bit_at_cat_low (bit_of (test n)) n (number_of test n) unit low ∙ bit-number_of test n unit low)
    (cases_eq unit n)
  where
    lowest : (b : Bool) → bit_at (bit_of b) 0 ≡ bit_of b
    lowest true = bit_at_lowest 1
    lowest false = bit_at_lowest 0

HasUnit-number_of : (test : ℕ → Bool) (n unit : ℕ) → HasUnit (number_of test n) unit ↔ ((unit < n) × IsTrue (test unit))
HasUnit-number_of test n unit = (
  λ h. ⊎_elim
      (λ (lt : unit < n). (lt, reported (test unit) (sym (bit-number_of test n unit lt) ∙ bit_from_HasUnit _ unit h)))
      (λ (past : n ≤ unit). absurd (omega (arith, bit_at_above (number_of test n) n unit (number_of-lt test n) past, bit_from_HasUnit _ unit h)))
      (cases_lt unit n),
  λ h. HasUnit-from_bit _ unit (bit-number_of test n unit h.0 ∙ one (test unit) h.1),
)
  where
    reported : (b : Bool) → bit_of b ≡ 1 → IsTrue b
    reported true e = refl
    reported false e = absurd (omega arith)

    one : (b : Bool) → IsTrue b → bit_of b ≡ 1
    one true t = refl
    one false t = cc

-- ---- the rows

pair_equivalence : IsEquivalence (same_pair nat_eq)
pair_equivalence = and_equiv (on_equiv (λ (p : Pair ℕ). p.unit) nat_eq_equiv) (on_equiv (λ (p : Pair ℕ). p.cycle) nat_eq_equiv)

pub has_pair-Holds : (pairs : List (Pair ℕ)) (cycle unit : ℕ) → IsTrue (has_pair pairs cycle unit) ↔ Holds pairs unit cycle
has_pair-Holds pairs cycle unit = (
  λ t. Contains-from_any (λ p q e. (same_pair-Decides p q).0 e) (record { unit = unit; cycle = cycle }) pairs t,
  λ h. list_any-from_Contains pair_equivalence (record { unit = unit; cycle = cycle }) pairs h,
)

row_in-pairs_from : (rows : List ℕ) → IsRows rows → (cycle : ℕ) → row_in (pairs_from 0 rows) cycle ≡ get_or rows cycle 0
unfolding row_in
row_in-pairs_from rows is cycle = same_from_units _ _ (λ unit.
    let bits = HasUnit-number_of (has_pair (pairs_from 0 rows) cycle) 256 unit in
    let held = has_pair-Holds (pairs_from 0 rows) cycle unit in
    let set = Holds-rows rows is unit cycle in
    (λ h. set.0 (held.0 (bits.0 h).1), λ h. bits.1 (is.units unit cycle h, held.1 (set.1 h))))

-- ---- how many rows

cycle_below : (pairs : List (Pair ℕ)) (p : Pair ℕ) → Contains pairs p → p.cycle < cycles_in pairs
cycle_below [] p h = absurd (Contains-nil p h)
cycle_below (q ∷ pairs) p h =
    ⊎_elim
    (λ (e : q ≡ p). let same : q.cycle ≡ p.cycle = ap (λ (r : Pair ℕ). r.cycle) e in omega arith)
    (λ (m : Contains pairs p). let below = cycle_below pairs p m in omega arith)
    (Contains-cons_cases q p pairs h)

cycles_within : (n : ℕ) (pairs : List (Pair ℕ)) → ((p : Pair ℕ) → Contains pairs p → p.cycle < n) → cycles_in pairs ≤ n
cycles_within n [] h = omega arith
cycles_within n (q ∷ pairs) h =
    let first = h q (Contains-head q pairs) in
    let rest = cycles_within n pairs (λ p m. h p (Contains-tail q p pairs m)) in
    omega arith

cycles_in-pairs_from : (rows : List ℕ) → IsRows rows → cycles_in (pairs_from 0 rows) ≡ length rows
cycles_in-pairs_from rows is =
    let most = cycles_within (length rows) (pairs_from 0 rows) (λ p m.
    let found = set_from_pairs 0 rows p m in
    let below = row_below rows p.unit found.0 found.3 in
    omega (arith, found.1)) in
    ⊎_elim
    (λ (lt : cycles_in (pairs_from 0 rows) < length rows). absurd (is.trimmed (omega arith) (λ unit set.
    let below = cycle_below (pairs_from 0 rows) (record { unit = unit; cycle = length rows - 1 }) ((Holds-rows rows is unit (length rows - 1)).1 set) in
    omega (arith, below))))
    (λ (le : length rows ≤ cycles_in (pairs_from 0 rows)). omega arith)
    (cases_lt (cycles_in (pairs_from 0 rows)) (length rows))

pub rows_in-pairs_from : (rows : List ℕ) → IsRows rows → rows_in (pairs_from 0 rows) ≡ rows
unfolding rows_in
rows_in-pairs_from rows is =
    let count = cycles_in-pairs_from rows is in
    let ranged = length-range_with_len 0 (cycles_in (pairs_from 0 rows)) in
    let long = length-map (range_with_len 0 (cycles_in (pairs_from 0 rows))) (row_in (pairs_from 0 rows)) in
    ext_get_or 0 (map (row_in (pairs_from 0 rows)) (range_with_len 0 (cycles_in (pairs_from 0 rows)))) rows (omega arith) (λ cycle lt.
    let from_zero : 0 + cycle ≡ cycle = omega arith in
    get_or-map (row_in (pairs_from 0 rows)) (range_with_len 0 (cycles_in (pairs_from 0 rows))) cycle 0 0 (omega arith)
    ∙ ap (row_in (pairs_from 0 rows)) (get_or-range_with_len 0 (cycles_in (pairs_from 0 rows)) cycle 0 (omega arith) ∙ from_zero)
    ∙ row_in-pairs_from rows is cycle)
