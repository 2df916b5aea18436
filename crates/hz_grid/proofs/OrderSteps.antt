-- The order of grids, by the first unit in which their rows differ.
use Rattle.std.proofs.Common.{◌≡◌, ◌≢◌, ℕ, ◌+◌, ◌<◌, ◌≤◌, inl, inr, ⊎_elim, IsTrue, Bool, true, false, max, List, length, get_or, Contains, refl, sym, ap, ◌∙◌, subst, arith, ◌⊎◌}
use Rattle.std.specs.declared.cmp.Ordering.{Ordering}
use Rattle.std.specs.declared.cmp.Ordering.TheVariants.{Less, Equal, Greater}
use Rattle.std.specs.Ordering.{nat_cmp, is_lt}
use Rattle.std.specs.Cmp.{IsTotalOrder}
use Rattle.std.proofs.lemmas.Cmp.{tied_itself, nat_cmp_total}
use Rattle.std.proofs.lemmas.Bool.{cases_lt}
use Rattle.std.proofs.lemmas.List.{get_or_past}
use Rattle.std.specs.List.{AllPairs}
use Rattle.hz_base_model.specs.Pairs.{Pair, pair_cmp, grid_cmp}
use Rattle.hz_grid.specs.Rows.{has_unit, HasUnit, HasAbove}
use Rattle.hz_grid.specs.Stored.{IsSet, pairs_from, IsRows}
use Rattle.hz_grid.specs.Orders.{HasLater, DifferFirst}
use Rattle.hz_grid.proofs.Units.{HasUnit-zero, same_from_units}
use Rattle.hz_grid.proofs.Pairs.{Holds-rows, IsGrid-pairs_from, row_below, same_rows}
use Rattle.hz_grid.proofs.Ordered as ordered
use Rattle.hz_base_model.proofs.PairOrder.{is_less, pair_total, pair_exact, precedes_parts, precedes_from, grid_total}
use Rattle.std.specs.FinMap.{IsAntisymmetric, nat_cmp-IsAntisymmetric}

-- ---- pairs

abbrev before_pair : Pair ℕ → Pair ℕ → Ordering
before_pair = pair_cmp nat_cmp

pub before_total : IsTotalOrder before_pair
before_total = pair_total nat_cmp nat_cmp_total nat_cmp-IsAntisymmetric

pub before_exact : IsAntisymmetric before_pair
before_exact = pair_exact nat_cmp nat_cmp_total nat_cmp-IsAntisymmetric

-- an earlier cycle, or a lower unit of the same cycle
abbrev Precedes : Pair ℕ → Pair ℕ → Type 0
Precedes p q = (p.cycle < q.cycle) ⊎ ((p.cycle ≡ q.cycle) × (p.unit < q.unit))

less_precedes : (p q : Pair ℕ) → before_pair p q ≡ Less → Precedes p q
less_precedes p q h = precedes_parts p q (ap is_lt h)

precedes_less : (p q : Pair ℕ) → Precedes p q → before_pair p q ≡ Less
precedes_less p q h = is_less (before_pair p q) (precedes_from p q h)

abbrev IsAlone : List (Pair ℕ) → List (Pair ℕ) → Pair ℕ → Type 0
IsAlone = ordered.IsFirstAlone before_pair before_total before_exact

ascends : (rows : List ℕ) → IsRows rows → AllPairs (λ p q. before_pair p q ≡ Less) (pairs_from 0 rows)
ascends rows is = λ i j d lt within. is_less _ ((IsGrid-pairs_from rows is).ascending i j d lt within)

-- ---- rows

pub swapped : (a b : List ℕ) (cycle unit : ℕ) → DifferFirst a b cycle unit → DifferFirst b a cycle unit
swapped a b cycle unit d = record {
  differ = record { below = d.differ.below; here = λ e. d.differ.here (sym e); lower = λ other lt. sym (d.differ.lower other lt) };
  earlier = λ other lt. sym (d.earlier other lt);
}

pub later_is_above : (rows : List ℕ) (cycle unit : ℕ) → length rows ≤ cycle + 1 → HasLater rows cycle unit → HasAbove (get_or rows cycle 0) unit
later_is_above rows cycle unit most (other, later, set, after) =
    ⊎_elim
    (λ (lt : cycle < later). let below = row_below rows other later set in absurd (omega arith))
    (λ (both : (cycle ≡ later) × (unit < other)). (other, both.1, subst (λ place. IsSet rows other place) (sym both.0) set))
    after

module _ (a b : List ℕ) (is_a : IsRows a) (is_b : IsRows b) (cycle unit : ℕ) (d : DifferFirst a b cycle unit) where
  abbrev here : Pair ℕ
  here = record { unit = unit; cycle = cycle }

  -- before the pair, units of the one are units of the other
  moved : (q : Pair ℕ) → Precedes q here → has_unit (get_or a q.cycle 0) q.unit ≡ has_unit (get_or b q.cycle 0) q.unit
  moved q (inl lt) = ap (λ row. has_unit row q.unit) (d.earlier q.cycle lt)
  moved q (inr both) =
      ap (λ place. has_unit (get_or a place 0) q.unit) both.0 ∙ d.differ.lower q.unit both.1 ∙ ap (λ place. has_unit (get_or b place 0) q.unit) (sym both.0)

  pub alone : HasUnit (get_or a cycle 0) unit → IsAlone (pairs_from 0 a) (pairs_from 0 b) here
  alone set = record {
    there = (Holds-rows a is_a unit cycle).1 set;
    absent = λ m. d.differ.here (set ∙ sym ((Holds-rows b is_b unit cycle).0 m));
    to = λ q before m. (Holds-rows b is_b q.unit q.cycle).1 (sym (moved q (less_precedes q here before)) ∙ (Holds-rows a is_a q.unit q.cycle).0 m);
    from = λ q before m. (Holds-rows a is_a q.unit q.cycle).1 (moved q (less_precedes q here before) ∙ (Holds-rows b is_b q.unit q.cycle).0 m);
  }

  none_later : (rows : List ℕ) → IsRows rows → (HasLater rows cycle unit → ⊥) → (q : Pair ℕ) → before_pair here q ≡ Less → Contains (pairs_from 0 rows) q → ⊥
  none_later rows is none q after m =
      let set = (Holds-rows rows is q.unit q.cycle).0 m in
      none (q.unit, q.cycle, set, less_precedes here q after)

  some_later : (rows : List ℕ) → IsRows rows → ((HasLater rows cycle unit → ⊥) → ⊥) → ((q : Pair ℕ) → before_pair here q ≡ Less → Contains (pairs_from 0 rows) q → ⊥) → ⊥
  some_later rows is some none =
      some (λ (other, later, set, after). none (record { unit = other; cycle = later }) (precedes_less here (record { unit = other; cycle = later }) after) ((Holds-rows rows is other later).1 set))

  pub less_in_first : HasUnit (get_or a cycle 0) unit → ((HasLater b cycle unit → ⊥) → ⊥) → Less ≡ grid_cmp (pairs_from 0 a) (pairs_from 0 b)
  less_in_first set some = sym (ordered.first_where_later before_pair before_total before_exact here _ _ (ascends a is_a) (ascends b is_b) (alone set) (some_later b is_b some))

  pub greater_in_first : HasUnit (get_or a cycle 0) unit → (HasLater b cycle unit → ⊥) → Greater ≡ grid_cmp (pairs_from 0 a) (pairs_from 0 b)
  greater_in_first set none = sym (ordered.last_where_none before_pair before_total before_exact here _ _ (ascends a is_a) (ascends b is_b) (alone set) (none_later b is_b none))

-- the unit that only one of them has is in the second where it is not in the first
pub in_second : (a b : List ℕ) (cycle unit : ℕ) → DifferFirst a b cycle unit → (HasUnit (get_or a cycle 0) unit → ⊥) → HasUnit (get_or b cycle 0) unit
in_second a b cycle unit d none = other (has_unit (get_or a cycle 0) unit) (has_unit (get_or b cycle 0) unit) d.differ.here none
  where
    other : (p q : Bool) → p ≢ q → (IsTrue p → ⊥) → IsTrue q
    other true q differ none = absurd (none refl)
    other false true differ none = refl
    other false false differ none = absurd (differ refl)

module _ (a b : List ℕ) (is_a : IsRows a) (is_b : IsRows b) (cycle unit : ℕ) (d : DifferFirst a b cycle unit) where
  pub greater_in_second : (HasUnit (get_or a cycle 0) unit → ⊥) → ((HasLater a cycle unit → ⊥) → ⊥) → Greater ≡ grid_cmp (pairs_from 0 a) (pairs_from 0 b)
  greater_in_second unset some =
      sym (ordered.last_where_later before_pair before_total before_exact (record { unit = unit; cycle = cycle }) _ _ (ascends a is_a) (ascends b is_b)
      (alone b a is_b is_a cycle unit (swapped a b cycle unit d) (in_second a b cycle unit d unset))
      (some_later a b is_a is_b cycle unit d a is_a some))

  pub less_in_second : (HasUnit (get_or a cycle 0) unit → ⊥) → (HasLater a cycle unit → ⊥) → Less ≡ grid_cmp (pairs_from 0 a) (pairs_from 0 b)
  less_in_second unset none =
      sym (ordered.first_where_none before_pair before_total before_exact (record { unit = unit; cycle = cycle }) _ _ (ascends a is_a) (ascends b is_b)
      (alone b a is_b is_a cycle unit (swapped a b cycle unit d) (in_second a b cycle unit d unset))
      (none_later a b is_a is_b cycle unit d a is_a none))

-- rows that are the same as far as either goes are equal
pub equal_rows : (a b : List ℕ) → IsRows a → IsRows b → ((k : ℕ) → k < max (length a) (length b) → get_or a k 0 ≡ get_or b k 0) → Equal ≡ grid_cmp (pairs_from 0 a) (pairs_from 0 b)
equal_rows a b is_a is_b same =
    let everywhere : (k : ℕ) → get_or a k 0 ≡ get_or b k 0 = λ k. ⊎_elim
    (λ (lt : k < max (length a) (length b)). same k lt)
    (λ (past : max (length a) (length b) ≤ k). get_or_past a k 0 (omega arith) ∙ sym (get_or_past b k 0 (omega arith)))
    (cases_lt k (max (length a) (length b))) in
    let equal = same_rows a b is_a is_b (λ unit k. (λ h. subst (λ row. HasUnit row unit) (everywhere k) h, λ h. subst (λ row. HasUnit row unit) (sym (everywhere k)) h)) in
    subst (λ rows. Equal ≡ grid_cmp (pairs_from 0 a) (pairs_from 0 rows)) equal (sym (tied_itself grid_total (pairs_from 0 a)))

-- a row that is asked for past the end has no unit
pub row_or_empty : (rows : List ℕ) (cycle empty : ℕ) → ((unit : ℕ) → HasUnit empty unit → ⊥) → get_or rows cycle empty ≡ get_or rows cycle 0
row_or_empty rows cycle empty none =
    let zero_is : empty ≡ 0 = same_from_units empty 0 (λ unit. (λ h. absurd (none unit h), λ h. absurd (HasUnit-zero unit h))) in
    ap (get_or rows cycle) zero_is
