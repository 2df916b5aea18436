-- The cycles of a unit in a grid, cycle by cycle, and ranges of cycles side by side.
use Rattle.std.proofs.Common.{◌≡◌, ℕ, suc, ◌+◌, ◌-◌, ◌<◌, ◌≤◌, ◌==◌, ⊎_elim, Bool, true, false, cond, List, [], ◌∷◌, ◌++◌, filter, length, get_or, Contains, rules, Option, Some, None, refl, sym, ap, ◌∙◌, subst, arith}
use Rattle.std.specs.Prelude.{min, max, IsTrue, not}
use Rattle.std.specs.List.{range_with_len, list_any, AllPairs}
use Rattle.std.proofs.lemmas.Bool.{eqb-true, eq-eqb, or_cases}
use Rattle.std.proofs.lemmas.List.{length-map, get_or-map}
use Rattle.std.proofs.lemmas.List.Kept.{AllPairs-filter}
use Rattle.std.proofs.lemmas.List.Elements.{All-contains, Contains-get_or}
use Rattle.hz_base_model.specs.Pairs.{Pair, IsAscendingBy, precedes_by}
use Rattle.hz_base_model.proofs.PairOrder.{precedes_parts}
use Rattle.hz_base_model.proofs.Elements.{Contains-head, Contains-tail, Contains-map, Contains-from_map, Contains-filter, Contains-from_filter, Contains-range}
use Rattle.hz_base_model.proofs.Ascending.{same_from_ascending, AllPairs-range}
use Rattle.hz_block_model.proofs.Dependences.SourceLaws.{any_contains}
use Rattle.std.specs.Ordering.{nat_cmp}
use Rattle.std.proofs.lemmas.List.Filters.{length-filter_both}
use Rattle.std.proofs.lemmas.List.FromFn.{length-range_with_len}
use Rattle.hz_grid.specs.Grids.{IsGrid}
use Rattle.hz_grid.specs.declared.grid_of.TheConstants.{CYCLES}
use Rattle.hz_measure_model.specs.Bounds.Loads.{cycles_at}
use Rattle.hz_bound.specs.declared.cycles.Range.{Range}
use Rattle.hz_bound.specs.Ranges.{has, range_of, joined}

-- ---- ranges

pub join_none : (o : Option Range) → joined o None ≡ o
join_none None = refl
join_none (Some a) = refl

pub join_all : (o p q : Option Range) → joined (joined o p) q ≡ joined o (joined p q)
join_all None p q = refl
join_all (Some a) None q = refl
join_all (Some a) (Some b) None = refl
join_all (Some a) (Some b) (Some c) = λ i. Some (record { first = low i; last = high i })
  where
    low : min (min a.first b.first) c.first ≡ min a.first (min b.first c.first)
    low = omega arith

    high : max (max a.last b.last) c.last ≡ max a.last (max b.last c.last)
    high = omega arith

pub range_cons : (c : ℕ) (cs : List ℕ) → range_of (c ∷ cs) ≡ joined (Some (record { first = c; last = c })) (range_of cs)
range_cons c [] = λ i. Some (record { first = c; last = high i })
  where
    high : max c 0 ≡ c
    high = omega arith
range_cons c (d ∷ cs) = refl

pub range_append : (cs ds : List ℕ) → range_of (cs ++ ds) ≡ joined (range_of cs) (range_of ds)
range_append [] ds = refl
range_append (c ∷ cs) ds = range_cons c (cs ++ ds) ∙ (ap (λ (o : Option Range). joined (Some (record { first = c; last = c })) o) (range_append cs ds) ∙ (sym (join_all (Some (record { first = c; last = c })) (range_of cs) (range_of ds)) ∙ ap (λ (o : Option Range). joined o (range_of ds)) (sym (range_cons c cs))))

pub from_true : (b : Bool) → b ≡ true → IsTrue b
from_true true h = search rules
from_true false h = absurd (cc)

pub to_true : (b : Bool) → IsTrue b → b ≡ true
to_true true h = refl
to_true false h = absurd (search rules)

-- ---- cycles one by one

module _ (grid : List (Pair ℕ)) (unit : ℕ) where
  abbrev of_unit : List (Pair ℕ)
  of_unit = filter (λ p. p.unit == unit) grid

  pub has_there : (cycle : ℕ) → has grid unit cycle ≡ true → Contains grid (record { unit = unit; cycle = cycle })
  has_there cycle h =
      let (c, there, is) = any_found (λ (c : ℕ). c == cycle) (cycles_at unit grid) h in
      let (p, held, same) = Contains-from_map (λ (p : Pair ℕ). p.cycle) of_unit c there in
      let (inside, passes) = Contains-from_filter (λ (p : Pair ℕ). p.unit == unit) p grid held in
      let units = eqb-true p.unit unit passes in
      let cycles = same ∙ eqb-true c cycle is in
      let pair : p ≡ record { unit = unit; cycle = cycle } = λ i. record { unit = units i; cycle = cycles i } in
      subst (Contains grid) pair inside
    where
      any_found : (test : ℕ → Bool) (xs : List ℕ) → list_any test xs ≡ true → (x : ℕ) × Contains xs x × (test x ≡ true)
      any_found test [] h = absurd (cc)
      any_found test (x ∷ xs) h = ⊎_elim
          (λ (here : test x ≡ true). (x, Contains-head x xs, here))
          (λ (there : list_any test xs ≡ true). let (y, held, is) = any_found test xs there in (y, Contains-tail x y xs held, is))
          (or_cases (test x) (list_any test xs) h)

  pub there_has : (cycle : ℕ) → Contains grid (record { unit = unit; cycle = cycle }) → has grid unit cycle ≡ true
  there_has cycle there = any_contains (λ c. c == cycle) (cycles_at unit grid) cycle
      (Contains-map (λ (p : Pair ℕ). p.cycle) of_unit (record { unit = unit; cycle = cycle }) (Contains-filter (λ (p : Pair ℕ). p.unit == unit) (record { unit = unit; cycle = cycle }) (eq-eqb unit unit refl) grid there))
      (eq-eqb cycle cycle refl)

  pub takes_is : (b : Bool) (cycle : ℕ) → (b ≡ true → Contains grid (record { unit = unit; cycle = cycle })) → (Contains grid (record { unit = unit; cycle = cycle }) → b ≡ true) → b ≡ has grid unit cycle
  takes_is b cycle there back = go b (has grid unit cycle) (λ h. there_has cycle (there h)) (λ h. back (has_there cycle h))
    where
      go : (a b : Bool) → (a ≡ true → b ≡ true) → (b ≡ true → a ≡ true) → a ≡ b
      go true b f g = sym (f refl)
      go false true f g = g refl
      go false false f g = refl

  -- the cycles ascend, and are those that pass
  cycles_ascend : IsAscendingBy nat_cmp grid → AllPairs (λ a b. a < b) (cycles_at unit grid)
  cycles_ascend up i j d lt within =
      let long = length-map of_unit (λ (p : Pair ℕ). p.cycle) in
      let inside : j < length of_unit = omega arith in
      let none : Pair ℕ = record { unit = 0; cycle = 0 } in
      rw (get_or-map (λ (p : Pair ℕ). p.cycle) of_unit i none d (omega arith), get_or-map (λ (p : Pair ℕ). p.cycle) of_unit j none d inside)
      (later (get_or of_unit i none) (get_or of_unit j none) (Contains-get_or of_unit i none (omega arith)) (Contains-get_or of_unit j none inside)
      (AllPairs-filter (λ p q. IsTrue (precedes_by nat_cmp p q)) (λ p. p.unit == unit) grid up i j none lt inside))
    where
      later : (p q : Pair ℕ) → Contains of_unit p → Contains of_unit q → IsTrue (precedes_by nat_cmp p q) → p.cycle < q.cycle
      later p q there here before =
          let (_, one) = Contains-from_filter (λ (p : Pair ℕ). p.unit == unit) p grid there in
          let (_, two) = Contains-from_filter (λ (p : Pair ℕ). p.unit == unit) q grid here in
          let mine = eqb-true p.unit unit one in
          let yours = eqb-true q.unit unit two in
          ⊎_elim (λ (lt : p.cycle < q.cycle). lt) (λ (h : (p.cycle ≡ q.cycle) × (p.unit < q.unit)). absurd (omega (arith, h.1, mine, yours))) (precedes_parts p q before)

  pub all_passed : (n : ℕ) → IsAscendingBy nat_cmp grid → ((c : ℕ) → Contains grid (record { unit = unit; cycle = c }) → c < n) → filter (has grid unit) (range_with_len 0 n) ≡ cycles_at unit grid
  all_passed n up below = same_from_ascending (λ a b. a < b) (λ a b lt gt. omega (arith, lt, gt)) (filter (has grid unit) (range_with_len 0 n)) (cycles_at unit grid)
      (AllPairs-filter (λ a b. a < b) (has grid unit) (range_with_len 0 n) (AllPairs-range n)) (cycles_ascend up)
      (λ c is. let (held, passes) = Contains-from_filter (has grid unit) c (range_with_len 0 n) is in
      Contains-map (λ (p : Pair ℕ). p.cycle) of_unit (record { unit = unit; cycle = c }) (Contains-filter (λ (p : Pair ℕ). p.unit == unit) (record { unit = unit; cycle = c }) (eq-eqb unit unit refl) grid (has_there c passes)))
      (λ c is. let there = at c is in Contains-filter (has grid unit) c (there_has c there) (range_with_len 0 n) (Contains-range n c (below c there)))
    where
      at : (c : ℕ) → Contains (cycles_at unit grid) c → Contains grid (record { unit = unit; cycle = c })
      at c is = has_there c (any_contains (λ d. d == c) (cycles_at unit grid) c is (eq-eqb c c refl))

  -- one cycle more
  pub one_passed : (c n : ℕ) → c < n → filter (has grid unit) (range_with_len c (n - c)) ≡ cond (has grid unit c) (c ∷ filter (has grid unit) (range_with_len (c + 1) (n - (c + 1)))) (filter (has grid unit) (range_with_len (c + 1) (n - (c + 1))))
  one_passed c n lt = ap (λ (k : ℕ). filter (has grid unit) (range_with_len c k)) more
    where
      more : n - c ≡ suc (n - (c + 1))
      more = omega (arith, lt)

  pub taken_is : (b : Bool) (cycle : ℕ) → (IsTrue b → Contains grid (record { unit = unit; cycle = cycle })) → (Contains grid (record { unit = unit; cycle = cycle }) → IsTrue b) → b ≡ has grid unit cycle
  taken_is b cycle there back = takes_is b cycle (λ h. there (from_true b h)) (λ h. to_true b (back h))

  pub all_from : (n : ℕ) → IsAscendingBy nat_cmp grid → ((c : ℕ) → Contains grid (record { unit = unit; cycle = c }) → c < n) → filter (has grid unit) (range_with_len 0 (n - 0)) ≡ cycles_at unit grid
  all_from n up below = let same : n - 0 ≡ n = omega arith in ap (λ (k : ℕ). filter (has grid unit) (range_with_len 0 k)) same ∙ all_passed n up below

  -- a unit has few cycles
  pub few_cycles : IsGrid grid → length (cycles_at unit grid) ≤ 512
  few_cycles is =
      let all = all_passed 512 is.ascending (λ c there. All-contains (λ (p : Pair ℕ). p.cycle < CYCLES) grid (record { unit = unit; cycle = c }) is.cycles there) in
      let parts = length-filter_both (has grid unit) (λ (c : ℕ). not (has grid unit c)) (λ c. refl) (range_with_len 0 512) in
      let same = ap length all in
      omega (arith, parts, same, length-range_with_len 0 512)
