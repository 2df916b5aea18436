-- Alternatives cut down to an automaton, as lists and as grids.
use Rattle.std.proofs.Common.{◌≡◌, ◌↔◌, ℕ, ◌+◌, ◌<◌, Bool, true, false, cond, ◌&&◌, ◌||◌, ◌==◌, not, List, [], ◌∷◌, ◌++◌, length, map, filter, take, get_or, All, Contains, refl, sym, ap, ◌∙◌, subst, arith, IsTrue}
use Rattle.std.specs.List.{AllPairs, list_any}
use Rattle.std.specs.Cmp.Lexicographic.{pointwise}
use Rattle.std.specs.declared.alloc.Global.{Global}
use Rattle.std.specs.declared.vec.Vec.{Vec}
use Rattle.std.proofs.lemmas.Bool.{eqb-true}
use Rattle.std.proofs.lemmas.List.{map-append, take_more}
use Rattle.std.proofs.lemmas.List.Elements.{All-filter, All-map, All-contains, Contains-get_or, filter_passes}
use Rattle.std.proofs.lemmas.List.Kept.{AllPairs-filter}
use Rattle.hz_base_model.specs.Limits.{cycle_limit, unit_limit}
use Rattle.hz_grid.specs.Grids.{IsGrid, HoldsJust}
use Rattle.hz_grid.proofs.Pairs.{same_grids}
use Rattle.hz_altern.specs.declared.alternative.Alt.{Alt}
use Rattle.hz_altern.specs.Cuts.{within_pair, within_pairs, cuts_of}
use Rattle.hz_altern.specs.Shapes.{alternative_of, alternatives}
use Rattle.hz_base_model.specs.Pairs.{Pair, precedes_by, IsAscendingBy, grid_eq}
use Rattle.hz_description_model.specs.Reservations.AlternativeLists.{IsAscending}
use Rattle.hz_description_model.specs.Reservations.Automata.{UnitPlace, ascending, is_of, inside, cut, list_in}
use Rattle.hz_base_model.proofs.Ascending.{AllPairs-map}
use Rattle.hz_description_model.proofs.Reservations.AscendingLaws.{Precedes, pair_at, IsAscending-ascending, Contains-ascending, Contains-from_ascending}
use Rattle.hz_base_model.proofs.Elements.{Contains-map, Contains-from_map, Contains-filter, Contains-from_filter}
use Rattle.hz_description_model.proofs.Reservations.PlacedLaws.{All-ascending}
use Rattle.hz_description_model.proofs.Reservations.ListInLaws.{list_in-push}
use Rattle.hz_base_model.proofs.PairOrder.{grid_one}
use Rattle.std.specs.Ordering.{nat_cmp, ordering_then, is_lt}
use Rattle.std.specs.Cmp.{nat_cmp_is}
use Rattle.std.specs.declared.cmp.Ordering.TheVariants.{Equal}

before_numbers : (a x b y c z : ℕ) → is_lt (ordering_then (nat_cmp a x) (ordering_then (nat_cmp b y) (nat_cmp c z))) ≡ true → b ≡ y → is_lt (ordering_then (nat_cmp a x) (nat_cmp c z)) ≡ true
before_numbers a x b y c z h e = subst (λ o. is_lt (ordering_then (nat_cmp a x) (ordering_then o (nat_cmp c z))) ≡ true) (sym (nat_cmp_is b y Equal e)) h

abbrev PrecedesInside : Pair ℕ → Pair ℕ → Type 0
PrecedesInside p q = IsTrue (precedes_by nat_cmp p q)

pair_back : (q : ℕ × ℕ) (p : Pair ℕ) → within_pair q ≡ p → q ≡ (p.unit, p.cycle)
pair_back q p e = ap (λ (r : Pair ℕ). (r.unit, r.cycle)) e

-- ---- the pairs of an automaton

module _ (automaton : ℕ) (ps : List (Pair UnitPlace)) where
  abbrev those : List (Pair UnitPlace)
  those = filter (is_of automaton) ps

  -- before another pair, and both of the automaton
  record Both (p q : Pair UnitPlace) : Type 0 where
    before : Precedes p q
    first : p.unit.automaton ≡ automaton
    second : q.unit.automaton ≡ automaton

  both_pairs : IsAscending ps → AllPairs Both those
  both_pairs up i j d lt within =
      let passes = filter_passes (is_of automaton) ps in
      let inside_i : i < length those = omega arith in
      record {
        before = AllPairs-filter Precedes (is_of automaton) ps up i j d lt within;
        first = eqb-true _ _ (passes i d inside_i);
        second = eqb-true _ _ (passes j d within);
      }

  before_inside : (p q : Pair UnitPlace) → Both p q → PrecedesInside (inside p) (inside q)
  before_inside p q both = before_numbers p.cycle q.cycle p.unit.automaton q.unit.automaton p.unit.unit q.unit.unit both.before (both.first ∙ sym both.second)

  -- the pairs that are cut out are a grid
  pub cut_grid : IsAscending ps → All (λ p. p.unit.unit < unit_limit) ps → All (λ p. p.cycle < cycle_limit) ps → IsGrid (map inside those)
  cut_grid up units cycles = record {
    ascending = AllPairs-map Both PrecedesInside inside before_inside (pair_at 0 0 0) those (both_pairs up);
    units = All-map (λ q. q.unit < unit_limit) inside those (All-filter (is_of automaton) (λ p. p.unit.unit < unit_limit) ps units);
    cycles = All-map (λ q. q.cycle < cycle_limit) inside those (All-filter (is_of automaton) (λ p. p.cycle < cycle_limit) ps cycles);
  }

-- The cut of pairs, which may stand in any order and several times.
module _ (automaton : ℕ) (ps : List (Pair UnitPlace)) (units : All (λ p. p.unit.unit < unit_limit) ps) (cycles : All (λ p. p.cycle < cycle_limit) ps) where
  pub cut_is_grid : IsGrid (cut automaton ps)
  cut_is_grid = cut_grid automaton (ascending ps) (IsAscending-ascending ps) (All-ascending (λ p. p.unit.unit < unit_limit) ps units) (All-ascending (λ p. p.cycle < cycle_limit) ps cycles)

  -- it has the pairs of the automaton's units
  in_cut : (p : Pair ℕ) → Contains (map inside (filter (is_of automaton) ps)) p → Contains (cut automaton ps) p
  in_cut p there =
      let from = Contains-from_map inside (those automaton ps) p there in
      let kept = Contains-from_filter (is_of automaton) from.0 ps from.1 in
      subst (λ (q : Pair ℕ). Contains (cut automaton ps) q) from.2
      (Contains-map inside (those automaton (ascending ps)) from.0 (Contains-filter (is_of automaton) from.0 kept.1 (ascending ps) (Contains-ascending from.0 ps kept.0)))

  from_cut : (p : Pair ℕ) → Contains (cut automaton ps) p → Contains (map inside (filter (is_of automaton) ps)) p
  from_cut p there =
      let from = Contains-from_map inside (those automaton (ascending ps)) p there in
      let kept = Contains-from_filter (is_of automaton) from.0 (ascending ps) from.1 in
      subst (λ (q : Pair ℕ). Contains (map inside (those automaton ps)) q) from.2
      (Contains-map inside (those automaton ps) from.0 (Contains-filter (is_of automaton) from.0 kept.1 ps (Contains-from_ascending from.0 ps kept.0)))

  -- a grid of those pairs is the cut
  module _ (found pairs : List (ℕ × ℕ)) (taken : within_pairs found ≡ map inside (filter (is_of automaton) ps)) (same : (pair : ℕ × ℕ) → Contains pairs pair ↔ Contains found pair) where
    in_found : (p : Pair ℕ) → Contains (cut automaton ps) p → Contains pairs (p.unit, p.cycle)
    in_found p there =
        let from = Contains-from_map within_pair found p (subst (λ (qs : List (Pair ℕ)). Contains qs p) (sym taken) (from_cut p there)) in
        (same (p.unit, p.cycle)).1 (subst (λ (q : ℕ × ℕ). Contains found q) (pair_back from.0 p from.2) from.1)

    from_found : (p : Pair ℕ) → Contains pairs (p.unit, p.cycle) → Contains (cut automaton ps) p
    from_found p there = in_cut p (subst (λ (qs : List (Pair ℕ)). Contains qs p) taken (Contains-map within_pair found (p.unit, p.cycle) ((same (p.unit, p.cycle)).0 there)))

    pub grid_is : (grid : List (Pair ℕ)) → IsGrid grid → HoldsJust pairs grid → grid ≡ cut automaton ps
    grid_is grid is just = same_grids grid (cut automaton ps) is cut_is_grid (λ p. (
      λ h. from_found p ((just p.unit p.cycle).0 h),
      λ h. (just p.unit p.cycle).1 (in_found p h),
    ))

    -- what holds of each pair of the cut holds of the pairs
    pub each_found : (P : Pair ℕ → Type 0) → All P (cut automaton ps) → All (λ pair. P (within_pair pair)) pairs
    each_found P each = λ k d within. All-contains P (cut automaton ps) (within_pair (get_or pairs k d)) each (from_found (within_pair (get_or pairs k d)) (Contains-get_or pairs k d within))

    -- the same pairs in order are the cut
    pub pairs_are : IsAscendingBy nat_cmp (within_pairs pairs) → within_pairs pairs ≡ cut automaton ps
    pairs_are up = grid_one (within_pairs pairs) (cut automaton ps) up (cut_is_grid.ascending) (λ p. (
      λ h. let from = Contains-from_map within_pair pairs p h in from_found p (subst (λ (q : ℕ × ℕ). Contains pairs q) (pair_back from.0 p from.2) from.1),
      λ h. Contains-map within_pair pairs (p.unit, p.cycle) (in_found p h),
    ))

-- ---- lists of cuts

pub list_in_more : (automaton : ℕ) (alts : List Alt) (i : ℕ) (item : Alt) → i < length alts → item ≡ get_or alts i item →
    list_in automaton (alternatives (take (i + 1) alts)) ≡ cond (list_any (grid_eq (cut automaton (alternative_of item).pairs)) (list_in automaton (alternatives (take i alts)))) (list_in automaton (alternatives (take i alts))) (list_in automaton (alternatives (take i alts)) ++ cut automaton (alternative_of item).pairs ∷ [])
list_in_more automaton alts i item h is =
    let more : alternatives (take (i + 1) alts) ≡ alternatives (take i alts) ++ alternative_of item ∷ [] =
    ap alternatives (take_more alts i item h) ∙ (map-append alternative_of (take i alts) (get_or alts i item ∷ []) ∙ ap (λ x. alternatives (take i alts) ++ alternative_of x ∷ []) (sym is)) in
    ap (list_in automaton) more ∙ list_in-push automaton (alternatives (take i alts)) (alternative_of item)

-- ---- the set of what was seen

pointwise-map : (xs ys : List (ℕ × ℕ)) → grid_eq (within_pairs xs) (within_pairs ys) ≡ pointwise (λ p q. p.0 == q.0 && p.1 == q.1) xs ys
pointwise-map [] [] = refl
pointwise-map [] (y ∷ ys) = refl
pointwise-map (x ∷ xs) [] = refl
pointwise-map (x ∷ xs) (y ∷ ys) = ap (λ t. (x.0 == y.0 && x.1 == y.1) && t) (pointwise-map xs ys)

pub list_any-cuts : (xs : List (ℕ × ℕ)) (keys : List (Vec (ℕ × ℕ) Global)) → list_any (grid_eq (within_pairs xs)) (cuts_of keys) ≡ list_any (λ k. pointwise (λ p q. p.0 == q.0 && p.1 == q.1) xs k.items) keys
list_any-cuts xs [] = refl
list_any-cuts xs (k ∷ keys) = ap (λ t. t || list_any (grid_eq (within_pairs xs)) (cuts_of keys)) (pointwise-map xs k.items) ∙ ap (λ t. pointwise (λ p q. p.0 == q.0 && p.1 == q.1) xs k.items || t) (list_any-cuts xs keys)

cond_not : {A : Type 0} (t : Bool) (x y : A) → cond (not t) x y ≡ cond t y x
cond_not true x y = refl
cond_not false x y = refl

-- One more alternative: what was seen, and the grids, become the list with its cut.
pub cut_joins : (items next seen seen' grids grids' : List (List (Pair ℕ))) (y taken grid : List (Pair ℕ)) (new : Bool) →
    next ≡ cond (list_any (grid_eq y) items) items (items ++ y ∷ []) → taken ≡ y → grid ≡ y → seen ≡ items → grids ≡ items →
    new ≡ not (list_any (grid_eq taken) seen) → seen' ≡ cond new (seen ++ taken ∷ []) seen → grids' ≡ cond new (grids ++ grid ∷ []) grids → (grids' ≡ next) × (seen' ≡ next)
cut_joins items next seen seen' grids grids' y taken grid new is e f g h fresh after made =
    let turned = cond_not (list_any (grid_eq y) items) (items ++ y ∷ []) items in
    (cc, cc)
