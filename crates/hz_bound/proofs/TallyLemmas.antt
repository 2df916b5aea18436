-- What units are reported of the pairs of grids is what the grids take of them.
use Rattle.std.proofs.Common.{◌≡◌, ℕ, ◌+◌, ◌-◌, ◌<◌, ◌≤◌, ◌==◌, ⊎_elim, Bool, true, false, cond, List, [], ◌∷◌, ◌++◌, map, filter, take, set, length, get_or, Option, Some, refl, sym, ap, ◌∙◌, subst, arith}
use Rattle.std.specs.Prelude.{min, IsTrue}
use Rattle.std.specs.List.{range_with_len}
use Rattle.std.proofs.lemmas.Bool.{eqb-true, eqb-false, cases_lt}
use Rattle.std.proofs.lemmas.List.{length-map, length-append, length-set, length-take-le, map-append, map_more, take_all, get_or_default, get_or-set_same, get_or-set_other}
use Rattle.std.proofs.lemmas.Grind.{flat_map-append}
use Rattle.hz_base_model.specs.Pairs.{Pair}
use Rattle.hz_grid.specs.Grids.{IsGrid, Holds}
use Rattle.hz_grid.specs.Rows.{HasUnit, RowsMeet}
use Rattle.hz_measure_model.specs.Bounds.Loads.{least, cycles_at, ways_in}
use Rattle.hz_bound.specs.declared.cycles.Range.{Range}
use Rattle.hz_bound.specs.declared.tallies.Tally.{Tally}
use Rattle.hz_bound.specs.Ranges.{has, range_of, joined, all_cycles}
use Rattle.hz_bound.specs.Tallies.{no_tally, tally_at, before_of, with_cycle, with_cycles, top, forced, Says, IsStepped, IsAdded, AreTallies, AreNone, IsMask}
use Rattle.hz_bound.proofs.CycleLemmas.{join_none, join_all, range_cons, range_append, has_there, to_true, all_from, one_passed, few_cycles}

-- ---- the least of numbers

top_append : (ns : List ℕ) (k : ℕ) → top (ns ++ k ∷ []) ≡ min (top ns) k
top_append [] k = omega arith
top_append (n ∷ ns) k = let rest = top_append ns k in omega (arith, rest)

top_low : (ns : List ℕ) → top ns ≤ 65535
top_low [] = omega arith
top_low (n ∷ ns) = let rest = top_low ns in omega (arith, rest)

top_least : (n : ℕ) (ns : List ℕ) → top (n ∷ ns) ≡ min (least (n ∷ ns)) 65535
top_least n [] = refl
top_least n (m ∷ ns) = let rest = top_least m ns in omega (arith, rest)

pub least_is : (ns : List ℕ) → 0 < length ns → top ns ≤ 512 → least ns ≡ top ns
least_is [] lt few = absurd (omega (arith, lt))
least_is (n ∷ ns) lt few = let same = top_least n ns in omega (arith, same, few)

-- ---- one unit

-- Within the next alternative, of which it is reported so many cycles with this range.
record Partly (ws : List (List ℕ)) (k : ℕ) (r : Option Range) (t : Tally) : Type 0 where
  pub last : t.last ≡ length ws + 1
  pub before : t.before ≡ top (map length ws)
  pub here : t.here ≡ min k 65535
  pub range : t.range ≡ joined (range_of (all_cycles ws)) r

abbrev one : ℕ → Option Range
one c = Some (record { first = c; last = c })

abbrev again : ℕ → ℕ → Tally → Tally
again number c t = record { last = number; before = t.before; here = min (t.here + 1) 65535; range = joined t.range (one c) }

abbrev anew : ℕ → ℕ → Tally → Tally
anew number c t = record { last = number; before = before_of number t; here = 1; range = joined t.range (one c) }

before_is : (ws : List (List ℕ)) (t : Tally) → Says ws t → before_of (length ws + 1) t ≡ top (map length ws)
before_is ws t says = go (t.last == length ws + 1 - 1) refl
  where
    go : (b : Bool) → (t.last == length ws + 1 - 1) ≡ b → cond b (min t.before t.here) 0 ≡ top (map length ws)
    go true e = says.full (let is = eqb-true t.last (length ws + 1 - 1) e in omega (arith, is))
    go false e = ⊎_elim
        (λ (lt : t.last < length ws). sym (says.gap lt))
        (λ (le : length ws ≤ t.last). absurd (eqb-false t.last (length ws + 1 - 1) e (let low = says.last in omega (arith, le, low))))
        (cases_lt t.last (length ws))

partly_first : (ws : List (List ℕ)) (c : ℕ) (t : Tally) → Says ws t → Partly ws 1 (one c) (with_cycle (length ws + 1) c t)
partly_first ws c t says = go (t.last == length ws + 1) refl
  where
    go : (b : Bool) → (t.last == length ws + 1) ≡ b → Partly ws 1 (one c) (cond b (again (length ws + 1) c t) (anew (length ws + 1) c t))
    go true e = absurd (let is = eqb-true t.last (length ws + 1) e in let low = says.last in omega (arith, is, low))
    go false e = record { last = refl; before = before_is ws t says; here = refl; range = ap (λ (o : Option Range). joined o (one c)) says.range }

partly_more : (ws : List (List ℕ)) (k : ℕ) (r : Option Range) (c : ℕ) (t : Tally) → Partly ws k r t → Partly ws (k + 1) (joined r (one c)) (with_cycle (length ws + 1) c t)
partly_more ws k r c t is = go (t.last == length ws + 1) refl
  where
    go : (b : Bool) → (t.last == length ws + 1) ≡ b → Partly ws (k + 1) (joined r (one c)) (cond b (again (length ws + 1) c t) (anew (length ws + 1) c t))
    go true e = record {
      last = refl;
      before = is.before;
      here = let here = is.here in omega (arith, here);
      range = ap (λ (o : Option Range). joined o (one c)) is.range ∙ join_all (range_of (all_cycles ws)) r (one c);
    }
    go false e = absurd (eqb-false t.last (length ws + 1) e is.last)

partly_all : (ws : List (List ℕ)) (cs : List ℕ) (k : ℕ) (r : Option Range) (t : Tally) → Partly ws k r t → Partly ws (k + length cs) (joined r (range_of cs)) (with_cycles (length ws + 1) cs t)
partly_all ws [] k r t is = record {
  last = is.last;
  before = is.before;
  here = let here = is.here in omega (arith, here);
  range = is.range ∙ ap (joined (range_of (all_cycles ws))) (sym (join_none r));
}
partly_all ws (c ∷ cs) k r t is =
    let rest = partly_all ws cs (k + 1) (joined r (one c)) (with_cycle (length ws + 1) c t) (partly_more ws k r c t is) in
    record {
      last = rest.last;
      before = rest.before;
      here = let here = rest.here in omega (arith, here);
      range = rest.range ∙ ap (joined (range_of (all_cycles ws))) (join_all r (one c) (range_of cs) ∙ ap (joined r) (sym (range_cons c cs)));
    }

-- ---- one alternative more

lengths_more : (ws : List (List ℕ)) (cs : List ℕ) → top (map length (ws ++ cs ∷ [])) ≡ min (top (map length ws)) (length cs)
lengths_more ws cs = ap top (map-append length ws (cs ∷ [])) ∙ top_append (map length ws) (length cs)

cycles_end : (cs : List ℕ) → range_of (all_cycles (cs ∷ [])) ≡ range_of cs
cycles_end cs = range_append cs [] ∙ join_none (range_of cs)

cycles_more : (ws : List (List ℕ)) (cs : List ℕ) → range_of (all_cycles (ws ++ cs ∷ [])) ≡ joined (range_of (all_cycles ws)) (range_of cs)
cycles_more ws cs = ap range_of (flat_map-append (λ (cs : List ℕ). cs) ws (cs ∷ [])) ∙ (range_append (all_cycles ws) (all_cycles (cs ∷ [])) ∙ ap (joined (range_of (all_cycles ws))) (cycles_end cs))

says_more : (ws : List (List ℕ)) (cs : List ℕ) (t : Tally) → Says ws t → Says (ws ++ cs ∷ []) (with_cycles (length ws + 1) cs t)
says_more ws [] t says =
    let long = length-append ws ([] ∷ []) in
    let low = says.last in
    record {
      last = omega (arith, long, low);
      full = λ e. absurd (omega (arith, long, low, e));
      gap = λ lt. lengths_more ws [] ∙ omega arith;
      range = says.range ∙ (sym (join_none (range_of (all_cycles ws))) ∙ sym (cycles_more ws []));
    }
says_more ws (c ∷ cs) t says =
    let long = length-append ws ((c ∷ cs) ∷ []) in
    let is = partly_all ws cs 1 (one c) (with_cycle (length ws + 1) c t) (partly_first ws c t says) in
    let last = is.last in
    let before = is.before in
    let here = is.here in
    record {
      last = omega (arith, long, last);
      full = λ e. (let low = top_low (map length ws) in let same = lengths_more ws (c ∷ cs) in omega (arith, before, here, low, same));
      gap = λ lt. absurd (omega (arith, long, last, lt));
      range = is.range ∙ (ap (joined (range_of (all_cycles ws))) (sym (range_cons c cs)) ∙ sym (cycles_more ws (c ∷ cs)));
    }

says_none : Says [] no_tally
says_none = record { last = omega arith; full = λ e. refl; gap = λ lt. absurd (omega (arith, lt)); range = refl }

-- the least count by a tally
pub forced_is : (ws : List (List ℕ)) (t : Tally) → Says ws t → (0 < length ws → top (map length ws) ≤ 512) → forced (length ws) t ≡ least (map length ws)
forced_is ws t says few = go (length ws == 0) refl (t.last == length ws) refl
  where
    some : (0 < length ws) → top (map length ws) ≡ least (map length ws)
    some lt = sym (least_is (map length ws) (omega (arith, lt, length-map ws length)) (few lt))

    none : (vs : List (List ℕ)) → length vs ≡ 0 → 0 ≡ least (map length vs)
    none [] e = refl
    none (v ∷ vs) e = absurd (omega (arith, e))

    go : (a : Bool) → (length ws == 0) ≡ a → (b : Bool) → (t.last == length ws) ≡ b → cond a 0 (cond b (min t.before t.here) 0) ≡ least (map length ws)
    go true e b f = none ws (eqb-true (length ws) 0 e)
    go false e true f = says.full (eqb-true t.last (length ws) f) ∙ some (⊎_elim (λ (lt : 0 < length ws). lt) (λ (le : length ws ≤ 0). absurd (eqb-false (length ws) 0 e (omega (arith, le)))) (cases_lt 0 (length ws)))
    go false e false f = ⊎_elim
        (λ (lt : t.last < length ws). sym (says.gap lt) ∙ some (omega (arith, lt)))
        (λ (le : length ws ≤ t.last). absurd (eqb-false t.last (length ws) f (let low = says.last in omega (arith, le, low))))
        (cases_lt t.last (length ws))

-- ---- the units of a row

module _ (grid : List (Pair ℕ)) (number cycle : ℕ) where
  pub step_none : (first : ℕ) (old : List Tally) → IsStepped grid number cycle first first old old
  step_none first old = record { long = refl; inside = λ u le lt there. absurd (omega (arith, le, lt)); before = λ u lt. refl; beyond = λ u le. refl }

  pub step_one : (first unit : ℕ) (old now new : List Tally) (t x : Tally) → IsStepped grid number cycle first unit old now → first ≤ unit → unit < length now → t ≡ get_or now unit t → x ≡ cond (has grid unit cycle) (with_cycle number cycle t) t → new ≡ set now unit x
      → IsStepped grid number cycle first (unit + 1) old new
  step_one first unit old now new t x is low lt read made e = subst (IsStepped grid number cycle first (unit + 1) old) (sym e) (record {
    long = length-set now unit x ∙ is.long;
    inside = λ u le less there. ⊎_elim
        (λ (before : u < unit). other u (λ (same : u ≡ unit). omega (arith, before, same)) ∙ is.inside u le before there)
        (λ (beyond : unit ≤ u). let same : unit ≡ u = omega (arith, beyond, less) in subst (λ (v : ℕ). tally_at (set now unit x) v ≡ cond (has grid v cycle) (with_cycle number cycle (tally_at old v)) (tally_at old v)) same at)
        (cases_lt u unit);
    before = λ u less. other u (λ (same : u ≡ unit). omega (arith, less, low, same)) ∙ is.before u less;
    beyond = λ u le. other u (λ (same : u ≡ unit). omega (arith, le, same)) ∙ is.beyond u (omega (arith, le));
  })
    where
      other : (u : ℕ) → (u ≡ unit → ⊥) → tally_at (set now unit x) u ≡ tally_at now u
      other u different = get_or-set_other now unit u x no_tally different

      old_is : t ≡ tally_at old unit
      old_is = read ∙ (get_or_default now unit t no_tally lt ∙ is.beyond unit (omega arith))

      at : tally_at (set now unit x) unit ≡ cond (has grid unit cycle) (with_cycle number cycle (tally_at old unit)) (tally_at old unit)
      at = get_or-set_same now unit x no_tally lt ∙ (made ∙ ap (λ (s : Tally). cond (has grid unit cycle) (with_cycle number cycle s) s) old_is)

  -- after the last unit, nothing is left
  pub step_end : (first unit end : ℕ) (old new : List Tally) → IsStepped grid number cycle first unit old new → length old ≤ unit → unit ≤ end → IsStepped grid number cycle first end old new
  step_end first unit end old new is past le = record {
    long = is.long;
    inside = λ u low less there. is.inside u low (omega (arith, there, past)) there;
    before = is.before;
    beyond = λ u low. is.beyond u (omega (arith, low, le));
  }

  pub step_join : (first mid end : ℕ) (old now new : List Tally) → first ≤ mid → mid ≤ end → IsStepped grid number cycle first mid old now → IsStepped grid number cycle mid end now new → IsStepped grid number cycle first end old new
  step_join first mid end old now new le more is then = record {
    long = then.long ∙ is.long;
    inside = λ u low less there. ⊎_elim
        (λ (early : u < mid). then.before u early ∙ is.inside u low early there)
        (λ (late : mid ≤ u). then.inside u late less (let long = is.long in omega (arith, there, long)) ∙ ap (λ (t : Tally). cond (has grid u cycle) (with_cycle number cycle t) t) (is.beyond u late))
        (cases_lt u mid);
    before = λ u less. then.before u (omega (arith, less, le)) ∙ is.before u less;
    beyond = λ u low. then.beyond u low ∙ is.beyond u (omega (arith, low, more));
  }

  -- no unit there is in the grid
  pub step_skip : (first end : ℕ) (old : List Tally) → ((u : ℕ) → first ≤ u → u < end → Holds grid u cycle → ⊥) → IsStepped grid number cycle first end old old
  step_skip first end old none = record {
    long = refl;
    inside = λ u le lt there. go u (has grid u cycle) (λ h. none u le lt (has_there grid u cycle h));
    before = λ u lt. refl;
    beyond = λ u le. refl;
  }
    where
      go : (u : ℕ) (b : Bool) → (b ≡ true → ⊥) → tally_at old u ≡ cond b (with_cycle number cycle (tally_at old u)) (tally_at old u)
      go u true none = absurd (none refl)
      go u false none = refl

  pub step_masked : (first row mask : ℕ) (old : List Tally) → ((u : ℕ) → Holds grid u cycle → HasUnit row u) → IsMask first mask → (b : Bool) → b ≡ false → (RowsMeet row mask → IsTrue b) → IsStepped grid number cycle first (first + 16) old old
  step_masked first row mask old holds is b none meets = apart_step (apart b none meets)
    where
      apart : (b : Bool) → b ≡ false → (RowsMeet row mask → IsTrue b) → RowsMeet row mask → ⊥
      apart true e meets m = absurd (cc)
      apart false e meets m = absurd (let is = to_true false (meets m) in cc)

      apart_step : (RowsMeet row mask → ⊥) → IsStepped grid number cycle first (first + 16) old old
      apart_step apart = step_skip first (first + 16) old (λ u le lt there. apart (u, holds u there, is u le lt))

-- ---- the cycles of a grid

-- With the cycles from one on, up to an end, units are reported all.
pub record IsPassing (grid : List (Pair ℕ)) (number cycle end : ℕ) (old now : List Tally) : Type 0 where
  pub long : length now ≡ length old
  pub each : (u : ℕ) → u < length old → with_cycles number (filter (has grid u) (range_with_len cycle (end - cycle))) (tally_at now u) ≡ with_cycles number (cycles_at u grid) (tally_at old u)

module _ (grid : List (Pair ℕ)) (number end : ℕ) (old : List Tally) where
  pub passing_start : IsGrid grid → ((u c : ℕ) → Holds grid u c → c < end) → IsPassing grid number 0 end old old
  passing_start is above = record { long = refl; each = λ u lt. ap (λ (cs : List ℕ). with_cycles number cs (tally_at old u)) (all_from grid u end is.ascending (above u)) }

  pub passing_more : (c : ℕ) (now new : List Tally) → length old ≤ 256 → c < end → IsPassing grid number c end old now → IsStepped grid number c 0 256 now new → IsPassing grid number (c + 1) end old new
  passing_more c now new few lt is step = record {
    long = step.long ∙ is.long;
    each = λ u less. let long = is.long in
        ap (with_cycles number (filter (has grid u) (range_with_len (c + 1) (end - (c + 1))))) (step.inside u (omega arith) (omega (arith, less, few)) (omega (arith, less, long)))
        ∙ (go u (has grid u c) (filter (has grid u) (range_with_len (c + 1) (end - (c + 1)))) ∙ (sym (ap (λ (cs : List ℕ). with_cycles number cs (tally_at now u)) (one_passed grid u c end lt)) ∙ is.each u less));
  }
    where
      go : (u : ℕ) (b : Bool) (cs : List ℕ) → with_cycles number cs (cond b (with_cycle number c (tally_at now u)) (tally_at now u)) ≡ with_cycles number (cond b (c ∷ cs) cs) (tally_at now u)
      go u true cs = refl
      go u false cs = refl

  pub passing_end : (c : ℕ) (new : List Tally) → end ≤ c → IsGrid grid → IsPassing grid number c end old new → IsAdded grid number old new
  passing_end c new le is all = record {
    long = all.long;
    each = λ u lt. sym (ap (λ (n : ℕ). with_cycles number (filter (has grid u) (range_with_len c n)) (tally_at new u)) none) ∙ all.each u lt;
    few = λ u. few_cycles grid u is;
  }
    where
      none : end - c ≡ 0
      none = omega (arith, le)

-- ---- the grids of a list

pub tallies_none : (old : List Tally) → AreNone old → AreTallies [] (length old) old
tallies_none old none = record {
  long = refl;
  each = λ u lt. subst (Says []) (sym (none.each u)) says_none;
  few = λ u lt. absurd (omega (arith, lt));
}

pub tallies_more : (list : List (List (Pair ℕ))) (i number : ℕ) (item : List (Pair ℕ)) (count : ℕ) (now new : List Tally) → i < length list → item ≡ get_or list i item → number ≡ i + 1 → AreTallies (take i list) count now → IsAdded item number now new → AreTallies (take (i + 1) list) count new
tallies_more list i number item count now new lt is next all added = record {
  long = added.long ∙ all.long;
  each = λ u less.
      let long = all.long in
      subst (Says (ways_in u (take (i + 1) list))) (sym (added.each u (omega (arith, less, long)) ∙ ap (λ (n : ℕ). with_cycles n (cycles_at u item) (tally_at now u)) (at u)))
      (subst (λ (ws : List (List ℕ)). Says ws (with_cycles (length (ways_in u (take i list)) + 1) (cycles_at u item) (tally_at now u))) (sym (parts u)) (says_more (ways_in u (take i list)) (cycles_at u item) (tally_at now u) (all.each u less)));
  few = λ u some. let few = added.few u in let same = ap (λ (ws : List (List ℕ)). top (map length ws)) (parts u) ∙ lengths_more (ways_in u (take i list)) (cycles_at u item) in omega (arith, few, same);
}
  where
    parts : (u : ℕ) → ways_in u (take (i + 1) list) ≡ ways_in u (take i list) ++ cycles_at u item ∷ []
    parts u = map_more (cycles_at u) list i item lt ∙ ap (λ (g : List (Pair ℕ)). ways_in u (take i list) ++ cycles_at u g ∷ []) (sym is)

    at : (u : ℕ) → number ≡ length (ways_in u (take i list)) + 1
    at u = let long = length-map (take i list) (cycles_at u) in let short = length-take-le i list (omega (arith, lt)) in omega (arith, next, long, short)

pub tallies_all : (list : List (List (Pair ℕ))) (i count : ℕ) (now : List Tally) → length list ≤ i → AreTallies (take i list) count now → AreTallies list count now
tallies_all list i count now le all = subst (λ (gs : List (List (Pair ℕ))). AreTallies gs count now) (take_all i list le) all
