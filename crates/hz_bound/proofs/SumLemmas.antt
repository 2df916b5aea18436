-- What is reported class by class is the load.
use Rattle.std.proofs.Common.{◌≡◌, ℕ, zero, suc, zero-add, ◌+◌, ◌-◌, ◌*◌, ◌<◌, ◌≤◌, ◌==◌, ◌&&◌, ⊎_elim, Bool, true, false, cond, List, [], ◌∷◌, ◌++◌, map, length, Contains, Option, Some, None, refl, sym, ap, ◌∙◌, subst, arith}
use Rattle.std.specs.Prelude.{min, nat_lt, sum_by}
use Rattle.std.specs.List.{flat_map}
use Rattle.std.specs.Option.{option_map}
use Rattle.std.proofs.Math.Numerals.{add-one, one-add}
use Rattle.std.proofs.Math.Nat.{mul-zero, mul_comm, suc-mul}
use Rattle.std.proofs.lemmas.Bool.{ltb-true, ltb-false, lt-ltb, le-ltb, eqb-true, eqb-false, eq-eqb, cases_lt}
use Rattle.std.proofs.lemmas.List.{length-map}
use Rattle.std.proofs.lemmas.List.Sums.{sum_by-cons}
use Rattle.std.proofs.lemmas.List.Elements.{Contains-append_cases, Contains-append_left, Contains-append_right, filter-append}
use Rattle.std.proofs.lemmas.Grind.{flat_map-append}
use Rattle.hz_base_model.proofs.Elements.{Contains-nil, Contains-head, Contains-tail, Contains-cons_cases, Contains-from_filter, Contains-filter}
use Rattle.hz_measure_model.specs.Bounds.Paths.{greatest}
use Rattle.hz_measure_model.specs.Bounds.Loads.{least, ways_in, ways_by, force, users, cycles_of_users, count, span, asked_load, load_of}
use Rattle.hz_measure_model.specs.Bounds.Loads as model
use Rattle.hz_measure_model.proofs.Bounds.Numbers.{least_below}
use Rattle.hz_measure_model.proofs.Bounds.WayLaws.{SameItems, same_least, same_greatest}
use Rattle.hz_pipeline_model.proofs.Decidable.FlatLists.{in_flat_map, from_flat_map}
use Rattle.hz_base_model.specs.Pairs.{Pair}
use Rattle.hz_block_model.specs.Running.Limits.{instruction_limit}
use Rattle.hz_bound.specs.declared.cycles.Range.{Range}
use Rattle.hz_bound.specs.declared.tallies.Tally.{Tally}
use Rattle.hz_bound.specs.declared.loads.Total.{Total}
use Rattle.hz_bound.specs.declared.loads.Counted.{Counted}
use Rattle.hz_bound.specs.Ranges.{range_of, joined, all_cycles}
use Rattle.hz_bound.specs.Tallies.{tally_at, forced, AreTallies}
use Rattle.hz_bound.specs.Sums.{occurs, times_at, AreTimes, no_total, total_at, with_times, AreJoined, sum_of, present, IsTotal, load_by, shown}
use Rattle.hz_bound.proofs.CycleLemmas.{join_none, range_append}
use Rattle.hz_bound.proofs.TallyLemmas.{forced_is, least_is}

-- ---- how often a class is that of an instruction

pub occurs_append : (k : ℕ) (xs : List ℕ) (c : ℕ) → occurs k (xs ++ c ∷ []) ≡ occurs k xs + cond (c == k) 1 0
occurs_append k [] c = omega arith
occurs_append k (x ∷ xs) c = let rest = occurs_append k xs c in omega (arith, rest)

occurs_few : (k : ℕ) (xs : List ℕ) → occurs k xs ≤ length xs
occurs_few k [] = omega arith
occurs_few k (x ∷ xs) = go (x == k) (occurs_few k xs)
  where
    go : (b : Bool) → occurs k xs ≤ length xs → cond b 1 0 + occurs k xs ≤ length (x ∷ xs)
    go true le = omega (arith, le)
    go false le = omega (arith, le)

occurs_some : (k : ℕ) (xs : List ℕ) → Contains xs k → 0 < occurs k xs
occurs_some k [] there = absurd (Contains-nil k there)
occurs_some k (x ∷ xs) there = ⊎_elim
    (λ (same : x ≡ k). let e = ap {B = ℕ} (λ (b : Bool). cond b 1 0) (eq-eqb x k same) in omega (arith, e))
    (λ (later : Contains xs k). let rest = occurs_some k xs later in omega (arith, rest))
    (Contains-cons_cases x k xs there)

occurs_held : (k : ℕ) (xs : List ℕ) → 0 < occurs k xs → Contains xs k
occurs_held k [] lt = absurd (omega (arith, lt))
occurs_held k (x ∷ xs) lt = go (x == k) refl lt (occurs_held k xs)
  where
    go : (b : Bool) → (x == k) ≡ b → 0 < cond b 1 0 + occurs k xs → (0 < occurs k xs → Contains xs k) → Contains (x ∷ xs) k
    go true e lt later = subst (Contains (x ∷ xs)) (eqb-true x k e) (Contains-head x xs)
    go false e lt later = Contains-tail x k xs (later (omega (arith, lt)))

-- ---- one class more

-- the total is as it was if no instruction has the class
pub with_none : (least : ℕ) (range : Option Range) (t : Total) → with_times 0 least range t ≡ t
with_none least range t = refl

pub joined_none : (list : List (List (Pair ℕ))) (times : ℕ) (old : List Total) → times ≡ 0 → AreJoined list times old old
joined_none list times old none = record {
  long = refl;
  each = λ u lt. sym (ap (λ (n : ℕ). with_times n (least (map length (ways_in u list))) (range_of (all_cycles (ways_in u list))) (total_at old u)) none);
  few = λ u lt some. absurd (omega (arith, some, none));
}

pub joined_is : (list : List (List (Pair ℕ))) (times n count : ℕ) (tallies view : List Tally) (old new : List Total) → AreTallies list count tallies → count ≡ length old → n ≡ length list → view ≡ tallies → length new ≡ length old
    → ((u : ℕ) → u < length old → total_at new u ≡ with_times times (forced n (tally_at view u)) (tally_at view u).range (total_at old u)) → AreJoined list times old new
joined_is list times n count tallies view old new are many length_is seen long each = record {
  long = long;
  each = λ u lt. each u lt ∙ (ap (λ (k : ℕ). with_times times k (tally_at view u).range (total_at old u)) (force_is u lt) ∙ ap (λ (o : Option Range). with_times times (least (map length (ways_in u list))) o (total_at old u)) (range_is u lt));
  few = λ u lt there. ⊎_elim
      (λ (some : 0 < length list). let few = are.few u some in let same = least_is (map length (ways_in u list)) (omega (arith, some, length-map (ways_in u list) length, length-map list (model.cycles_at u))) few in omega (arith, few, same))
      (λ (none : length list ≤ 0). no_way u list (omega (arith, none)))
      (cases_lt 0 (length list));
}
  where
    no_way : (u : ℕ) (gs : List (List (Pair ℕ))) → length gs ≡ 0 → least (map length (ways_in u gs)) ≤ 512
    no_way u [] e = omega arith
    no_way u (g ∷ gs) e = absurd (omega (arith, e))

    range_is : (u : ℕ) → u < length old → (tally_at view u).range ≡ range_of (all_cycles (ways_in u list))
    range_is u lt = ap (λ (ts : List Tally). (tally_at ts u).range) seen ∙ (are.each u (omega (arith, lt, many))).range

    force_is : (u : ℕ) → u < length old → forced n (tally_at view u) ≡ least (map length (ways_in u list))
    force_is u lt =
        let long = length-map list (model.cycles_at u) in
        ap (λ (ts : List Tally). forced n (tally_at ts u)) seen
        ∙ (ap (λ (k : ℕ). forced k (tally_at tallies u)) (length_is ∙ sym long)
        ∙ forced_is (ways_in u list) (tally_at tallies u) (are.each u (omega (arith, lt, many))) (λ some. are.few u (omega (arith, some, long))))

module _ (ways : ℕ → List (List ℕ)) (times : List ℕ) where
  pub total_none : IsTotal ways times 0 no_total
  total_none = record { count = refl; range = refl; few = λ k lt. absurd (omega (arith, lt)) }

  sat : (s x c : ℕ) → c ≡ min s 4294967295 → min (c + min x 4294967295) 4294967295 ≡ min (s + x) 4294967295
  sat s x c e = omega (arith, e)

  alone : (n : ℕ) → cycles_of_users ways (n ∷ []) ≡ cond (nat_lt 0 (force ways n)) (all_cycles (ways n) ++ []) []
  alone n = go (nat_lt 0 (force ways n))
    where
      go : (b : Bool) → flat_map (λ k. all_cycles (ways k)) (cond b (n ∷ []) []) ≡ cond b (all_cycles (ways n) ++ []) []
      go true = refl
      go false = refl

  users_append : (xs ys : List ℕ) → range_of (cycles_of_users ways (xs ++ ys)) ≡ joined (range_of (cycles_of_users ways xs)) (range_of (cycles_of_users ways ys))
  users_append xs ys =
      ap (λ (ks : List ℕ). range_of (flat_map (λ k. all_cycles (ways k)) ks)) (filter-append (λ k. nat_lt 0 (force ways k)) xs ys)
      ∙ (ap range_of (flat_map-append (λ k. all_cycles (ways k)) (users ways xs) (users ways ys)) ∙ range_append (cycles_of_users ways xs) (cycles_of_users ways ys))

  more : (n : ℕ) (t new : Total) → IsTotal ways times n t → new ≡ with_times (times_at times n) (force ways n) (range_of (all_cycles (ways n))) t → (0 < times_at times n → force ways n ≤ 512) → IsTotal ways times (suc n) new
  more n t new is made low = record {
    count = ap (λ (t : Total). t.count) made ∙ counts (nat_lt 0 (times_at times n)) refl (nat_lt 0 (force ways n)) refl;
    range = ap (λ (t : Total). t.range) made ∙ (ranges (nat_lt 0 (times_at times n)) (nat_lt 0 (force ways n)) refl ∙ sym (users_append (present times n) (cond (nat_lt 0 (times_at times n)) (n ∷ []) [])));
    few = λ k lt some. ⊎_elim (λ (less : k < n). is.few k less some) (λ (le : n ≤ k). let same : n ≡ k = omega (arith, lt, le) in subst (λ (j : ℕ). force ways j ≤ 512) same (low (subst (λ (j : ℕ). 0 < times_at times j) (sym same) some))) (cases_lt k n);
  }
    where
      reported : Total
      reported = record { count = min (t.count + min (times_at times n * force ways n) 4294967295) 4294967295; range = joined t.range (range_of (all_cycles (ways n))) }

      not_reported : (x : ℕ) → x ≡ 0 → t.count ≡ min (sum_of ways times n + x) 4294967295
      not_reported x e = let is = is.count in omega (arith, is, e)

      counts : (a : Bool) → nat_lt 0 (times_at times n) ≡ a → (b : Bool) → nat_lt 0 (force ways n) ≡ b → (cond (a && b) reported t).count ≡ min (sum_of ways times n + times_at times n * force ways n) 4294967295
      counts true e true f = sat (sum_of ways times n) (times_at times n * force ways n) t.count is.count
      counts true e false f = not_reported (times_at times n * force ways n) (let none : force ways n ≡ 0 = (let le = ltb-false 0 (force ways n) f in omega (arith, le)) in ap (λ (k : ℕ). times_at times n * k) none ∙ mul-zero (times_at times n))
      counts false e b f = not_reported (times_at times n * force ways n) (let none : times_at times n ≡ 0 = (let le = ltb-false 0 (times_at times n) e in omega (arith, le)) in ap (λ (k : ℕ). k * force ways n) none ∙ (mul_comm 0 (force ways n) ∙ mul-zero (force ways n)))

      ranges : (a b : Bool) → nat_lt 0 (force ways n) ≡ b → (cond (a && b) reported t).range ≡ joined (range_of (cycles_of_users ways (present times n))) (range_of (cycles_of_users ways (cond a (n ∷ []) [])))
      ranges true b f = here b (alone n ∙ ap (λ (b : Bool). cond b (all_cycles (ways n) ++ []) []) f)
        where
          here : (b : Bool) → cycles_of_users ways (n ∷ []) ≡ cond b (all_cycles (ways n) ++ []) [] → (cond b reported t).range ≡ joined (range_of (cycles_of_users ways (present times n))) (range_of (cycles_of_users ways (n ∷ [])))
          here true e = ap (λ (o : Option Range). joined o (range_of (all_cycles (ways n)))) is.range ∙ ap (joined (range_of (cycles_of_users ways (present times n)))) (sym (ap range_of e ∙ (range_append (all_cycles (ways n)) [] ∙ join_none (range_of (all_cycles (ways n))))))
          here false e = is.range ∙ (sym (join_none (range_of (cycles_of_users ways (present times n)))) ∙ ap (λ (cs : List ℕ). joined (range_of (cycles_of_users ways (present times n))) (range_of cs)) (sym e))
      ranges false b f = is.range ∙ sym (join_none (range_of (cycles_of_users ways (present times n))))

  pub total_more : (n : ℕ) (t new : Total) → IsTotal ways times n t → new ≡ with_times (times_at times n) (force ways n) (range_of (all_cycles (ways n))) t → (0 < times_at times n → force ways n ≤ 512) → IsTotal ways times (n + 1) new
  total_more n t new is made low = subst (λ (k : ℕ). IsTotal ways times k new) (sym (add-one n)) (more n t new is made low)

  -- ---- all classes

  in_present : (n k : ℕ) → k < n → 0 < times_at times k → Contains (present times n) k
  in_present zero k lt some = absurd (omega (arith, lt))
  in_present (suc n) k lt some = ⊎_elim
      (λ (less : k < n). Contains-append_left (present times n) (cond (nat_lt 0 (times_at times n)) (n ∷ []) []) k (in_present n k less some))
      (λ (le : n ≤ k). let same : n ≡ k = omega (arith, lt, le) in Contains-append_right (present times n) (cond (nat_lt 0 (times_at times n)) (n ∷ []) []) k
      (subst (λ (b : Bool). Contains (cond b (n ∷ []) []) k) (sym (lt-ltb 0 (times_at times n) (subst (λ (j : ℕ). 0 < times_at times j) (sym same) some))) (subst (Contains (n ∷ [])) same (Contains-head n []))))
      (cases_lt k n)

  from_present : (n k : ℕ) → Contains (present times n) k → (k < n) × (0 < times_at times k)
  from_present zero k there = absurd (Contains-nil k there)
  from_present (suc n) k there = ⊎_elim
      (λ (early : Contains (present times n) k). let (lt, some) = from_present n k early in (omega (arith, lt), some))
      (λ (late : Contains (cond (nat_lt 0 (times_at times n)) (n ∷ []) []) k). go (nat_lt 0 (times_at times n)) refl late)
      (Contains-append_cases (present times n) (cond (nat_lt 0 (times_at times n)) (n ∷ []) []) k there)
    where
      go : (b : Bool) → nat_lt 0 (times_at times n) ≡ b → Contains (cond b (n ∷ []) []) k → (k < suc n) × (0 < times_at times k)
      go true e late = ⊎_elim (λ (same : n ≡ k). (omega (arith, same), subst (λ (j : ℕ). 0 < times_at times j) same (ltb-true 0 (times_at times n) e))) (λ (none : Contains [] k). absurd (Contains-nil k none)) (Contains-cons_cases n k [] late)
      go false e late = absurd (Contains-nil k late)

-- ---- sums over classes

-- each class as often as it occurs
abbrev occur_sum : (ℕ → ℕ) → List ℕ → ℕ → ℕ
occur_sum f classes zero = 0
occur_sum f classes (suc n) = occur_sum f classes n + occurs n classes * f n

abbrev plain_sum : (ℕ → ℕ) → List ℕ → ℕ
plain_sum f [] = 0
plain_sum f (k ∷ ks) = f k + plain_sum f ks

occur_none : (f : ℕ → ℕ) (n : ℕ) → occur_sum f [] n ≡ 0
occur_none f zero = refl
occur_none f (suc n) = let rest = occur_none f n in let none = mul_comm 0 (f n) ∙ mul-zero (f n) in omega (arith, rest, none)

occur_cons : (f : ℕ → ℕ) (c : ℕ) (classes : List ℕ) (n : ℕ) → occur_sum f (c ∷ classes) n ≡ occur_sum f classes n + cond (nat_lt c n) (f c) 0
occur_cons f c classes zero = let none = ap {B = ℕ} (λ (b : Bool). cond b (f c) 0) (le-ltb c 0 (omega arith)) in omega (arith, none)
occur_cons f c classes (suc n) = go (c == n) refl (occur_cons f c classes n)
  where
    below : (b : Bool) → nat_lt c n ≡ b → (c ≡ n → ⊥) → cond (nat_lt c (suc n)) (f c) 0 ≡ cond b (f c) 0
    below true e different = ap (λ (b : Bool). cond b (f c) 0) (lt-ltb c (suc n) (let lt = ltb-true c n e in omega (arith, lt)))
    below false e different = ap (λ (b : Bool). cond b (f c) 0) (above (nat_lt c (suc n)) refl)
      where
        above : (b : Bool) → nat_lt c (suc n) ≡ b → b ≡ false
        above true h = absurd (different (let lt = ltb-true c (suc n) h in let le = ltb-false c n e in omega (arith, lt, le)))
        above false h = refl

    none : (b : Bool) → nat_lt c n ≡ b → c ≡ n → cond b (f c) 0 ≡ 0
    none true e same = absurd (let lt = ltb-true c n e in omega (arith, lt, same))
    none false e same = refl

    go : (b : Bool) → (c == n) ≡ b → occur_sum f (c ∷ classes) n ≡ occur_sum f classes n + cond (nat_lt c n) (f c) 0
        → occur_sum f (c ∷ classes) n + (cond b 1 0 + occurs n classes) * f n ≡ occur_sum f classes n + occurs n classes * f n + cond (nat_lt c (suc n)) (f c) 0
    go true e rest =
        let same = eqb-true c n e in
        let nought = none (nat_lt c n) refl same in
        let here = ap (λ (b : Bool). cond b (f c) 0) (lt-ltb c (suc n) (omega (arith, same))) in
        let at = ap f same in
        once (occur_sum f (c ∷ classes) n) (occur_sum f classes n) (cond (nat_lt c n) (f c) 0) (f n) (occurs n classes) (f c) (cond (nat_lt c (suc n)) (f c) 0) rest nought here at
      where
        once : (a b z y o x w : ℕ) → a ≡ b + z → z ≡ 0 → w ≡ x → x ≡ y → a + (1 + o) * y ≡ b + o * y + w
        once a b z y o x w p q r s = let step : (1 + o) * y ≡ o * y + y = ap (λ (k : ℕ). k * y) (one-add o) ∙ suc-mul o y in omega (arith, p, q, r, s, step)
    go false e rest =
        let same = below (nat_lt c n) refl (eqb-false c n e) in
        ap (λ (o : ℕ). occur_sum f (c ∷ classes) n + o * f n) (zero-add (occurs n classes))
        ∙ plain (occur_sum f (c ∷ classes) n) (occur_sum f classes n) (cond (nat_lt c n) (f c) 0) (cond (nat_lt c (suc n)) (f c) 0) (occurs n classes * f n) rest same
      where
        plain : (a b z w x : ℕ) → a ≡ b + z → w ≡ z → a + x ≡ b + x + w
        plain a b z w x p q = omega (arith, p, q)

occur_is : (f : ℕ → ℕ) (n : ℕ) (classes : List ℕ) → ((k : ℕ) → Contains classes k → k < n) → occur_sum f classes n ≡ plain_sum f classes
occur_is f n [] below = occur_none f n
occur_is f n (c ∷ classes) below =
    let rest = occur_is f n classes (λ k there. below k (Contains-tail c k classes there)) in
    let here = ap (λ (b : Bool). cond b (f c) 0) (lt-ltb c n (below c (Contains-head c classes))) in
    let parts = occur_cons f c classes n in
    omega (arith, rest, here, parts)

plain_few : (f : ℕ → ℕ) (classes : List ℕ) → ((k : ℕ) → Contains classes k → f k ≤ 512) → plain_sum f classes ≤ 512 * length classes
plain_few f [] few = omega arith
plain_few f (k ∷ ks) few =
    let rest = plain_few f ks (λ j there. few j (Contains-tail k j ks there)) in
    let here = few k (Contains-head k ks) in
    omega (arith, rest, here)

module _ (ways : ℕ → List (List ℕ)) where
  count_is : (ks : List ℕ) → count ways ks ≡ plain_sum (force ways) ks
  count_is [] = refl
  count_is (k ∷ ks) = go (nat_lt 0 (force ways k)) refl (count_is ks)
    where
      go : (b : Bool) → nat_lt 0 (force ways k) ≡ b → count ways ks ≡ plain_sum (force ways) ks → sum_by (force ways) (cond b (k ∷ users ways ks) (users ways ks)) ≡ force ways k + plain_sum (force ways) ks
      go true e rest = omega (arith, rest, sum_by-cons (force ways) k (users ways ks))
      go false e rest = omega (arith, rest, ltb-false 0 (force ways k) e)

  -- ---- the load

  some_cycle : (w : List ℕ) → 0 < length w → (c : ℕ) × Contains w c
  some_cycle [] lt = absurd (omega (arith, lt))
  some_cycle (c ∷ w) lt = (c, Contains-head c w)

  some_way : (ws : List (List ℕ)) → 0 < least (map length ws) → (w : List ℕ) × Contains ws w × (0 < length w)
  some_way [] lt = absurd (omega (arith, lt))
  some_way (w ∷ ws) lt = let low = least_below (map length (w ∷ ws)) (length w) (Contains-head (length w) (map length ws)) in (w, Contains-head w ws, omega (arith, low, lt))

  -- users have cycles
  user_cycle : (classes : List ℕ) (k : ℕ) → Contains (users ways classes) k → (c : ℕ) × Contains (cycles_of_users ways classes) c
  user_cycle classes k there =
      let (_, passes) = Contains-from_filter (λ (k : ℕ). nat_lt 0 (force ways k)) k classes there in
      let (w, held, some) = some_way (ways k) (ltb-true 0 (force ways k) passes) in
      let (c, is) = some_cycle w some in
      (c, in_flat_map (λ (k : ℕ). all_cycles (ways k)) (users ways classes) k c there (in_flat_map (λ (cs : List ℕ). cs) (ways k) w c held is))

  abbrev made : ℕ → Range → Counted
  made n r = record { count = n; span = r.last - r.first; value = n - 1 - (r.last - r.first) }

  no_cycle : (c : ℕ) (cs : List ℕ) → [] ≡ c ∷ cs → ⊥
  no_cycle c cs e = cc

  finish : (classes us cs : List ℕ) (n : ℕ) → users ways classes ≡ us → cycles_of_users ways classes ≡ cs → n ≡ count ways classes → option_map shown (option_map (made n) (range_of cs)) ≡ load_of ways classes
  finish classes [] [] n e f g = sym (ap (λ (us : List ℕ). cond (nat_lt 0 (length us)) (Some (asked_load ways classes)) None) e)
  finish classes [] (c ∷ cs) n e f g = absurd (no_cycle c cs (sym (ap (λ (us : List ℕ). flat_map (λ (k : ℕ). all_cycles (ways k)) us) e) ∙ f))
  finish classes (k ∷ us) [] n e f g =
      let (c, is) = user_cycle classes k (subst (λ (ks : List ℕ). Contains ks k) (sym e) (Contains-head k us)) in
      absurd (Contains-nil c (subst (λ (cs : List ℕ). Contains cs c) f is))
  finish classes (k ∷ us) (c ∷ cs) n e f g =
      let low = ap least f in
      let high = ap greatest f in
      let long : greatest (c ∷ cs) - least (c ∷ cs) ≡ span ways classes = omega (arith, low, high) in
      let same : shown (made n (record { first = least (c ∷ cs); last = greatest (c ∷ cs) })) ≡ asked_load ways classes = λ i. record { count = g i; span = long i; value = g i - 1 - long i } in
      ap (λ (l : model.Load). Some l) same ∙ sym (ap (λ (b : Bool). cond b (Some (asked_load ways classes)) None) (ap (λ (us : List ℕ). nat_lt 0 (length us)) e ∙ lt-ltb 0 (length (k ∷ us)) (omega arith)))

  -- cycles that are the same have one range
  same_range : (cs ds : List ℕ) → SameItems cs ds → range_of cs ≡ range_of ds
  same_range [] [] same = refl
  same_range [] (d ∷ ds) same = absurd (Contains-nil d (same.back d (Contains-head d ds)))
  same_range (c ∷ cs) [] same = absurd (Contains-nil c (same.there c (Contains-head c cs)))
  same_range (c ∷ cs) (d ∷ ds) same = λ i. Some (record { first = same_least (c ∷ cs) (d ∷ ds) same i; last = same_greatest (c ∷ cs) (d ∷ ds) same i })

  same_users : (xs ys : List ℕ) → ((k : ℕ) → Contains xs k → Contains ys k) → (c : ℕ) → Contains (cycles_of_users ways xs) c → Contains (cycles_of_users ways ys) c
  same_users xs ys there c is =
      let (k, held, at) = from_flat_map (λ k. all_cycles (ways k)) (users ways xs) c is in
      let (inside, passes) = Contains-from_filter (λ (k : ℕ). nat_lt 0 (force ways k)) k xs held in
      in_flat_map (λ k. all_cycles (ways k)) (users ways ys) k c (Contains-filter (λ (k : ℕ). nat_lt 0 (force ways k)) k passes ys (there k inside)) at

  module _ (times classes : List ℕ) (n : ℕ) (are : AreTimes classes n times) (below : (k : ℕ) → Contains classes k → k < n) (few : length classes ≤ instruction_limit) where
    exact : (k : ℕ) → k < n → times_at times k ≡ occurs k classes
    exact k lt = let is = are.each k lt in let low = occurs_few k classes in omega (arith, is, low, few)

    sum_exact : (i : ℕ) → i ≤ n → sum_of ways times i ≡ occur_sum (force ways) classes i
    sum_exact zero le = refl
    sum_exact (suc i) le = ap (λ (s : ℕ). s + times_at times i * force ways i) (sum_exact i (omega (arith, le))) ∙ ap (λ (t : ℕ). occur_sum (force ways) classes i + t * force ways i) (exact i (omega (arith, le)))

    same_cycles : SameItems (cycles_of_users ways (present times n)) (cycles_of_users ways classes)
    same_cycles = record {
      there = same_users (present times n) classes (λ k there. let (lt, some) = from_present ways times n k there in occurs_held k classes (let is = exact k lt in omega (arith, is, some)));
      back = same_users classes (present times n) (λ k there. in_present ways times n k (below k there) (let is = exact k (below k there) in let some = occurs_some k classes there in omega (arith, is, some)));
    }

    pub total_load : (t : Total) → IsTotal ways times n t → option_map shown (load_by t) ≡ load_of ways classes
    total_load t is =
        ap (λ (o : Option Range). option_map shown (option_map (made t.count) o)) (is.range ∙ same_range (cycles_of_users ways (present times n)) (cycles_of_users ways classes) same_cycles)
        ∙ finish classes (users ways classes) (cycles_of_users ways classes) t.count refl refl counted
      where
        counted : t.count ≡ count ways classes
        counted =
            let all = sum_exact n (omega arith) ∙ occur_is (force ways) n classes below in
            let low = plain_few (force ways) classes (λ k there. is.few k (below k there) (let e = exact k (below k there) in let some = occurs_some k classes there in omega (arith, e, some))) in
            let is = is.count in
            let same = count_is classes in
            omega (arith, all, low, is, same, few)
