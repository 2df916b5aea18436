-- The stretches of pairs are the pairs, and none could be longer.
use Rattle.std.proofs.Common.{◌≡◌, ℕ, zero, suc, ◌+◌, ◌-◌, ◌<◌, ◌≤◌, ⊎_elim, Bool, true, false, cond, List, [], ◌∷◌, Contains, refl, sym, ap, ◌∙◌, subst, arith}
use Rattle.std.specs.Prelude.{◌↔◌, ◌==◌, nat_lt}
use Rattle.std.proofs.lemmas.Bool.{both_ways, cases_lt, cases_Bool, and_parts, and_from, eqb-true, eq-eqb, lt-ltb}
use Rattle.hz_base_model.specs.Pairs.{Pair, same_pair}
use Rattle.hz_base_model.proofs.Elements.{Contains-nil, Contains-head, Contains-tail, Contains-cons_cases}
use Rattle.hz_pipeline_model.specs.Accepting.Plays.{Tells, has}
use Rattle.hz_pipeline_model.proofs.Accepting.PlayLaws.{has_decides}
use Rattle.hz_why_model.specs.Pictures.{cycles_in}
use Rattle.hz_why_model.specs.Takes.{Stretch, goes_on, continues, stretch_from, stretches_of, stretches, are_same}
use Rattle.hz_why_laws.specs.Stretched.{IsWithin, SomeHas}

-- each pair is before the end
before_end : {U : Type 0} (pairs : List (Pair U)) (p : Pair U) → Contains pairs p → p.cycle < cycles_in pairs
before_end [] p there = absurd (Contains-nil p there)
before_end (q ∷ pairs) p there = ⊎_elim
    (λ (here : q ≡ p). let same : q.cycle ≡ p.cycle = ap (λ (r : Pair _). r.cycle) here in omega arith)
    (λ (rest : Contains pairs p). let low = before_end pairs p rest in omega arith)
    (Contains-cons_cases q p pairs there)

module _ {U : Type 0} (same : U → U → Bool) (tells : Tells same) (pairs : List (Pair U)) where
  -- whether the unit is taken in the cycle
  abbrev taken : U → ℕ → Bool
  taken u cycle = has same pairs (record { unit = u; cycle = cycle })

  abbrev further : ℕ → U → ℕ → ℕ
  further most u cycle = goes_on same pairs most u cycle

  goes : (most : ℕ) (u : U) (cycle : ℕ) → taken u (suc cycle) ≡ true → further (suc most) u cycle ≡ suc (further most u (suc cycle))
  goes most u cycle is = ap (λ (b : Bool). cond b (suc (further most u (suc cycle))) 0) is

  halts : (most : ℕ) (u : U) (cycle : ℕ) → taken u (suc cycle) ≡ false → further (suc most) u cycle ≡ 0
  halts most u cycle is = ap (λ (b : Bool). cond b (suc (further most u (suc cycle))) 0) is

  -- all cycles up to the last are taken
  reached : (most : ℕ) (u : U) (cycle later : ℕ) → cycle < later → later ≤ cycle + further most u cycle → taken u later ≡ true
  reached zero u cycle later past within = absurd (omega arith)
  reached (suc most) u cycle later past within = ⊎_elim
      (λ (is : taken u (suc cycle) ≡ true).
      let on = goes most u cycle is in
      ⊎_elim
      (λ (beyond : suc cycle < later). reached most u (suc cycle) later beyond (omega (arith, on)))
      (λ (at : later ≤ suc cycle). let one : suc cycle ≡ later = omega arith in subst (λ (n : ℕ). taken u n ≡ true) one is)
      (cases_lt (suc cycle) later))
      (λ (is : taken u (suc cycle) ≡ false). let none = halts most u cycle is in absurd (omega (arith, none)))
      (cases_Bool (taken u (suc cycle)))

  -- it stops at a cycle that is not taken, if enough cycles are tried
  tried_all : (most : ℕ) (u : U) (cycle next : ℕ) → next ≡ suc (cycle + further most u cycle) → taken u next ≡ true → most ≤ further most u cycle
  tried_all zero u cycle next is held = omega arith
  tried_all (suc most) u cycle next is held = ⊎_elim
      (λ (on : taken u (suc cycle) ≡ true).
      let more = goes most u cycle on in
      let rest = tried_all most u (suc cycle) next (omega (arith, more)) held in
      omega (arith, more, rest))
      (λ (off : taken u (suc cycle) ≡ false).
      let none = halts most u cycle off in
      let one : next ≡ suc cycle = omega (arith, none) in
      absurd (both_ways (taken u (suc cycle)) off (subst (λ (n : ℕ). taken u n ≡ true) one held)))
      (cases_Bool (taken u (suc cycle)))

  is_taken : (u : U) (cycle : ℕ) → Contains pairs (record { unit = u; cycle = cycle }) → taken u cycle ≡ true
  is_taken u cycle there = (has_decides same tells pairs (record { unit = u; cycle = cycle })).1 there

  is_there : (u : U) (cycle : ℕ) → taken u cycle ≡ true → Contains pairs (record { unit = u; cycle = cycle })
  is_there u cycle held = (has_decides same tells pairs (record { unit = u; cycle = cycle })).0 held

  -- ---- where stretches come from

  -- the stretch begins with one of these pairs
  abbrev BeginsIn : List (Pair U) → Stretch U → Type 0
  BeginsIn ps s = (p : Pair U) × Contains ps p × (continues same pairs p ≡ false) × (stretch_from same pairs p ≡ s)

  skipped : (p : Pair U) (ps : List (Pair U)) → continues same pairs p ≡ true → stretches_of same pairs (p ∷ ps) ≡ stretches_of same pairs ps
  skipped p ps is = ap (λ (b : Bool). cond b (stretches_of same pairs ps) (stretch_from same pairs p ∷ stretches_of same pairs ps)) is

  begun : (p : Pair U) (ps : List (Pair U)) → continues same pairs p ≡ false → stretches_of same pairs (p ∷ ps) ≡ stretch_from same pairs p ∷ stretches_of same pairs ps
  begun p ps is = ap (λ (b : Bool). cond b (stretches_of same pairs ps) (stretch_from same pairs p ∷ stretches_of same pairs ps)) is

  moved : (p : Pair U) (ps : List (Pair U)) (s : Stretch U) → BeginsIn ps s → BeginsIn (p ∷ ps) s
  moved p ps s (q, is, off, from) = (q, Contains-tail p q ps is, off, from)

  come_from : (ps : List (Pair U)) (s : Stretch U) → Contains (stretches_of same pairs ps) s → BeginsIn ps s
  come_from [] s there = absurd (Contains-nil s there)
  come_from (p ∷ ps) s there = ⊎_elim
      (λ (on : continues same pairs p ≡ true). moved p ps s (come_from ps s (subst (λ (ss : List (Stretch U)). Contains ss s) (skipped p ps on) there)))
      (λ (off : continues same pairs p ≡ false). ⊎_elim
      (λ (here : stretch_from same pairs p ≡ s). (p, Contains-head p ps, off, here))
      (λ (rest : Contains (stretches_of same pairs ps) s). moved p ps s (come_from ps s rest))
      (Contains-cons_cases (stretch_from same pairs p) s (stretches_of same pairs ps) (subst (λ (ss : List (Stretch U)). Contains ss s) (begun p ps off) there)))
      (cases_Bool (continues same pairs p))

  begin_one : (ps : List (Pair U)) (p : Pair U) → Contains ps p → continues same pairs p ≡ false → Contains (stretches_of same pairs ps) (stretch_from same pairs p)
  begin_one [] p there off = absurd (Contains-nil p there)
  begin_one (q ∷ ps) p there off = ⊎_elim
      (λ (here : q ≡ p).
      let first : continues same pairs q ≡ false = subst (λ (r : Pair U). continues same pairs r ≡ false) (sym here) off in
      subst (λ (ss : List (Stretch U)). Contains ss (stretch_from same pairs p)) (sym (begun q ps first))
      (subst (λ (r : Pair U). Contains (stretch_from same pairs q ∷ stretches_of same pairs ps) (stretch_from same pairs r)) here (Contains-head (stretch_from same pairs q) (stretches_of same pairs ps))))
      (λ (rest : Contains ps p).
      let found = begin_one ps p rest off in
      ⊎_elim
      (λ (on : continues same pairs q ≡ true). subst (λ (ss : List (Stretch U)). Contains ss (stretch_from same pairs p)) (sym (skipped q ps on)) found)
      (λ (none : continues same pairs q ≡ false).
      subst (λ (ss : List (Stretch U)). Contains ss (stretch_from same pairs p)) (sym (begun q ps none))
      (Contains-tail (stretch_from same pairs q) (stretch_from same pairs p) (stretches_of same pairs ps) found))
      (cases_Bool (continues same pairs q)))
      (Contains-cons_cases q p ps there)

  -- ---- none could be longer

  ends_with : (p : Pair U) → Contains pairs (record { unit = p.unit; cycle = suc (p.cycle + further (cycles_in pairs) p.unit p.cycle) }) → ⊥
  ends_with p there =
      let next : ℕ = suc (p.cycle + further (cycles_in pairs) p.unit p.cycle) in
      let all = tried_all (cycles_in pairs) p.unit p.cycle (suc (p.cycle + further (cycles_in pairs) p.unit p.cycle)) refl (is_taken p.unit (suc (p.cycle + further (cycles_in pairs) p.unit p.cycle)) there) in
      let low = before_end pairs _ there in
      absurd (omega (arith, all, low))

  pub ends : (s : Stretch U) → Contains (stretches same pairs) s → Contains pairs (record { unit = s.unit; cycle = suc s.last }) → ⊥
  ends s there after =
      let (p, is, off, from) = come_from pairs s there in
      ends_with p (subst (λ (r : Stretch U). Contains pairs (record { unit = r.unit; cycle = suc r.last })) (sym from) after)

  continued : (p : Pair U) (cycle : ℕ) → suc cycle ≡ p.cycle → Contains pairs (record { unit = p.unit; cycle = cycle }) → continues same pairs p ≡ true
  continued p cycle next there =
      let before : cycle ≡ p.cycle - 1 = omega arith in
      and_from (nat_lt 0 p.cycle) (taken p.unit (p.cycle - 1)) (lt-ltb 0 p.cycle (omega arith)) (subst (λ (n : ℕ). taken p.unit n ≡ true) before (is_taken p.unit cycle there))

  pub begins : (s : Stretch U) → Contains (stretches same pairs) s → (cycle : ℕ) → suc cycle ≡ s.first → Contains pairs (record { unit = s.unit; cycle = cycle }) → ⊥
  begins s there cycle next before =
      let (p, is, off, from) = come_from pairs s there in
      let first : suc cycle ≡ p.cycle = next ∙ sym (ap (λ (r : Stretch U). r.first) from) in
      both_ways (continues same pairs p) off (continued p cycle first (subst (λ (r : Stretch U). Contains pairs (record { unit = r.unit; cycle = cycle })) (sym from) before))

  -- ---- the pairs

  in_pairs_from : (p : Pair U) → Contains pairs p → (u : U) (cycle : ℕ) → IsWithin (stretch_from same pairs p) u cycle → Contains pairs (record { unit = u; cycle = cycle })
  in_pairs_from p there u cycle (unit, low, high) = subst (λ (v : U). Contains pairs (record { unit = v; cycle = cycle })) unit (⊎_elim
      (λ (past : p.cycle < cycle). is_there p.unit cycle (reached (cycles_in pairs) p.unit p.cycle cycle past high))
      (λ (at : cycle ≤ p.cycle). let one : p.cycle ≡ cycle = omega arith in subst (λ (n : ℕ). Contains pairs (record { unit = p.unit; cycle = n })) one there)
      (cases_lt p.cycle cycle))

  in_pairs : (u : U) (cycle : ℕ) → SomeHas (stretches same pairs) u cycle → Contains pairs (record { unit = u; cycle = cycle })
  in_pairs u cycle (s, there, within) =
      let (p, is, off, from) = come_from pairs s there in
      in_pairs_from p is u cycle (subst (λ (r : Stretch U). IsWithin r u cycle) (sym from) within)

  begins_here : (u : U) (cycle : ℕ) → Contains pairs (record { unit = u; cycle = cycle }) → continues same pairs (record { unit = u; cycle = cycle }) ≡ false → SomeHas (stretches same pairs) u cycle
  begins_here u cycle there off = (stretch_from same pairs (record { unit = u; cycle = cycle }), begin_one pairs (record { unit = u; cycle = cycle }) there off, (refl, omega arith, omega arith))

  -- the stretch of the cycle before has this one, too
  one_more : (u : U) (cycle : ℕ) → Contains pairs (record { unit = u; cycle = suc cycle }) → SomeHas (stretches same pairs) u cycle → SomeHas (stretches same pairs) u (suc cycle)
  one_more u cycle there (s, is, (unit, low, high)) = ⊎_elim
      (λ (past : cycle < s.last). (s, is, (unit, omega arith, omega arith)))
      (λ (at : s.last ≤ cycle).
      let last : cycle ≡ s.last = omega arith in
      absurd (ends s is (subst (λ (n : ℕ). Contains pairs (record { unit = s.unit; cycle = suc n })) last (subst (λ (v : U). Contains pairs (record { unit = v; cycle = suc cycle })) (sym unit) there))))
      (cases_lt cycle s.last)

  in_stretch : (u : U) (cycle : ℕ) → Contains pairs (record { unit = u; cycle = cycle }) → SomeHas (stretches same pairs) u cycle
  in_stretch u zero there = begins_here u zero there refl
  in_stretch u (suc cycle) there = ⊎_elim
      (λ (on : continues same pairs (record { unit = u; cycle = suc cycle }) ≡ true). one_more u cycle there (in_stretch u cycle (is_there u cycle (
      let before : suc cycle - 1 ≡ cycle = omega arith in
      subst (λ (n : ℕ). taken u n ≡ true) before (and_parts (nat_lt 0 (suc cycle)) (taken u (suc cycle - 1)) on).1))))
      (λ (off : continues same pairs (record { unit = u; cycle = suc cycle }) ≡ false). begins_here u (suc cycle) there off)
      (cases_Bool (continues same pairs (record { unit = u; cycle = suc cycle })))

  pub stretched : (u : U) (cycle : ℕ) → SomeHas (stretches same pairs) u cycle ↔ Contains pairs (record { unit = u; cycle = cycle })
  stretched u cycle = (in_pairs u cycle, in_stretch u cycle)

-- ---- lists that are the same

module _ {U : Type 0} (same : U → U → Bool) (tells : Tells same) where
  alike : (p q : Pair U) → p.unit ≡ q.unit → p.cycle ≡ q.cycle → p ≡ q
  alike p q unit cycle =
      let make : U → ℕ → Pair U = λ u n. record { unit = u; cycle = n } in
      ap (λ (u : U). make u p.cycle) unit ∙ ap (make q.unit) cycle

  equal : (xs ys : List (Pair U)) → are_same same xs ys ≡ true → xs ≡ ys
  equal [] [] is = refl
  equal [] (y ∷ ys) is = absurd (cc)
  equal (x ∷ xs) [] is = absurd (cc)
  equal (x ∷ xs) (y ∷ ys) is =
      let both = and_parts (same_pair same x y) (are_same same xs ys) is in
      let parts = and_parts (same x.unit y.unit) (x.cycle == y.cycle) both.0 in
      let one : x ≡ y = alike x y ((tells x.unit y.unit).0 parts.0) (eqb-true x.cycle y.cycle parts.1) in
      ap (λ (p : Pair U). p ∷ xs) one ∙ ap (λ (ps : List (Pair U)). y ∷ ps) (equal xs ys both.1)

  itself : (xs : List (Pair U)) → are_same same xs xs ≡ true
  itself [] = refl
  itself (x ∷ xs) = and_from (same_pair same x x) (are_same same xs xs) (and_from (same x.unit x.unit) (x.cycle == x.cycle) ((tells x.unit x.unit).1 refl) (eq-eqb x.cycle x.cycle refl)) (itself xs)

  pub same_lists : (xs ys : List (Pair U)) → (are_same same xs ys ≡ true) ↔ (xs ≡ ys)
  same_lists xs ys = (equal xs ys, λ e. subst (λ (zs : List (Pair U)). are_same same xs zs ≡ true) e (itself xs))
