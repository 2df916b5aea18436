-- What fits in each automaton fits the pipeline, and what is done to grids is done to what stands reserved.
use Rattle.std.proofs.Common.{◌≡◌, ℕ, zero, suc, ◌+◌, ◌<◌, inl, inr, ⊎_elim, List, [], ◌++◌, length, replicate, Contains, Option, Some, None, refl, sym, subst, arith}
use Rattle.std.specs.Prelude.{◌↔◌}
use Rattle.std.proofs.lemmas.List.{append-nil}
use Rattle.std.proofs.lemmas.List.Elements.{Contains-append_left, Contains-append_right, Contains-append_cases}
use Rattle.hz_base_model.specs.Pairs.{Pair, SamePairs, later, placed}
use Rattle.hz_base_model.proofs.Elements.{Contains-nil, Contains-from_map}
use Rattle.hz_description_model.specs.Reservations.Automata.{UnitPlace, cut}
use Rattle.hz_description_model.specs.Reservations.Sets.{Statement, Holds, Fits}
use Rattle.hz_description_model.proofs.Reservations.FitLaws.{holds_moved, some_with, pattern_with}
use Rattle.hz_pipeline_model.specs.Accepting.Fitting.{IsFuture, IsUnbroken}
use Rattle.hz_pipeline_model.specs.Accepting.Replay.{Pipeline, State, start, chosen, FitsAt, MayTake}
use Rattle.hz_pipeline_model.specs.Pipelines.Factored.{state_in}
use Rattle.hz_pipeline_model.proofs.Accepting.FittingLaws.{allows_unadded, fits_listed, future_fits, unbroken_added, unbroken_empty}
use Rattle.hz_pipeline_model.proofs.Accepting.InsideFits.{IsSeen, seen_cut, fits_inside, allowed_outside, apart_outside}
use Rattle.hz_grid.specs.Grids.{IsUnion}
use Rattle.hz_reasons.specs.Calendars.{at, AllFit, AreUnbroken, IsFirstOf, AreApart, AreUnited, AreLaterBy, parts_at}
use Rattle.hz_reasons.specs.Plans.{in_automaton, choices_at, part_at, statements_inside, IsPlanOf, Stands, after_issue}
use Rattle.hz_reasons.specs.declared.plan.Choice.{Choice}
use Rattle.hz_reasons.specs.declared.plan.Plan.{Plan}

-- ---- no exclusion is broken exactly where nothing that is added fits

module _ {U : Type 0} (statements : List (Statement U)) (source : List (Pair U)) (now : ℕ) where
  nothing_fits : IsUnbroken statements source → Fits statements source [] now
  nothing_fits unbroken = record {
    apart = λ p x y. Contains-nil p y;
    allowed = λ s is cycle. allows_unadded s _ _ _ (λ u h. Contains-nil _ h)
        (λ u h. ⊎_elim (λ l. l) (λ r. absurd (Contains-nil _ r)) (Contains-append_cases source [] _ h))
        (λ e. unbroken.excluded s is e cycle);
  }

  unbroken_where : Fits statements source [] now → IsUnbroken statements source
  unbroken_where fits = subst (λ (pairs : List (Pair U)). IsUnbroken statements pairs) (append-nil source) (unbroken_added statements source [] now fits)

module _ (m : Pipeline UnitPlace) (plan : Plan) (is : IsPlanOf m plan) (grids : List (List (Pair ℕ))) (each : length grids ≡ length plan.rules.items) (s : State UnitPlace) (stands : Stands m grids s) where
  abbrev rules : List (List (Statement ℕ))
  rules = plan.rules.items

  -- ---- in one automaton

  module _ (a : ℕ) (low : a < length plan.rules.items) where
    seen_nothing : IsSeen a [] []
    seen_nothing = record { same = λ p. (λ h. absurd (Contains-nil p h), λ h. absurd (Contains-nil _ h)) }

    unbroken_in : IsUnbroken (statements_inside m a) (cut a s.reserved)
    unbroken_in = unbroken_where (statements_inside m a) (cut a s.reserved) s.now
        (fits_inside a m.statements s.reserved [] (cut a s.reserved) [] s.now (seen_cut a s.reserved) seen_nothing (nothing_fits m.statements s.reserved s.now stands.unbroken))

    future_in : IsFuture (at grids a) (state_in a s)
    future_in = record {
      pairs = λ unit cycle.
          let there = stands.future a unit cycle (omega arith) in
          let seen = (seen_cut a s.reserved).same (record { unit = unit; cycle = s.now + cycle }) in
          (λ h. seen.1 (there.0 h), λ h. there.1 (seen.0 h));
    }

    -- by the rules of the plan, from the present cycle on, and by the statements, from the start
    by_rules : (part : List (Pair ℕ)) → Fits (at plan.rules.items a) (at grids a) part 0 ↔ Fits (statements_inside m a) (cut a s.reserved) part s.now
    by_rules part =
        let same = is.asks a low (at grids a) part 0 in
        let future = future_fits (statements_inside m a) (at grids a) part (state_in a s) future_in unbroken_in in
        (λ h. future.0 (same.0 h), λ h. same.1 (future.1 h))

    pub unbroken_by_rules : IsUnbroken (at plan.rules.items a) (at grids a)
    unbroken_by_rules =
        let fits = nothing_fits (statements_inside m a) (cut a s.reserved) s.now unbroken_in in
        unbroken_where (at plan.rules.items a) (at grids a) 0 ((by_rules []).1 fits)

  -- ---- in all of them

  module _ (k i : ℕ) (lt : i < length (choices_at plan k)) where
    seen_part : (a : ℕ) → a < length plan.rules.items → IsSeen a (chosen m k i) (part_at plan k i a)
    seen_part a low = record { same = λ p. is.parts k i a p.unit p.cycle lt low }

    fits_together : AllFit plan.rules.items grids (parts_at (choices_at plan k) i) → Fits m.statements s.reserved (chosen m k i) s.now
    fits_together all = record {
      apart = λ p x y.
          let found = Contains-from_map (later s.now) (chosen m k i) p y in
          let low = subst (λ (q : Pair UnitPlace). q.unit.automaton < length plan.rules.items) found.2 (is.pairs k i found.0 found.1) in
          let a = p.unit.automaton in
          apart_outside a m.statements s.reserved (chosen m k i) (cut a s.reserved) (part_at plan k i a) s.now (seen_cut a s.reserved) (seen_part a low) ((by_rules a low (part_at plan k i a)).0 (all a low)) p refl x y;
      allowed = λ t there cycle.
          let found = is.statements t there in
          let a = found.0 in
          let low = found.1 in
          allowed_outside a m.statements s.reserved (chosen m k i) (cut a s.reserved) (part_at plan k i a) s.now (seen_cut a s.reserved) (seen_part a low) ((by_rules a low (part_at plan k i a)).0 (all a low)) t there found.2 cycle;
    }

    fits_apart : Fits m.statements s.reserved (chosen m k i) s.now → AllFit plan.rules.items grids (parts_at (choices_at plan k) i)
    fits_apart fits = λ a low.
        (by_rules a low (part_at plan k i a)).1
        (fits_inside a m.statements s.reserved (chosen m k i) (cut a s.reserved) (part_at plan k i a) s.now (seen_cut a s.reserved) (seen_part a low) fits)

    fits_of : AllFit plan.rules.items grids (parts_at (choices_at plan k) i) → FitsAt m s k i
    fits_of all = let count = is.numbers k in (omega arith, fits_together all)

    all_of : FitsAt m s k i → AllFit plan.rules.items grids (parts_at (choices_at plan k) i)
    all_of fits = fits_apart fits.1

  -- what fits in each automaton is an alternative that fits
  pub fits_means : (k i : ℕ) → i < length (choices_at plan k) → AllFit plan.rules.items grids (parts_at (choices_at plan k) i) ↔ FitsAt m s k i
  fits_means k i lt = (fits_of k i lt, all_of k i lt)

  within_choices : (k i : ℕ) → FitsAt m s k i → i < length (choices_at plan k)
  within_choices k i fits = let count = is.numbers k in let lt = fits.0 in omega arith

  pub none_means : (k : ℕ) → IsFirstOf plan.rules.items grids (choices_at plan k) None → (i : ℕ) → FitsAt m s k i → ⊥
  none_means k none i fits = let lt = within_choices k i fits in none i lt (all_of k i lt fits)

  pub first_means : (k i : ℕ) → IsFirstOf plan.rules.items grids (choices_at plan k) (Some i) → MayTake m s k i
  first_means k i (lt, fits, first) = record {
    fits = fits_of k i lt fits;
    first = λ t j low there. first j low (all_of k j (omega arith) there);
  }

  -- ---- what is reserved

  pub stands_after_issue : (k i : ℕ) (new : List (List (Pair ℕ))) → i < length (choices_at plan k) → FitsAt m s k i → length new ≡ length grids → AreUnited grids (parts_at (choices_at plan k) i) new → Stands m new (after_issue m s k i)
  stands_after_issue k i new lt fits length_new united = record {
    future = λ a unit cycle low.
        let lower : a < length grids = omega arith in
        let lowest : a < length plan.rules.items = omega arith in
        let p : Pair ℕ = record { unit = unit; cycle = cycle } in
        let union = united a lower p in
        let old = stands.future a unit cycle lower in
        let part = is.parts k i a unit cycle lt lowest in
        let moved = holds_moved s.now cycle (chosen m k i) (record { automaton = a; unit = unit }) in (
          λ h. ⊎_elim
              (λ l. Contains-append_left s.reserved (placed s.now (chosen m k i)) _ (old.0 l))
              (λ r. Contains-append_right s.reserved (placed s.now (chosen m k i)) _ (moved.0 (part.0 r)))
              (union.0 h),
          λ h. union.1 (⊎_elim
              (λ l. inl (old.1 l))
              (λ r. inr (part.1 (moved.1 r)))
              (Contains-append_cases s.reserved (placed s.now (chosen m k i)) _ h)),
        );
    unbroken = unbroken_added m.statements s.reserved (chosen m k i) s.now fits.1;
  }

-- so many cycles later
pub stands_later : (m : Pipeline UnitPlace) (n : ℕ) (old new : List (List (Pair ℕ))) (s : State UnitPlace) → AreLaterBy n old new → Stands m old s → Stands m new (record { reserved = s.reserved; now = n + s.now })
stands_later m n old new s moves stands = record {
  future = λ a unit cycle low.
      let each = moves.each in
      let lower : a < length old = omega arith in
      let moved = moves.moved a lower (record { unit = unit; cycle = cycle }) in
      let there = stands.future a unit (n + cycle) lower in
      let time : s.now + (n + cycle) ≡ n + s.now + cycle = omega arith in
      let at_time = λ (c : ℕ). Contains s.reserved (in_automaton a unit c) in
      (λ h. subst at_time time (there.0 (moved.0 h)), λ h. moved.1 (there.1 (subst at_time (sym time) h)));
  unbroken = stands.unbroken;
}

-- ---- grids that stay unbroken

unbroken_same : (statements : List (Statement ℕ)) (xs ys : List (Pair ℕ)) → SamePairs xs ys → IsUnbroken statements xs → IsUnbroken statements ys
unbroken_same statements xs ys same unbroken =
    unbroken_where statements ys 0 ((fits_listed statements xs ys [] [] 0 same (λ p. (λ h. h, λ h. h))).0 (nothing_fits statements xs 0 unbroken))

united_pairs : (grid part new : List (Pair ℕ)) → IsUnion grid part new → SamePairs (grid ++ placed 0 part) new
united_pairs grid part new union p =
    let moved = holds_moved 0 p.cycle part p.unit in
    let time : 0 + p.cycle ≡ p.cycle = omega arith in
    let at_time = λ (c : ℕ). Contains (placed 0 part) (record { unit = p.unit; cycle = c }) in (
      λ h. (union p).1 (⊎_elim (λ l. inl l) (λ r. inr (moved.1 (subst at_time (sym time) r))) (Contains-append_cases grid (placed 0 part) p h)),
      λ h. ⊎_elim
          (λ l. Contains-append_left grid (placed 0 part) p l)
          (λ r. Contains-append_right grid (placed 0 part) p (subst at_time time (moved.0 r)))
          ((union p).0 h),
    )

pub unbroken_united : (rules : List (List (Statement ℕ))) (grids parts new : List (List (Pair ℕ))) → length grids ≡ length rules → AllFit rules grids parts → AreUnited grids parts new → AreUnbroken rules new
unbroken_united rules grids parts new each fits united a low =
    unbroken_same (at rules a) (at grids a ++ placed 0 (at parts a)) (at new a) (united_pairs (at grids a) (at parts a) (at new a) (united a (omega arith)))
    (unbroken_added (at rules a) (at grids a) (at parts a) 0 (fits a low))

pub unbroken_later : (rules : List (List (Statement ℕ))) (n : ℕ) (old new : List (List (Pair ℕ))) → length old ≡ length rules → AreLaterBy n old new → AreUnbroken rules old → AreUnbroken rules new
unbroken_later rules n old new each moves unbroken a low = record {
  excluded = λ s is e cycle x y.
      let moved = moves.moved a (omega arith) in
      let back = λ (u : ℕ) (h : Holds (at new a) cycle u). (moved (record { unit = u; cycle = cycle })).0 h in
      (unbroken a low).excluded s is e (n + cycle) (some_with s.units _ _ back x) (pattern_with s.patterns _ _ back y);
}

-- parts that fit are apart
pub fits_apart_of : (rules : List (List (Statement ℕ))) (grids parts : List (List (Pair ℕ))) → length grids ≡ length rules → AllFit rules grids parts → AreApart grids parts
fits_apart_of rules grids parts each fits a low (p, there, here) =
    let fit = fits a (omega arith) in
    let moved = holds_moved 0 p.cycle (at parts a) p.unit in
    let time : 0 + p.cycle ≡ p.cycle = omega arith in
    fit.apart p there (subst (λ (c : ℕ). Contains (placed 0 (at parts a)) (record { unit = p.unit; cycle = c })) time (moved.0 here))

-- ---- nothing reserved

pub empty_at : (count a : ℕ) → at {A = Pair ℕ} (replicate count []) a ≡ []
empty_at zero a = refl
empty_at (suc count) zero = refl
empty_at (suc count) (suc a) = empty_at count a

pub stands_at_start : (m : Pipeline UnitPlace) (count : ℕ) → Stands m (replicate count []) start
stands_at_start m count = record {
  future = λ a unit cycle low. (
    λ h. absurd (Contains-nil _ (subst (λ (g : List (Pair ℕ)). Contains g (record { unit = unit; cycle = cycle })) (empty_at count a) h)),
    λ h. absurd (Contains-nil _ h),
  );
  unbroken = unbroken_empty m.statements;
}

pub unbroken_at_start : (rules : List (List (Statement ℕ))) (count : ℕ) → AreUnbroken rules (replicate count [])
unbroken_at_start rules count a low = subst (λ (g : List (Pair ℕ)). IsUnbroken (at rules a) g) (sym (empty_at count a)) (unbroken_empty (at rules a))

-- the first that fits, of the rules and alternatives that are read
pub first_read : (plan : Plan) (k : ℕ) (rules : List (List (Statement ℕ))) (grids : List (List (Pair ℕ))) (choices : List Choice) (found : Option ℕ) → rules ≡ plan.rules.items → choices_at plan k ≡ choices → IsFirstOf rules grids choices found → IsFirstOf plan.rules.items grids (choices_at plan k) found
first_read plan k rules grids choices found r c first =
    subst (λ (cs : List Choice). IsFirstOf plan.rules.items grids cs found) (sym c) (subst (λ (rs : List (List (Statement ℕ))). IsFirstOf rs grids choices found) r first)
