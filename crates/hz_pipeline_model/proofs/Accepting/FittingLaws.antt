-- Fitting by what is planned alone, and what fitting keeps.
use Rattle.std.proofs.Common.{◌≡◌, ℕ, ◌+◌, ◌-◌, ◌<◌, ◌≤◌, List, [], ◌∷◌, ◌++◌, Contains, sym, subst, arith, ⊎_elim}
use Rattle.std.specs.Prelude.{◌↔◌}
use Rattle.std.proofs.lemmas.Bool.{cases_lt}
use Rattle.std.proofs.lemmas.List.Elements.{Contains-append_left, Contains-append_right, Contains-append_cases}
use Rattle.hz_base_model.specs.Pairs.{Pair, SamePairs, placed}
use Rattle.hz_description_model.specs.Reservations.Sets.{Statement, exclusion, Holds, HoldsSome, HoldsPattern, AllowsIn, Fits}
use Rattle.hz_pipeline_model.specs.Accepting.Replay.{Pipeline, State, start, Step, Plays, chosen}
use Rattle.hz_pipeline_model.specs.Accepting.Events.{Event, issue, advance, ask}
use Rattle.hz_pipeline_model.specs.Accepting.Fitting.{IsFuture, IsUnbroken}
use Rattle.hz_base_model.proofs.Elements.{Contains-nil}
use Rattle.hz_description_model.proofs.Reservations.FitLaws.{iff_back, allows_same, some_with, pattern_with, holds_moved, holds_none}
use Rattle.hz_description_model.proofs.Reservations.SamePairsLaws.{fits_same, same_back}

module _ {U : Type 0} where
  pub fits_listed : (statements : List (Statement U)) (source listed pairs others : List (Pair U)) (now : ℕ) → SamePairs source listed → SamePairs pairs others → Fits statements source pairs now ↔ Fits statements listed others now
  fits_listed statements source listed pairs others now there here =
      (fits_same statements source listed pairs others now there here, fits_same statements listed source others pairs now (same_back source listed there) (same_back pairs others here))

  -- where nothing is added a statement asks that no exclusion is broken, and no more
  pub allows_unadded : (s : Statement U) (source added result : U → Type 0) → ((u : U) → added u → ⊥) → ((u : U) → result u → source u) → (s.kind ≡ exclusion → HoldsSome s.units source → HoldsPattern s.patterns source → ⊥) → AllowsIn s source added result
  allows_unadded s source added result none back unbroken = record {
    excluded = λ e h k. unbroken e (some_with s.units result source back h) (pattern_with s.patterns result source back k);
    present = λ _ h. absurd (none h.0 h.2);
    finally_present = λ _ h. absurd (none h.0 h.2);
    absent = λ _ h _. none h.0 h.2;
    finally_absent = λ _ h _. none h.0 h.2;
  }

  -- what a union holds in a cycle
  pub holds_append : (source added other added' : List (Pair U)) (c d : ℕ) → ((u : U) → Holds source c u ↔ Holds other d u) → ((u : U) → Holds added c u ↔ Holds added' d u) → (u : U) → Holds (source ++ added) c u ↔ Holds (other ++ added') d u
  holds_append source added other added' c d so ad u = (
    λ h. ⊎_elim
        (λ l. Contains-append_left other added' _ ((so u).0 l))
        (λ r. Contains-append_right other added' _ ((ad u).0 r))
        (Contains-append_cases source added _ h),
    λ h. ⊎_elim
        (λ l. Contains-append_left source added _ ((so u).1 l))
        (λ r. Contains-append_right source added _ ((ad u).1 r))
        (Contains-append_cases other added' _ h),
  )

module _ {U : Type 0} (statements : List (Statement U)) (planned pairs : List (Pair U)) (s : State U) (future : IsFuture planned s) where
  -- a cycle from the present on holds what it does in the future
  there : (k : ℕ) (u : U) → Holds planned k u ↔ Holds s.reserved (s.now + k) u
  there k u = future.pairs u k

  here : (k : ℕ) (u : U) → Holds (placed 0 pairs) k u ↔ Holds (placed s.now pairs) (s.now + k) u
  here k u =
      let first = holds_moved 0 k pairs u in
      let second = holds_moved s.now k pairs u in
      let same : 0 + k ≡ k = omega arith in
      (λ h. second.0 (first.1 (rw same h)), λ h. rw (← same) (first.0 (second.1 h)))

  all : (k : ℕ) (u : U) → Holds (planned ++ placed 0 pairs) k u ↔ Holds (s.reserved ++ placed s.now pairs) (s.now + k) u
  all k = holds_append planned (placed 0 pairs) s.reserved (placed s.now pairs) k (s.now + k) (there k) (here k)

  fits_future : Fits statements s.reserved pairs s.now → Fits statements planned pairs 0
  fits_future h = record {
    apart = λ p x y. h.apart _ ((there p.cycle p.unit).0 x) ((here p.cycle p.unit).0 y);
    allowed = λ r is k. allows_same r _ _ _ _ _ _
        (λ u. iff_back _ _ (there k u)) (λ u. iff_back _ _ (here k u)) (λ u. iff_back _ _ (all k u)) (h.allowed r is (s.now + k));
  }

  -- before the present cycle nothing is added
  none_past : (cycle : ℕ) (u : U) → cycle < s.now → Holds (s.reserved ++ placed s.now pairs) cycle u → Holds s.reserved cycle u
  none_past cycle u early h = ⊎_elim
      (λ l. l)
      (λ r. absurd (holds_none s.now cycle pairs u early r))
      (Contains-append_cases s.reserved (placed s.now pairs) _ h)

  fits_all : IsUnbroken statements s.reserved → Fits statements planned pairs 0 → Fits statements s.reserved pairs s.now
  fits_all unbroken h = record { apart = apart; allowed = allowed }
    where
      apart : (p : Pair U) → Contains s.reserved p → Contains (placed s.now pairs) p → ⊥
      apart p x y = ⊎_elim
          (λ (early : p.cycle < s.now). holds_none s.now p.cycle pairs p.unit early y)
          (λ (late : s.now ≤ p.cycle).
          let at : p.cycle ≡ s.now + (p.cycle - s.now) = omega arith in
          let k = p.cycle - s.now in
          let at_now = λ (reserved : List (Pair U)) (is : Contains reserved p). subst (λ (c : ℕ). Holds reserved c p.unit) at is in
          h.apart _ ((there k p.unit).1 (at_now s.reserved x)) ((here k p.unit).1 (at_now (placed s.now pairs) y)))
          (cases_lt p.cycle s.now)

      allowed : (r : Statement U) → Contains statements r → (cycle : ℕ) → AllowsIn r (Holds s.reserved cycle) (Holds (placed s.now pairs) cycle) (Holds (s.reserved ++ placed s.now pairs) cycle)
      allowed r is cycle = ⊎_elim
          (λ (early : cycle < s.now). allows_unadded r _ _ _ (λ u. holds_none s.now cycle pairs u early) (λ u. none_past cycle u early) (λ e. unbroken.excluded r is e cycle))
          (λ (late : s.now ≤ cycle).
          let at : s.now + (cycle - s.now) ≡ cycle = omega arith in
          subst (λ (c : ℕ). AllowsIn r (Holds s.reserved c) (Holds (placed s.now pairs) c) (Holds (s.reserved ++ placed s.now pairs) c)) at
          (allows_same r _ _ _ _ _ _ (there (cycle - s.now)) (here (cycle - s.now)) (all (cycle - s.now)) (h.allowed r is (cycle - s.now))))
          (cases_lt cycle s.now)

module _ {U : Type 0} where
  pub future_fits : (statements : List (Statement U)) (planned pairs : List (Pair U)) (s : State U) → IsFuture planned s → IsUnbroken statements s.reserved → Fits statements planned pairs 0 ↔ Fits statements s.reserved pairs s.now
  future_fits statements planned pairs s future unbroken = (fits_all statements planned pairs s future unbroken, fits_future statements planned pairs s future)

  pub unbroken_empty : (statements : List (Statement U)) → IsUnbroken statements []
  unbroken_empty statements = record { excluded = λ r is e cycle h _. Contains-nil _ h.2 }

  pub unbroken_added : (statements : List (Statement U)) (reserved pairs : List (Pair U)) (now : ℕ) → Fits statements reserved pairs now → IsUnbroken statements (reserved ++ placed now pairs)
  unbroken_added statements reserved pairs now h = record { excluded = λ r is e cycle. (h.allowed r is cycle).excluded e }

  unbroken_step : (m : Pipeline U) (old new : State U) (e : Event) → IsUnbroken m.statements old.reserved → Step m old e new → IsUnbroken m.statements new.reserved
  unbroken_step m old new (advance n) h step = subst (λ (q : State U). IsUnbroken m.statements q.reserved) (sym step) h
  unbroken_step m old new (ask a u) h step = subst (λ (q : State U). IsUnbroken m.statements q.reserved) (sym step) h
  unbroken_step m old new (issue k) h (i, may, step) =
      subst (λ (q : State U). IsUnbroken m.statements q.reserved) (sym step) (unbroken_added m.statements old.reserved (chosen m k i) old.now may.fits.1)

  unbroken_from : (m : Pipeline U) (t : List Event) (old new : State U) → IsUnbroken m.statements old.reserved → Plays m old t new → IsUnbroken m.statements new.reserved
  unbroken_from m [] old new h run = subst (λ (q : State U). IsUnbroken m.statements q.reserved) (sym run) h
  unbroken_from m (e ∷ t) old new h (middle, step, run) = unbroken_from m t middle new (unbroken_step m old middle e h step) run

  pub unbroken_run : (m : Pipeline U) (t : List Event) (s : State U) → Plays m start t s → IsUnbroken m.statements s.reserved
  unbroken_run m t s run = unbroken_from m t start s (unbroken_empty m.statements) run
