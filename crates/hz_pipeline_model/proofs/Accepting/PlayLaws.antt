-- The computation of acceptance answers as the relation does.
use Rattle.std.proofs.Common.{◌≡◌, ℕ, zero, suc, ◌+◌, ◌<◌, ◌≤◌, ◌⊎◌, inl, inr, ⊎_elim, Bool, true, false, cond, not, List, [], ◌∷◌, ◌++◌, length, take, add-one, Contains, refl, sym, ap, ◌∙◌, subst, arith, Some}
use Rattle.std.specs.Prelude.{◌&&◌, ◌||◌, ◌==◌, slice_get}
use Rattle.std.specs.Bool.{Decides}
use Rattle.std.specs.List.{list_any, list_all, flat_map}
use Rattle.std.proofs.lemmas.Bool.{and_parts, and_from, or_cases, or_left, or_right, not-true, not_from_false, cases_Bool, both_ways, false_from_ne_true, eqb-true, eq-eqb, ltb-true, lt-ltb}
use Rattle.std.proofs.Math.Seq.{take-length}
use Rattle.std.proofs.lemmas.List.Elements.{Contains-append_left, Contains-append_right, Contains-append_cases}
use Rattle.hz_base_model.specs.Pairs.{Pair, placed}
use Rattle.hz_description_model.specs.Reservations.Sets.{SetKind, exclusion, presence, final_presence, absence, final_absence, Statement, Holds, HoldsSome, HoldsPattern, AllowsIn, Fits}
use Rattle.hz_description_model.specs.Reservations.Alternatives.{Alternative}
use Rattle.hz_pipeline_model.specs.Accepting.Replay.{Treatment, first_fit, any_fit, Pipeline, State, start, alternatives_at, chosen, pairs_at, FitsAt, MayTake, Step, Plays, Accepted, FirstRefused}
use Rattle.hz_pipeline_model.specs.Accepting.Events.{Event, issue, advance, ask}
use Rattle.hz_pipeline_model.specs.Accepting.Plays.{Tells, has, holds, holds_pattern, asks, allows, fits_added, taken, next, plays, accepts}
use Rattle.hz_base_model.proofs.Elements.{Contains-nil, Contains-head, Contains-tail, Contains-cons_cases, Contains-map, Contains-from_map}
use Rattle.hz_pipeline_model.proofs.Accepting.ReplayLaws.{runs_from_accepted, accepted_from_runs}

and_decides : {P Q : Type 0} (a b : Bool) → Decides a P → Decides b Q → Decides (a && b) (P × Q)
and_decides a b p q = (λ h. let parts = and_parts a b h in (p.0 parts.0, q.0 parts.1), λ h. and_from a b (p.1 h.0) (q.1 h.1))

not_decides : {P : Type 0} (a : Bool) → Decides a P → Decides (not a) (P → ⊥)
not_decides a p = (λ h x. both_ways a (not-true a h) (p.1 x), λ h. not_from_false a (false_from_ne_true a (λ e. h (p.0 e))))

then_decides : {P Q : Type 0} (a b : Bool) → Decides a P → Decides b Q → Decides (not a || b) (P → Q)
then_decides true b p q = (λ h x. q.0 h, λ h. q.1 (h (p.0 refl)))
then_decides false b p q = (λ h x. absurd (let e = p.1 x in cc), λ h. refl)

module _ {X : Type 0} (test : X → Bool) (P : X → Type 0) (decides : (x : X) → Decides (test x) (P x)) where
  any_decides : (xs : List X) → Decides (list_any test xs) ((x : X) × Contains xs x × P x)
  any_decides xs = (find xs, found xs)
    where
      find : (xs : List X) → list_any test xs ≡ true → (x : X) × Contains xs x × P x
      find [] h = absurd (cc)
      find (x ∷ xs) h = ⊎_elim
          (λ here. (x, Contains-head x xs, (decides x).0 here))
          (λ there. let rest = find xs there in (rest.0, Contains-tail x rest.0 xs rest.1, rest.2))
          (or_cases (test x) (list_any test xs) h)

      found : (xs : List X) → (x : X) × Contains xs x × P x → list_any test xs ≡ true
      found [] (x, is, p) = absurd (Contains-nil x is)
      found (y ∷ xs) (x, is, p) = ⊎_elim
          (λ e. or_left (test y) (list_any test xs) (ap test e ∙ (decides x).1 p))
          (λ there. or_right (test y) (list_any test xs) (found xs (x, there, p)))
          (Contains-cons_cases y x xs is)

  all_decides : (xs : List X) → Decides (list_all test xs) ((x : X) → Contains xs x → P x)
  all_decides xs = (down xs, up xs)
    where
      down : (xs : List X) → list_all test xs ≡ true → (x : X) → Contains xs x → P x
      down [] h x is = absurd (Contains-nil x is)
      down (y ∷ xs) h x is =
          let parts = and_parts (test y) (list_all test xs) h in
          ⊎_elim (λ e. subst P e ((decides y).0 parts.0)) (λ there. down xs parts.1 x there) (Contains-cons_cases y x xs is)

      up : (xs : List X) → ((x : X) → Contains xs x → P x) → list_all test xs ≡ true
      up [] h = refl
      up (y ∷ xs) h = and_from (test y) (list_all test xs) ((decides y).1 (h y (Contains-head y xs))) (up xs (λ x there. h x (Contains-tail y x xs there)))

module _ {U : Type 0} (same : U → U → Bool) (tells : Tells same) where
  same_pair : (p q : Pair U) → Decides (same q.unit p.unit && q.cycle == p.cycle) (q ≡ p)
  same_pair p q = (alike, back)
    where
      alike : (same q.unit p.unit && q.cycle == p.cycle) ≡ true → q ≡ p
      alike h =
          let parts = and_parts (same q.unit p.unit) (q.cycle == p.cycle) h in
          ap (λ (u : U). record { unit = u; cycle = q.cycle }) ((tells q.unit p.unit).0 parts.0) ∙ ap (λ (c : ℕ). record { unit = p.unit; cycle = c }) (eqb-true q.cycle p.cycle parts.1)

      back : q ≡ p → (same q.unit p.unit && q.cycle == p.cycle) ≡ true
      back e = and_from (same q.unit p.unit) (q.cycle == p.cycle) ((tells q.unit p.unit).1 (ap (λ (r : Pair U). r.unit) e)) (eq-eqb q.cycle p.cycle (ap (λ (r : Pair U). r.cycle) e))

  pub has_decides : (pairs : List (Pair U)) (p : Pair U) → Decides (has same pairs p) (Contains pairs p)
  has_decides pairs p =
      let any = any_decides (λ q. same q.unit p.unit && q.cycle == p.cycle) (λ q. q ≡ p) (same_pair p) pairs in
      (λ h. let found = any.0 h in subst (λ (q : Pair U). Contains pairs q) found.2 found.1, λ h. any.1 (p, h, refl))

  module _ (source added result : List (Pair U)) (cycle : ℕ) where
    abbrev some_decides : (units : List U) (pairs : List (Pair U)) → Decides (list_any (λ u. has same pairs (record { unit = u; cycle = cycle })) units) (HoldsSome units (Holds pairs cycle))
    some_decides units pairs = any_decides (λ u. has same pairs (record { unit = u; cycle = cycle })) (Holds pairs cycle) (λ u. has_decides pairs (record { unit = u; cycle = cycle })) units

    pattern_decides : (patterns : List (List U)) (pairs : List (Pair U)) → Decides (holds_pattern patterns (λ u. has same pairs (record { unit = u; cycle = cycle }))) (HoldsPattern patterns (Holds pairs cycle))
    pattern_decides patterns pairs = any_decides _ (λ (pattern : List U). (u : U) → Contains pattern u → Holds pairs cycle u)
        (λ pattern. all_decides (λ u. has same pairs (record { unit = u; cycle = cycle })) (Holds pairs cycle) (λ u. has_decides pairs (record { unit = u; cycle = cycle })) pattern) patterns

    -- both are refused where one refuses the other
    curried : {P Q : Type 0} (a b : Bool) → Decides a P → Decides b Q → Decides (not (a && b)) (P → Q → ⊥)
    curried a b p q = let d = not_decides (a && b) (and_decides a b p q) in (λ h x y. d.0 h (x, y), λ h. d.1 (λ z. h z.0 z.1))

    statement_decides : (kind : SetKind) (units : List U) (patterns : List (List U))
        → Decides (asks kind units patterns (holds same source cycle) (holds same added cycle) (holds same result cycle)) (AllowsIn (record { kind = kind; units = units; patterns = patterns }) (Holds source cycle) (Holds added cycle) (Holds result cycle))
    statement_decides exclusion units patterns =
        let d = curried _ _ (some_decides units result) (pattern_decides patterns result) in
        (λ h. record { excluded = λ _. d.0 h; present = λ e. absurd (cc); finally_present = λ e. absurd (cc); absent = λ e. absurd (cc); finally_absent = λ e. absurd (cc) }, λ h. d.1 (h.excluded refl))
    statement_decides presence units patterns =
        let d = then_decides _ _ (some_decides units added) (pattern_decides patterns source) in
        (λ h. record { excluded = λ e. absurd (cc); present = λ _. d.0 h; finally_present = λ e. absurd (cc); absent = λ e. absurd (cc); finally_absent = λ e. absurd (cc) }, λ h. d.1 (h.present refl))
    statement_decides final_presence units patterns =
        let d = then_decides _ _ (some_decides units added) (pattern_decides patterns result) in
        (λ h. record { excluded = λ e. absurd (cc); present = λ e. absurd (cc); finally_present = λ _. d.0 h; absent = λ e. absurd (cc); finally_absent = λ e. absurd (cc) }, λ h. d.1 (h.finally_present refl))
    statement_decides absence units patterns =
        let d = curried _ _ (some_decides units added) (pattern_decides patterns source) in
        (λ h. record { excluded = λ e. absurd (cc); present = λ e. absurd (cc); finally_present = λ e. absurd (cc); absent = λ _. d.0 h; finally_absent = λ e. absurd (cc) }, λ h. d.1 (h.absent refl))
    statement_decides final_absence units patterns =
        let d = curried _ _ (some_decides units added) (pattern_decides patterns result) in
        (λ h. record { excluded = λ e. absurd (cc); present = λ e. absurd (cc); finally_present = λ e. absurd (cc); absent = λ e. absurd (cc); finally_absent = λ _. d.0 h }, λ h. d.1 (h.finally_absent refl))

  module _ (statements : List (Statement U)) (source : List (Pair U)) where
    -- a statement is tested in each cycle where a unit is held; in another it asks nothing
    allows_decides : (added : List (Pair U)) (s : Statement U) → Decides (allows same source added (source ++ added) s) ((cycle : ℕ) → AllowsIn s (Holds source cycle) (Holds added cycle) (Holds (source ++ added) cycle))
    allows_decides added s =
        let all = all_decides (λ (p : Pair U). asks s.kind s.units s.patterns (holds same source p.cycle) (holds same added p.cycle) (holds same (source ++ added) p.cycle))
        (λ p. AllowsIn s (Holds source p.cycle) (Holds added p.cycle) (Holds (source ++ added) p.cycle))
        (λ p. statement_decides source added (source ++ added) p.cycle s.kind s.units s.patterns) (source ++ added) in
        let in_result = λ (cycle : ℕ) (u : U). Contains-append_right source added (record { unit = u; cycle = cycle }) in (
          λ h cycle.
              let at = λ (u : U) (there : Holds (source ++ added) cycle u). all.0 h (record { unit = u; cycle = cycle }) there in
              record {
                excluded = λ e x. (at x.0 x.2).excluded e x;
                present = λ e x. (at x.0 (in_result cycle x.0 x.2)).present e x;
                finally_present = λ e x. (at x.0 (in_result cycle x.0 x.2)).finally_present e x;
                absent = λ e x. (at x.0 (in_result cycle x.0 x.2)).absent e x;
                finally_absent = λ e x. (at x.0 (in_result cycle x.0 x.2)).finally_absent e x;
              },
          λ h. all.1 (λ p is. h p.cycle),
        )

    pub fits_decides : (pairs : List (Pair U)) (now : ℕ) → Decides (fits_added same statements source (placed now pairs)) (Fits statements source pairs now)
    fits_decides pairs now =
        let apart = all_decides (λ (p : Pair U). not (has same (placed now pairs) p)) (λ p. Contains (placed now pairs) p → ⊥) (λ p. not_decides _ (has_decides (placed now pairs) p)) source in
        let allowed = all_decides (allows same source (placed now pairs) (source ++ placed now pairs)) (λ s. (cycle : ℕ) → AllowsIn s (Holds source cycle) (Holds (placed now pairs) cycle) (Holds (source ++ placed now pairs) cycle)) (allows_decides (placed now pairs)) statements in
        let both = and_decides _ _ apart allowed in
        (λ h. let parts = both.0 h in record { apart = parts.0; allowed = parts.1 }, λ h. both.1 (h.apart, h.allowed))

-- the alternative of this number may be taken
record Picked {A : Type 0} (treatment : Treatment) (fit : A → Bool) (options : List A) (i : ℕ) (a : A) : Type 0 where
  is : slice_get options i ≡ Some a
  passes : fit a ≡ true
  first : treatment ≡ first_fit → (j : ℕ) (b : A) → j < i → slice_get options j ≡ Some b → fit b ≡ true → ⊥

module _ {A : Type 0} (fit : A → Bool) where
  picked_later : (treatment : Treatment) (x a : A) (others : List A) (i : ℕ) → (treatment ≡ first_fit → fit x ≡ true → ⊥) → Picked treatment fit others i a → Picked treatment fit (x ∷ others) (suc i) a
  picked_later treatment x a others i none h = record { is = h.is; passes = h.passes; first = first }
    where
      first : treatment ≡ first_fit → (j : ℕ) (b : A) → j < suc i → slice_get (x ∷ others) j ≡ Some b → fit b ≡ true → ⊥
      first t zero b low here pass = let e : x ≡ b = cc in none t (ap fit e ∙ pass)
      first t (suc j) b low here pass = h.first t j b (omega arith) here pass

  picked_here : (treatment : Treatment) (x : A) (others : List A) → fit x ≡ true → Picked treatment fit (x ∷ others) 0 x
  picked_here treatment x others h = record { is = refl; passes = h; first = λ t j b low. absurd (omega arith) }

  abbrev PickedSome : Treatment → List A → A → Type 0
  PickedSome treatment options a = (i : ℕ) × Picked treatment fit options i a

  first_of_options : (x a : A) (others : List A) (t : Bool) → fit x ≡ t → (Contains (taken first_fit fit others) a → PickedSome first_fit others a) → Contains (cond t (x ∷ []) (taken first_fit fit others)) a → PickedSome first_fit (x ∷ others) a
  first_of_options x a others true e rest h = ⊎_elim
      (λ same. (0, subst (λ (b : A). Picked first_fit fit (x ∷ others) 0 b) same (picked_here first_fit x others e)))
      (λ there. absurd (Contains-nil a there))
      (Contains-cons_cases x a [] h)
  first_of_options x a others false e rest h = let later = rest h in (suc later.0, picked_later first_fit x a others later.0 (λ t pass. both_ways (fit x) e pass) later.1)

  any_of_options : (x a : A) (others : List A) (t : Bool) → fit x ≡ t → (Contains (taken any_fit fit others) a → PickedSome any_fit others a) → Contains (cond t (x ∷ taken any_fit fit others) (taken any_fit fit others)) a → PickedSome any_fit (x ∷ others) a
  any_of_options x a others true e rest h = ⊎_elim
      (λ same. (0, subst (λ (b : A). Picked any_fit fit (x ∷ others) 0 b) same (picked_here any_fit x others e)))
      (λ there. let later = rest there in (suc later.0, picked_later any_fit x a others later.0 (λ t pass. absurd (cc)) later.1))
      (Contains-cons_cases x a (taken any_fit fit others) h)
  any_of_options x a others false e rest h = let later = rest h in (suc later.0, picked_later any_fit x a others later.0 (λ t pass. absurd (cc)) later.1)

  taken_picked : (treatment : Treatment) (options : List A) (a : A) → Contains (taken treatment fit options) a → PickedSome treatment options a
  taken_picked treatment [] a h = absurd (Contains-nil a h)
  taken_picked first_fit (x ∷ others) a h = first_of_options x a others (fit x) refl (λ rest. taken_picked first_fit others a rest) h
  taken_picked any_fit (x ∷ others) a h = any_of_options x a others (fit x) refl (λ rest. taken_picked any_fit others a rest) h

  picked_tail : (treatment : Treatment) (x a : A) (others : List A) (i : ℕ) → Picked treatment fit (x ∷ others) (suc i) a → Picked treatment fit others i a
  picked_tail treatment x a others i h = record { is = h.is; passes = h.passes; first = λ t j b low here pass. h.first t (suc j) b (omega arith) here pass }

  picked_taken : (treatment : Treatment) (options : List A) (i : ℕ) (a : A) → Picked treatment fit options i a → Contains (taken treatment fit options) a
  picked_taken treatment [] i a h = let e = h.is in absurd (cc)
  picked_taken first_fit (x ∷ others) zero a h =
      let e : x ≡ a = let is = h.is in cc in
      rw (ap fit e ∙ h.passes) (subst (λ (b : A). Contains (x ∷ []) b) e (Contains-head x []))
  picked_taken any_fit (x ∷ others) zero a h =
      let e : x ≡ a = let is = h.is in cc in
      rw (ap fit e ∙ h.passes) (subst (λ (b : A). Contains (x ∷ taken any_fit fit others) b) e (Contains-head x (taken any_fit fit others)))
  picked_taken first_fit (x ∷ others) (suc i) a h =
      let skipped = false_from_ne_true (fit x) (λ pass. h.first refl 0 x (omega arith) refl pass) in
      rw skipped (picked_taken first_fit others i a (picked_tail first_fit x a others i h))
  picked_taken any_fit (x ∷ others) (suc i) a h =
      let rest = picked_taken any_fit others i a (picked_tail any_fit x a others i h) in
      ⊎_elim (λ e. rw e (Contains-tail x a (taken any_fit fit others) rest)) (λ e. rw e rest) (cases_Bool (fit x))

some_within : {A : Type 0} (options : List A) (i : ℕ) (a : A) → slice_get options i ≡ Some a → i < length options
some_within [] i a h = absurd (cc)
some_within (x ∷ others) zero a h = omega arith
some_within (x ∷ others) (suc i) a h = let rest = some_within others i a h in omega arith

some_at : {A : Type 0} (options : List A) (i : ℕ) → i < length options → (a : A) × (slice_get options i ≡ Some a)
some_at [] i h = absurd (omega arith)
some_at (x ∷ others) zero h = (x, refl)
some_at (x ∷ others) (suc i) h = some_at others i (omega arith)

flat_contains : {A B : Type 0} (f : A → List B) (xs : List A) (y : B) → Contains (flat_map f xs) y → (x : A) × Contains xs x × Contains (f x) y
flat_contains f [] y h = absurd (Contains-nil y h)
flat_contains f (x ∷ xs) y h = ⊎_elim
    (λ here. (x, Contains-head x xs, here))
    (λ there. let rest = flat_contains f xs y there in (rest.0, Contains-tail x rest.0 xs rest.1, rest.2))
    (Contains-append_cases (f x) (flat_map f xs) y h)

contains_flat : {A B : Type 0} (f : A → List B) (xs : List A) (x : A) (y : B) → Contains xs x → Contains (f x) y → Contains (flat_map f xs) y
contains_flat f [] x y is h = absurd (Contains-nil x is)
contains_flat {A} {B} f (z ∷ xs) x y is h = ⊎_elim
    (λ e. Contains-append_left (f z) (flat_map f xs) y (subst (λ (w : A). Contains (f w) y) (sym e) h))
    (λ there. Contains-append_right (f z) (flat_map f xs) y (contains_flat f xs x y there h))
    (Contains-cons_cases z x xs is)

some_contained : {A : Type 0} (xs : List A) → 0 < length xs → (x : A) × Contains xs x
some_contained [] h = absurd (omega arith)
some_contained (x ∷ xs) h = (x, Contains-head x xs)

contained_some : {A : Type 0} (xs : List A) (x : A) → Contains xs x → 0 < length xs
contained_some xs x h = omega (arith, h.1)

module _ {U : Type 0} (same : U → U → Bool) (tells : Tells same) (m : Pipeline U) where
  abbrev fit : State U → Alternative U → Bool
  fit s a = fits_added same m.statements s.reserved (placed s.now a.pairs)

  abbrev issued : State U → Alternative U → State U
  issued s a = record { reserved = s.reserved ++ placed s.now a.pairs; now = s.now }

  pairs_of : (k i : ℕ) (a : Alternative U) → slice_get (alternatives_at m k) i ≡ Some a → chosen m k i ≡ a.pairs
  pairs_of k i a is = ap pairs_at is

  fit_at : (s : State U) (k i : ℕ) (a : Alternative U) → slice_get (alternatives_at m k) i ≡ Some a → Decides (fit s a) (FitsAt m s k i)
  fit_at s k i a is =
      let d = fits_decides same tells m.statements s.reserved a.pairs s.now in
      (λ h. (some_within (alternatives_at m k) i a is, rw (pairs_of k i a is) (d.0 h)), λ h. d.1 (subst (λ (ps : List (Pair U)). Fits m.statements s.reserved ps s.now) (pairs_of k i a is) h.1))

  may_of_picked : (s : State U) (k i : ℕ) (a : Alternative U) → Picked m.treatment (fit s) (alternatives_at m k) i a → MayTake m s k i
  may_of_picked s k i a h = record {
    fits = (fit_at s k i a h.is).0 h.passes;
    first = λ t j low there. let b = some_at (alternatives_at m k) j there.0 in h.first t j b.0 low b.1 ((fit_at s k j b.0 b.1).1 there);
  }

  picked_of_may : (s : State U) (k i : ℕ) (a : Alternative U) → slice_get (alternatives_at m k) i ≡ Some a → MayTake m s k i → Picked m.treatment (fit s) (alternatives_at m k) i a
  picked_of_may s k i a is h = record {
    is = is;
    passes = (fit_at s k i a is).1 h.fits;
    first = λ t j b low there pass. h.first t j low ((fit_at s k j b there).0 pass);
  }

  next_step : (s : State U) (e : Event) (q : State U) → Contains (next same m s e) q → Step m s e q
  next_step s (advance n) q h = ⊎_elim sym (λ there. absurd (Contains-nil q there)) (Contains-cons_cases _ q [] h)
  next_step s (ask a u) q h = ⊎_elim sym (λ there. absurd (Contains-nil q there)) (Contains-cons_cases _ q [] h)
  next_step s (issue k) q h =
      let found = Contains-from_map (issued s) (taken m.treatment (fit s) (alternatives_at m k)) q h in
      let picked = taken_picked (fit s) m.treatment (alternatives_at m k) found.0 found.1 in
      let pairs = pairs_of k picked.0 found.0 picked.1.is in
      (picked.0, may_of_picked s k picked.0 found.0 picked.1, rw pairs (sym found.2))

  step_next : (s : State U) (e : Event) (q : State U) → Step m s e q → Contains (next same m s e) q
  step_next s (advance n) q h = rw h (Contains-head _ [])
  step_next s (ask a u) q h = rw h (Contains-head _ [])
  step_next s (issue k) q (i, may, is) =
      let a = some_at (alternatives_at m k) i may.fits.0 in
      let there = picked_taken (fit s) m.treatment (alternatives_at m k) i a.0 (picked_of_may s k i a.0 a.1 may) in
      let pairs = pairs_of k i a.0 a.1 in
      rw (is, pairs) (Contains-map (issued s) (taken m.treatment (fit s) (alternatives_at m k)) a.0 there)

  pub plays_run : (t : List Event) (s q : State U) → Contains (plays same m s t) q → Plays m s t q
  plays_run [] s q h = ⊎_elim sym (λ there. absurd (Contains-nil q there)) (Contains-cons_cases _ q [] h)
  plays_run (e ∷ t) s q h =
      let found = flat_contains (λ p. plays same m p t) (next same m s e) q h in
      (found.0, next_step s e found.0 found.1, plays_run t found.0 q found.2)

  pub run_plays : (t : List Event) (s q : State U) → Plays m s t q → Contains (plays same m s t) q
  run_plays [] s q h = rw h (Contains-head _ [])
  run_plays (e ∷ t) s q (middle, step, run) = contains_flat (λ p. plays same m p t) (next same m s e) middle q (step_next s e middle step) (run_plays t middle q run)

  pub accepts_decides : (t : List Event) → Decides (accepts same m t) (Accepted m t)
  accepts_decides t = (down, up)
    where
      down : accepts same m t ≡ true → Accepted m t
      down h =
          let left = some_contained (plays same m start t) (ltb-true 0 _ h) in
          accepted_from_runs m t (left.0, plays_run t start left.0 left.1)

      up : Accepted m t → accepts same m t ≡ true
      up h =
          let run = runs_from_accepted m t h in
          lt-ltb 0 _ (contained_some (plays same m start t) run.0 (run_plays t start run.0 run.1))

  -- so many events are accepted, or one of them is the first refused
  settled : (t : List Event) (n : ℕ) → n ≤ length t → Accepted m (take n t) ⊎ ((i : ℕ) × FirstRefused m t i)
  settled t zero h = inl (accepted_from_runs m [] (start, refl))
  settled t (suc n) h = ⊎_elim
      (λ before. by_test before (accepts same m (take (n + 1) t)) refl)
      inr
      (settled t n (omega arith))
    where
      by_test : Accepted m (take n t) → (b : Bool) → accepts same m (take (n + 1) t) ≡ b → Accepted m (take (suc n) t) ⊎ ((i : ℕ) × FirstRefused m t i)
      by_test before true e = inl (rw (← add-one n) ((accepts_decides (take (n + 1) t)).0 e))
      by_test before false e = inr (n, record { within = omega arith; before = before; refused = λ h'. both_ways _ e ((accepts_decides (take (n + 1) t)).1 h') })

  pub accepted_or_first_refused : (t : List Event) → Accepted m t ⊎ ((i : ℕ) × FirstRefused m t i)
  accepted_or_first_refused t = subst (λ (xs : List Event). Accepted m xs ⊎ ((i : ℕ) × FirstRefused m t i)) (take-length t) (settled t (length t) (omega arith))
