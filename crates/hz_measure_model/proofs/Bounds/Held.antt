-- What a run holds of one unit: at least so many different cycles, none far from those of its issues.
use Rattle.std.proofs.Common.{◌≡◌, ℕ, ◌+◌, ◌-◌, ◌<◌, ◌≤◌, ⊎_elim, List, [], ◌∷◌, ◌++◌, map, length, Contains, sym, ap, subst, arith, zero-add}
use Rattle.std.specs.List.{AllPairs}
use Rattle.std.proofs.lemmas.List.{length-map, length-append}
use Rattle.std.proofs.lemmas.List.Elements.{Contains-append_left, Contains-append_right, Contains-append_cases}
use Rattle.hz_base_model.specs.Pairs.{Pair, later, placed}
use Rattle.hz_base_model.proofs.Elements.{Contains-nil, Contains-head, Contains-tail, Contains-map, Contains-from_map}
use Rattle.hz_base_model.proofs.Ascending.{AllPairs-append, AllPairs-map}
use Rattle.hz_pipeline_model.specs.Accepting.Events.{Event, issue, advance, ask, cycles_of}
use Rattle.hz_pipeline_model.specs.Accepting.Replay.{Pipeline, State, start, alternatives_at, chosen, Plays, Accepted}
use Rattle.hz_pipeline_model.proofs.Accepting.ReplayLaws.{runs_from_accepted}
use Rattle.hz_measure_model.proofs.Bounds.Numbers.{Differs, few_between}

-- what the issues ask for together, by what each class asks for
abbrev pub asked : (ℕ → ℕ) → List Event → ℕ
asked force [] = 0
asked force (issue k ∷ t) = force k + asked force t
asked force (advance n ∷ t) = asked force t
asked force (ask a q ∷ t) = asked force t

module _ {U : Type 0} (u : U) (low high : ℕ) where
  abbrev at : ℕ → Pair U
  at c = record { unit = u; cycle = c }

  -- Pairs take the unit in as many different cycles, all of which lie within two.
  pub record Offers (n : ℕ) (pairs : List (Pair U)) : Type 0 where
    pub cycles : List ℕ
    pub enough : n ≤ length cycles
    pub different : AllPairs Differs cycles
    pub there : (c : ℕ) → Contains cycles c → Contains pairs (at c)
    pub within : (c : ℕ) → Contains cycles c → (low ≤ c) × (c ≤ high)

  -- What stands reserved has the unit in as many different cycles, none of them later than an issue now may ask for.
  pub record Holds (n : ℕ) (s : State U) : Type 0 where
    pub cycles : List ℕ
    pub enough : n ≤ length cycles
    pub different : AllPairs Differs cycles
    pub there : (c : ℕ) → Contains cycles c → Contains s.reserved (at c)
    pub within : (c : ℕ) → Contains cycles c → (low ≤ c) × (c ≤ s.now + high)

  pub none_held : Holds 0 start
  none_held = record { cycles = []; enough = omega arith; different = λ i j d lt inside. absurd (omega (arith, inside)); there = λ c h. absurd (Contains-nil c h); within = λ c h. absurd (Contains-nil c h) }

  pub waits : (n more : ℕ) (s : State U) → Holds n s → Holds n (record { reserved = s.reserved; now = more + s.now })
  waits n more s h = record { cycles = h.cycles; enough = h.enough; different = h.different; there = h.there; within = λ c is. let (a, b) = h.within c is in (a, omega arith) }

  -- pairs that fit add as many cycles as they take
  module _ (n k : ℕ) (s : State U) (pairs : List (Pair U)) (apart : (p : Pair U) → Contains s.reserved p → Contains (placed s.now pairs) p → ⊥) (h : Holds n s) (o : Offers k pairs) where
    abbrev new_cycles : List ℕ
    new_cycles = map (λ c. s.now + c) o.cycles

    new_there : (c : ℕ) → Contains new_cycles c → Contains (placed s.now pairs) (at c)
    new_there c is =
        let (b, there, same) = Contains-from_map (λ (c : ℕ). s.now + c) o.cycles c is in
        subst (λ (z : ℕ). Contains (placed s.now pairs) (at z)) same (Contains-map (later s.now) pairs (at b) (o.there b there))

    new_within : (c : ℕ) → Contains new_cycles c → (low ≤ c) × (c ≤ s.now + high)
    new_within c is =
        let (b, there, same) = Contains-from_map (λ (c : ℕ). s.now + c) o.cycles c is in
        let (above, below) = o.within b there in
        (omega (arith, same), omega (arith, same))

    new_different : AllPairs Differs new_cycles
    new_different = AllPairs-map Differs Differs (λ c. s.now + c) (λ a b differ e. differ (omega (arith, e))) 0 o.cycles o.different

    pub adds : Holds (k + n) (record { reserved = s.reserved ++ placed s.now pairs; now = s.now })
    adds = record {
      cycles = h.cycles ++ new_cycles;
      enough = omega (arith, h.enough, o.enough, length-append h.cycles new_cycles, length-map o.cycles (λ (c : ℕ). s.now + c));
      different = AllPairs-append Differs h.cycles new_cycles h.different new_different (λ a b there here e. apart (at a) (h.there a there) (subst (λ (z : ℕ). Contains (placed s.now pairs) (at z)) (sym e) (new_there b here)));
      there = λ c is. ⊎_elim
          (λ (x : Contains h.cycles c). Contains-append_left s.reserved (placed s.now pairs) (at c) (h.there c x))
          (λ (x : Contains new_cycles c). Contains-append_right s.reserved (placed s.now pairs) (at c) (new_there c x))
          (Contains-append_cases h.cycles new_cycles c is);
      within = λ c is. ⊎_elim (λ (x : Contains h.cycles c). h.within c x) (λ (x : Contains new_cycles c). new_within c x) (Contains-append_cases h.cycles new_cycles c is);
    }

module _ {U : Type 0} (m : Pipeline U) (u : U) (force : ℕ → ℕ) (low high : ℕ) where
  -- a run holds what its issues ask for
  run_holds : (t : List Event) (n : ℕ) (old new : State U) → ((k i : ℕ) → Contains t (issue k) → i < length (alternatives_at m k) → Offers u low high (force k) (chosen m k i)) → Plays m old t new → Holds u low high n old → (new.now ≡ cycles_of t + old.now) × Holds u low high (asked force t + n) new
  run_holds [] n old new offers run h = (rw run (omega arith), rw (run, zero-add) h)
  run_holds (advance more ∷ t) n old new offers (middle, step, run) h =
      let (now, is) = run_holds t n middle new (λ k i there. offers k i (Contains-tail (advance more) (issue k) t there)) run (rw step (waits u low high n more old h)) in
      let e = ap (λ (s : State U). s.now) step in
      (omega (arith, now, e), is)
  run_holds (ask a q ∷ t) n old new offers (middle, step, run) h =
      let (now, is) = run_holds t n middle new (λ k i there. offers k i (Contains-tail (ask a q) (issue k) t there)) run (rw step h) in
      let e = ap (λ (s : State U). s.now) step in
      (omega (arith, now, e), is)
  run_holds (issue k ∷ t) n old new offers (middle, (i, may, step), run) h =
      let fits = may.fits in
      let first = adds u low high n (force k) old (chosen m k i) (fits.1).apart h (offers k i (Contains-head (issue k) t) fits.0) in
      let (now, is) = run_holds t (force k + n) middle new (λ j o there. offers j o (Contains-tail (issue k) (issue j) t there)) run (rw step first) in
      let e = ap (λ (s : State U). s.now) step in
      let sum : asked force t + (force k + n) ≡ force k + asked force t + n = omega arith in
      (omega (arith, now, e), subst (λ (z : ℕ). Holds u low high z new) sum is)

  -- what the issues ask for finds room from the first cycle of the unit to the last
  pub room : (t : List Event) → ((k i : ℕ) → Contains t (issue k) → i < length (alternatives_at m k) → Offers u low high (force k) (chosen m k i)) → Accepted m t → low ≤ high → asked force t ≤ cycles_of t + (high - low) + 1
  room t offers accepted le =
      let (s, run) = runs_from_accepted m t accepted in
      let (now, h) = run_holds t 0 start s offers run (none_held u low high) in
      let few = few_between low (s.now + (high - low) + 1) h.cycles h.different (λ c is. let (a, b) = h.within c is in (a, omega arith)) in
      omega (arith, now, few, h.enough)
