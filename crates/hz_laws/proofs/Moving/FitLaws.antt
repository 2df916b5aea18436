-- Moved pairs fit where the pairs did.
use Rattle.std.proofs.Common.{◌≡◌, ℕ, ◌+◌, ◌-◌, ◌<◌, ◌≤◌, List, [], ◌∷◌, ◌++◌, Contains, refl, sym, ap, ◌∙◌, subst, arith, ⊎_elim}
use Rattle.std.specs.Prelude.{◌↔◌}
use Rattle.std.proofs.lemmas.Bool.{cases_lt}
use Rattle.std.proofs.lemmas.List.{map-append}
use Rattle.std.proofs.lemmas.List.Elements.{Contains-append_right, Contains-append_cases}
use Rattle.hz_base_model.specs.Pairs.{Pair, later, placed}
use Rattle.hz_base_model.proofs.Elements.{Contains-nil, Contains-head, Contains-tail, Contains-map, Contains-from_map}
use Rattle.hz_description_model.specs.Reservations.Sets.{Statement, Holds, HoldsSome, HoldsPattern, AllowsIn, Fits}
use Rattle.hz_laws.specs.Moving.{moved_pair, moved_pairs, IsLate, IsTied}

module _ {U : Type 0} where
  -- both hold the same of the units that the statement names
  pub record Agrees (s : Statement U) (held other : U → Type 0) : Type 0 where
    pub units : (u : U) → Contains s.units u → held u ↔ other u
    pub patterns : (pattern : List U) → Contains s.patterns pattern → (u : U) → Contains pattern u → held u ↔ other u

  agrees_back : (s : Statement U) (held other : U → Type 0) → Agrees s held other → Agrees s other held
  agrees_back s held other h = record {
    units = λ u is. let e = h.units u is in (e.1, e.0);
    patterns = λ pattern there u is. let e = h.patterns pattern there u is in (e.1, e.0);
  }

  some_there : (s : Statement U) (held other : U → Type 0) → Agrees s held other → HoldsSome s.units held → HoldsSome s.units other
  some_there s held other h (u, is, have) = (u, is, (h.units u is).0 have)

  pattern_there : (s : Statement U) (held other : U → Type 0) → Agrees s held other → HoldsPattern s.patterns held → HoldsPattern s.patterns other
  pattern_there s held other h (pattern, there, all) = (pattern, there, λ u is. (h.patterns pattern there u is).0 (all u is))

  -- a statement depends on which of its units are held
  pub allows_agreed : (s : Statement U) (source added result source' added' result' : U → Type 0) → Agrees s source source' → Agrees s added added' → Agrees s result result' → AllowsIn s source added result → AllowsIn s source' added' result'
  allows_agreed s source added result source' added' result' so ad re h =
      let so' = agrees_back s source source' so in
      let ad' = agrees_back s added added' ad in
      let re' = agrees_back s result result' re in
      record {
        excluded = λ k x y. h.excluded k (some_there s result' result re' x) (pattern_there s result' result re' y);
        present = λ k x. pattern_there s source source' so (h.present k (some_there s added' added ad' x));
        finally_present = λ k x. pattern_there s result result' re (h.finally_present k (some_there s added' added ad' x));
        absent = λ k x y. h.absent k (some_there s added' added ad' x) (pattern_there s source' source so' y);
        finally_absent = λ k x y. h.finally_absent k (some_there s added' added ad' x) (pattern_there s result' result re' y);
      }

  -- nothing is asked where none of the statement's units is held
  allows_none : (s : Statement U) (source added result : U → Type 0) → ((u : U) → added u → result u) → ((u : U) → Contains s.units u → result u → ⊥) → AllowsIn s source added result
  allows_none s source added result within none = record {
    excluded = λ _ h _. none h.0 h.1 h.2;
    present = λ _ h. absurd (none h.0 h.1 (within h.0 h.2));
    finally_present = λ _ h. absurd (none h.0 h.1 (within h.0 h.2));
    absent = λ _ h _. none h.0 h.1 (within h.0 h.2);
    finally_absent = λ _ h _. none h.0 h.1 (within h.0 h.2);
  }

module _ {U : Type 0} (earlier : U → ℕ) where
  pub late_nil : IsLate earlier []
  late_nil p h = absurd (Contains-nil p h)

  pub late_append : (pairs others : List (Pair U)) → IsLate earlier pairs → IsLate earlier others → IsLate earlier (pairs ++ others)
  late_append pairs others a b p h = ⊎_elim (a p) (b p) (Contains-append_cases pairs others p h)

  pub late_placed : (n : ℕ) (pairs : List (Pair U)) → IsLate earlier pairs → IsLate earlier (placed n pairs)
  late_placed n pairs late p h =
      let found = Contains-from_map (later n) pairs p h in
      let low = late found.0 found.1 in
      let high : earlier (found.0).unit ≤ n + (found.0).cycle = omega (arith, low) in
      subst (λ (q : Pair U). earlier q.unit ≤ q.cycle) found.2 high

  -- what is placed and moved is what is moved and placed
  pub moved_placed : (n : ℕ) (pairs : List (Pair U)) → IsLate earlier pairs → placed n (moved_pairs earlier pairs) ≡ moved_pairs earlier (placed n pairs)
  moved_placed n [] late = refl
  moved_placed n (p ∷ pairs) late =
      let low = late p (Contains-head p pairs) in
      let cycles : n + (p.cycle - earlier p.unit) ≡ n + p.cycle - earlier p.unit = omega (arith, low) in
      ap (λ (c : ℕ). record { unit = p.unit; cycle = c } ∷ placed n (moved_pairs earlier pairs)) cycles
      ∙ ap (λ (ps : List (Pair U)). record { unit = p.unit; cycle = n + p.cycle - earlier p.unit } ∷ ps) (moved_placed n pairs (λ q h. late q (Contains-tail p q pairs h)))

  -- moved pairs hold a unit where the pairs hold it so many cycles later
  pub holds_moved : (pairs : List (Pair U)) → IsLate earlier pairs → (c : ℕ) (u : U) → Holds (moved_pairs earlier pairs) c u ↔ Holds pairs (earlier u + c) u
  holds_moved pairs late c u = (there, back)
    where
      there : Holds (moved_pairs earlier pairs) c u → Holds pairs (earlier u + c) u
      there h =
          let found = Contains-from_map (moved_pair earlier) pairs _ h in
          let p = found.0 in
          let low = late p found.1 in
          let unit : p.unit ≡ u = ap (λ (q : Pair U). q.unit) found.2 in
          let cycle : p.cycle - earlier p.unit ≡ c = ap (λ (q : Pair U). q.cycle) found.2 in
          let at : p.cycle ≡ earlier p.unit + c = omega (arith, low, cycle) in
          let first = subst (λ (n : ℕ). Contains pairs (record { unit = p.unit; cycle = n })) at found.1 in
          subst (λ (v : U). Contains pairs (record { unit = v; cycle = earlier v + c })) unit first

      back : Holds pairs (earlier u + c) u → Holds (moved_pairs earlier pairs) c u
      back h =
          let at : earlier u + c - earlier u ≡ c = omega arith in
          subst (λ (n : ℕ). Holds (moved_pairs earlier pairs) n u) at (Contains-map (moved_pair earlier) pairs _ h)

  -- before so many cycles the unit is not held
  holds_late : (pairs : List (Pair U)) → IsLate earlier pairs → (c : ℕ) (u : U) → c < earlier u → Holds pairs c u → ⊥
  holds_late pairs late c u early h = let low = late _ h in absurd (omega (arith, early, low))

  -- of the units of a tied statement the same is held, so many cycles later
  agrees_moved : (s : Statement U) (tied : IsTied earlier s) (pairs : List (Pair U)) → IsLate earlier pairs → (c : ℕ) → Agrees s (Holds (moved_pairs earlier pairs) c) (Holds pairs (tied.cycles + c))
  agrees_moved s tied pairs late c = record {
    units = λ u is. subst (λ (n : ℕ). Holds (moved_pairs earlier pairs) c u ↔ Holds pairs (n + c) u) (tied.units u is) (holds_moved pairs late c u);
    patterns = λ pattern there u is. subst (λ (n : ℕ). Holds (moved_pairs earlier pairs) c u ↔ Holds pairs (n + c) u) (tied.patterns pattern there u is) (holds_moved pairs late c u);
  }

  module _ (statements : List (Statement U)) (tied : (s : Statement U) → Contains statements s → IsTied earlier s) (source pairs : List (Pair U)) (now : ℕ) (late_source : IsLate earlier source) (late_pairs : IsLate earlier pairs) where
    abbrev added : List (Pair U)
    added = placed now pairs

    late_added : IsLate earlier added
    late_added = late_placed now pairs late_pairs

    late_result : IsLate earlier (source ++ added)
    late_result = late_append source added late_source late_added

    abbrev Allows : Statement U → ℕ → Type 0
    Allows s c = AllowsIn s (Holds source c) (Holds added c) (Holds (source ++ added) c)

    abbrev AllowsMoved : Statement U → ℕ → Type 0
    AllowsMoved s c = AllowsIn s (Holds (moved_pairs earlier source) c) (Holds (moved_pairs earlier added) c) (Holds (moved_pairs earlier (source ++ added)) c)

    allows_there : (s : Statement U) (t : IsTied earlier s) (c : ℕ) → Allows s (t.cycles + c) → AllowsMoved s c
    allows_there s t c h = allows_agreed s _ _ _ _ _ _
        (agrees_back s _ _ (agrees_moved s t source late_source c))
        (agrees_back s _ _ (agrees_moved s t added late_added c))
        (agrees_back s _ _ (agrees_moved s t (source ++ added) late_result c)) h

    allows_here : (s : Statement U) (t : IsTied earlier s) (c : ℕ) → AllowsMoved s c → Allows s (t.cycles + c)
    allows_here s t c h = allows_agreed s _ _ _ _ _ _
        (agrees_moved s t source late_source c)
        (agrees_moved s t added late_added c)
        (agrees_moved s t (source ++ added) late_result c) h

    within : (c : ℕ) (u : U) → Holds added c u → Holds (source ++ added) c u
    within c u h = Contains-append_right source added _ h

    allows_back : (s : Statement U) → IsTied earlier s → ((c : ℕ) → AllowsMoved s c) → (c : ℕ) → Allows s c
    allows_back s t h c = ⊎_elim
        (λ (early : c < t.cycles). allows_none s _ _ _ (within c) (λ u is. holds_late (source ++ added) late_result c u (subst (λ (n : ℕ). c < n) (sym (t.units u is)) early)))
        (λ (late : t.cycles ≤ c).
        let at : t.cycles + (c - t.cycles) ≡ c = omega (arith, late) in
        subst (Allows s) at (allows_here s t (c - t.cycles) (h (c - t.cycles))))
        (cases_lt c t.cycles)

    -- the moved pairs that are added, as they stand in the moved calendar
    placed_there : placed now (moved_pairs earlier pairs) ≡ moved_pairs earlier added
    placed_there = moved_placed now pairs late_pairs

    fits_there : Fits statements source pairs now → Fits statements (moved_pairs earlier source) (moved_pairs earlier pairs) now
    fits_there h = record {
      apart = λ p x y. h.apart (record { unit = p.unit; cycle = earlier p.unit + p.cycle })
          ((holds_moved source late_source p.cycle p.unit).0 x)
          ((holds_moved added late_added p.cycle p.unit).0 (subst (λ (ps : List (Pair U)). Contains ps p) placed_there y));
      allowed = λ s is c. rw (placed_there, ← map-append (moved_pair earlier) source added) (allows_there s (tied s is) c (h.allowed s is ((tied s is).cycles + c)));
    }

    allowed_there : Fits statements (moved_pairs earlier source) (moved_pairs earlier pairs) now → (s : Statement U) → Contains statements s → (c : ℕ) → AllowsMoved s c
    allowed_there h s is c = rw (map-append (moved_pair earlier) source added, ← placed_there) (h.allowed s is c)

    fits_back : Fits statements (moved_pairs earlier source) (moved_pairs earlier pairs) now → Fits statements source pairs now
    fits_back h = record {
      apart = λ p x y. h.apart (moved_pair earlier p)
          (Contains-map (moved_pair earlier) source p x)
          (subst (λ (ps : List (Pair U)). Contains ps (moved_pair earlier p)) (sym placed_there) (Contains-map (moved_pair earlier) added p y));
      allowed = λ s is. allows_back s (tied s is) (allowed_there h s is);
    }

    pub fits_moved : Fits statements source pairs now ↔ Fits statements (moved_pairs earlier source) (moved_pairs earlier pairs) now
    fits_moved = (fits_there, fits_back)
