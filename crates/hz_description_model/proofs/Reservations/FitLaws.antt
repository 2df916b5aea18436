-- Fitting depends on differences of cycles alone.
use Rattle.std.proofs.Common.{◌≡◌, ℕ, ◌+◌, ◌-◌, ◌<◌, List, [], ◌∷◌, ◌++◌, Contains, refl, sym, ap, ◌∙◌, subst, arith, add_assoc, ⊎_elim}
use Rattle.std.specs.Prelude.{◌↔◌}
use Rattle.std.proofs.lemmas.Bool.{cases_lt}
use Rattle.std.proofs.lemmas.List.{map-append}
use Rattle.hz_base_model.specs.Pairs.{Pair, later, placed}
use Rattle.hz_description_model.specs.Reservations.Sets.{Statement, Holds, HoldsSome, HoldsPattern, AllowsIn, Fits}
use Rattle.hz_base_model.proofs.Elements.{Contains-map, Contains-from_map}

pub iff_back : (A B : Type 0) → A ↔ B → B ↔ A
iff_back A B h = (h.1, h.0)

module _ {U : Type 0} where
  pub placed_placed : (n k : ℕ) (pairs : List (Pair U)) → placed n (placed k pairs) ≡ placed (n + k) pairs
  placed_placed n k [] = refl
  placed_placed n k (p ∷ pairs) = rw (add_assoc n k p.cycle, placed_placed n k pairs) refl

  later_same : (n : ℕ) (p q : Pair U) → later n p ≡ later n q → p ≡ q
  later_same n p q e =
      let cycles : p.cycle ≡ q.cycle = omega (arith, ap (λ (r : Pair U). r.cycle) e) in
      let units : p.unit ≡ q.unit = ap (λ (r : Pair U). r.unit) e in
      ap (λ (u : U). record { unit = u; cycle = p.cycle }) units ∙ ap (λ (c : ℕ). record { unit = q.unit; cycle = c }) cycles

  back : (n : ℕ) (pairs : List (Pair U)) (p : Pair U) → Contains (placed n pairs) (later n p) → Contains pairs p
  back n pairs p h =
      let found = Contains-from_map (later n) pairs (later n p) h in
      subst (λ (q : Pair U). Contains pairs q) (later_same n found.0 p found.2) found.1

  -- no statement asks anything where no unit is held
  pub allows_idle : (s : Statement U) (source added result : U → Type 0) → ((u : U) → added u → result u) → ((u : U) → result u → ⊥) → AllowsIn s source added result
  allows_idle s source added result within none = record {
    excluded = λ _ h _. none h.0 h.2;
    present = λ _ h. absurd (none h.0 (within h.0 h.2));
    finally_present = λ _ h. absurd (none h.0 (within h.0 h.2));
    absent = λ _ h _. none h.0 (within h.0 h.2);
    finally_absent = λ _ h _. none h.0 (within h.0 h.2);
  }

  pub some_with : (units : List U) (old new : U → Type 0) → ((u : U) → old u → new u) → HoldsSome units old → HoldsSome units new
  some_with units old new into h = (h.0, h.1, into h.0 h.2)

  pub pattern_with : (patterns : List (List U)) (old new : U → Type 0) → ((u : U) → old u → new u) → HoldsPattern patterns old → HoldsPattern patterns new
  pattern_with patterns old new into h = (h.0, h.1, λ u is. into u (h.2 u is))

  -- a statement depends on which units are held
  pub allows_same : (s : Statement U) (source added result source' added' result' : U → Type 0) → ((u : U) → source u ↔ source' u) → ((u : U) → added u ↔ added' u) → ((u : U) → result u ↔ result' u) → AllowsIn s source added result → AllowsIn s source' added' result'
  allows_same s source added result source' added' result' so ad re h = record {
    excluded = λ k x y. h.excluded k (some_with s.units result' result (λ u. (re u).1) x) (pattern_with s.patterns result' result (λ u. (re u).1) y);
    present = λ k x. pattern_with s.patterns source source' (λ u. (so u).0) (h.present k (some_with s.units added' added (λ u. (ad u).1) x));
    finally_present = λ k x. pattern_with s.patterns result result' (λ u. (re u).0) (h.finally_present k (some_with s.units added' added (λ u. (ad u).1) x));
    absent = λ k x y. h.absent k (some_with s.units added' added (λ u. (ad u).1) x) (pattern_with s.patterns source' source (λ u. (so u).1) y);
    finally_absent = λ k x y. h.finally_absent k (some_with s.units added' added (λ u. (ad u).1) x) (pattern_with s.patterns result' result (λ u. (re u).1) y);
  }

  -- what is held in a cycle is held n cycles later where it is moved
  pub holds_moved : (n cycle : ℕ) (pairs : List (Pair U)) (u : U) → Holds pairs cycle u ↔ Holds (placed n pairs) (n + cycle) u
  holds_moved n cycle pairs u = (λ h. Contains-map (later n) pairs (record { unit = u; cycle = cycle }) h, λ h. back n pairs (record { unit = u; cycle = cycle }) h)

  pub holds_none : (n cycle : ℕ) (pairs : List (Pair U)) (u : U) → cycle < n → Holds (placed n pairs) cycle u → ⊥
  holds_none n cycle pairs u early h =
      let found = Contains-from_map (later n) pairs (record { unit = u; cycle = cycle }) h in
      absurd (omega (arith, ap (λ (r : Pair U). r.cycle) found.2))

  allows_moved : (s : Statement U) (source added : List (Pair U)) (n cycle : ℕ) → ((c : ℕ) → AllowsIn s (Holds source c) (Holds added c) (Holds (source ++ added) c))
      → AllowsIn s (Holds (placed n source) cycle) (Holds (placed n added) cycle) (Holds (placed n (source ++ added)) cycle)
  allows_moved s source added n cycle each = ⊎_elim
      (λ early. allows_idle s _ _ _ (λ u h. absurd (holds_none n cycle added u early h)) (λ u. holds_none n cycle (source ++ added) u early))
      (λ late.
      let same : n + (cycle - n) ≡ cycle = omega arith in
      subst (λ (c : ℕ). AllowsIn s (Holds (placed n source) c) (Holds (placed n added) c) (Holds (placed n (source ++ added)) c)) same
      (allows_same s _ _ _ _ _ _ (holds_moved n (cycle - n) source) (holds_moved n (cycle - n) added) (holds_moved n (cycle - n) (source ++ added)) (each (cycle - n))))
      (cases_lt cycle n)

  allows_back : (s : Statement U) (source added : List (Pair U)) (n cycle : ℕ) → AllowsIn s (Holds (placed n source) (n + cycle)) (Holds (placed n added) (n + cycle)) (Holds (placed n (source ++ added)) (n + cycle))
      → AllowsIn s (Holds source cycle) (Holds added cycle) (Holds (source ++ added) cycle)
  allows_back s source added n cycle h = allows_same s _ _ _ _ _ _
      (λ u. iff_back _ _ (holds_moved n cycle source u)) (λ u. iff_back _ _ (holds_moved n cycle added u)) (λ u. iff_back _ _ (holds_moved n cycle (source ++ added) u)) h

  -- moved n cycles later, with what was there, pairs fit as before
  pub fits_moved : (statements : List (Statement U)) (source pairs : List (Pair U)) (n now : ℕ) → Fits statements source pairs now → Fits statements (placed n source) pairs (n + now)
  fits_moved statements source pairs n now h = record {
    apart = λ p there here.
        let first = Contains-from_map (later n) source p there in
        let second = Contains-from_map (later n) (placed now pairs) p (rw placed_placed here) in
        h.apart first.0 first.1 (subst (λ (q : Pair U). Contains (placed now pairs) q) (later_same n second.0 first.0 (second.2 ∙ sym first.2)) second.1);
    allowed = λ s is cycle. rw (← placed_placed n now pairs, ← map-append (later n) source (placed now pairs)) (allows_moved s source (placed now pairs) n cycle (h.allowed s is));
  }

  pub fits_back : (statements : List (Statement U)) (source pairs : List (Pair U)) (n now : ℕ) → Fits statements (placed n source) pairs (n + now) → Fits statements source pairs now
  fits_back statements source pairs n now h = record {
    apart = λ p there here. h.apart (later n p) (Contains-map (later n) source p there) (rw (← placed_placed n now pairs) (Contains-map (later n) (placed now pairs) p here));
    allowed = λ s is cycle. allows_back s source (placed now pairs) n cycle (rw (placed_placed, map-append, placed_placed) (h.allowed s is (n + cycle)));
  }
