-- What is named forbids, and what does not fit has something that is named.
use Rattle.std.proofs.Common.{◌≡◌, ℕ, suc, ◌+◌, ⊎_elim, Bool, true, false, not, List, [], ◌∷◌, ◌++◌, Contains, Option, Some, None, refl, sym, ◌∙◌, subst, arith}
use Rattle.std.specs.Prelude.{◌&&◌, ◌||◌, ◌==◌, slice_get, unwrap_or}
use Rattle.std.specs.List.{find, list_any, list_all}
use Rattle.std.specs.Option.{option_map, option_and_then}
use Rattle.std.proofs.lemmas.Bool.{and_parts, not-true, both_ways, eqb-true, eq-eqb}
use Rattle.std.proofs.lemmas.List.Elements.{Contains-append_cases}
use Rattle.hz_base_model.specs.Pairs.{Pair, placed}
use Rattle.hz_description_model.specs.Reservations.Sets.{SetKind, exclusion, presence, final_presence, absence, final_absence, Statement, Holds, HoldsSome, HoldsPattern, AllowsIn, Fits}
use Rattle.hz_pipeline_model.specs.Accepting.Plays.{Tells, has, holds, holds_pattern, asks}
use Rattle.hz_pipeline_model.specs.Accepting.Fitting.{IsUnbroken}
use Rattle.hz_pipeline_model.proofs.Accepting.PlayLaws.{has_decides}
use Rattle.hz_pipeline_model.proofs.Accepting.FittingLaws.{allows_unadded}
use Rattle.hz_base_model.proofs.Elements.{Contains-nil, Contains-cons_cases}
use Rattle.hz_why_model.specs.Reasons.{Reason, taken, broken, IsHeldOf, IsWholeOf, BreaksBy, Forbids, or_else, first_whole, breaking, breaking_pattern, is_broken_in, broken_in, broken_first, first_broken, first_reason}
use Rattle.hz_why_model.proofs.Finding.{Contains-at, found, none_passes, found_any, any_from, each_passes, all_from}

module _ {U : Type 0} where
  -- what breaks a statement in a cycle keeps it from allowing the cycle
  pub breaks : (kind : SetKind) (units : List U) (patterns : List (List U)) (source added result : U → Type 0) (unit : U) (pattern : List U)
      → BreaksBy kind units patterns source added result unit pattern → AllowsIn (record { kind = kind; units = units; patterns = patterns }) source added result → ⊥
  breaks exclusion units patterns source added result unit pattern h allows = allows.excluded refl (unit, h.0.0, h.0.1) (pattern, h.1.0, h.1.1)
  breaks presence units patterns source added result unit pattern h allows = h.1 (allows.present refl (unit, h.0.0, h.0.1))
  breaks final_presence units patterns source added result unit pattern h allows = h.1 (allows.finally_present refl (unit, h.0.0, h.0.1))
  breaks absence units patterns source added result unit pattern h allows = allows.absent refl (unit, h.0.0, h.0.1) (pattern, h.1.0, h.1.1)
  breaks final_absence units patterns source added result unit pattern h allows = allows.finally_absent refl (unit, h.0.0, h.0.1) (pattern, h.1.0, h.1.1)

  pub forbidden : (statements : List (Statement U)) (source pairs : List (Pair U)) (now : ℕ) (reason : Reason U) → Forbids statements source (placed now pairs) reason → Fits statements source pairs now → ⊥
  forbidden statements source pairs now (taken p) h fits = fits.apart p h.0 h.1
  forbidden statements source pairs now (broken n cycle unit pattern) (s, is, h) fits =
      breaks s.kind s.units s.patterns _ _ _ unit pattern h (fits.allowed s (Contains-at statements n s is) cycle)

-- ---- tests

pub not_false : (b : Bool) → not b ≡ false → b ≡ true
not_false true h = refl
not_false false h = cc

or_false : (a b : Bool) → (a || b) ≡ false → (a ≡ false) × (b ≡ false)
or_false true b h = absurd (cc)
or_false false b h = (refl, h)

then_true : (a b : Bool) → (not a || b) ≡ true → a ≡ true → b ≡ true
then_true true b h e = h
then_true false b h e = absurd (cc)

not_both : (a b : Bool) → not (a && b) ≡ true → a ≡ true → b ≡ true → ⊥
not_both true true h d e = cc
not_both true false h d e = cc
not_both false b h d e = cc

module _ {U : Type 0} (same : U → U → Bool) (tells : Tells same) where
  -- ---- what is held, as tests tell

  pub test_of : (pairs : List (Pair U)) (cycle : ℕ) (u : U) → Holds pairs cycle u → holds same pairs cycle u ≡ true
  test_of pairs cycle u h = (has_decides same tells pairs (record { unit = u; cycle = cycle })).1 h

  pub held_of : (pairs : List (Pair U)) (cycle : ℕ) (u : U) → holds same pairs cycle u ≡ true → Holds pairs cycle u
  held_of pairs cycle u h = (has_decides same tells pairs (record { unit = u; cycle = cycle })).0 h

  pub whole_of : (pairs : List (Pair U)) (cycle : ℕ) (pattern : List U) → list_all (holds same pairs cycle) pattern ≡ true → (u : U) → Contains pattern u → Holds pairs cycle u
  whole_of pairs cycle pattern h u is = held_of pairs cycle u (each_passes (holds same pairs cycle) pattern h u is)

  pattern_test : (pairs : List (Pair U)) (cycle : ℕ) (patterns : List (List U)) → HoldsPattern patterns (Holds pairs cycle) → holds_pattern patterns (holds same pairs cycle) ≡ true
  pattern_test pairs cycle patterns (pattern, is, whole) =
      any_from _ patterns pattern is (all_from (holds same pairs cycle) pattern (λ u there. test_of pairs cycle u (whole u there)))

  pattern_of : (pairs : List (Pair U)) (cycle : ℕ) (patterns : List (List U)) → holds_pattern patterns (holds same pairs cycle) ≡ true → HoldsPattern patterns (Holds pairs cycle)
  pattern_of pairs cycle patterns h =
      let first = found_any _ patterns h in
      let is = found _ patterns first.0 first.1 in
      (first.0, is.0, whole_of pairs cycle first.0 is.1)

  some_test : (pairs : List (Pair U)) (cycle : ℕ) (units : List U) → HoldsSome units (Holds pairs cycle) → list_any (holds same pairs cycle) units ≡ true
  some_test pairs cycle units (u, is, there) = any_from (holds same pairs cycle) units u is (test_of pairs cycle u there)

  -- the first pattern that is whole, where there is one
  first_is_whole : (pairs : List (Pair U)) (cycle : ℕ) (patterns : List (List U)) → holds_pattern patterns (holds same pairs cycle) ≡ true → IsWholeOf patterns (Holds pairs cycle) (first_whole patterns (holds same pairs cycle))
  first_is_whole pairs cycle patterns h =
      let first = found_any (λ pattern. list_all (holds same pairs cycle) pattern) patterns h in
      let is = found _ patterns first.0 first.1 in
      subst (λ (o : Option (List U)). IsWholeOf patterns (Holds pairs cycle) (unwrap_or o [])) (sym first.1) (is.0, whole_of pairs cycle first.0 is.1)

  no_pattern : (pairs : List (Pair U)) (cycle : ℕ) (patterns : List (List U)) → holds_pattern patterns (holds same pairs cycle) ≡ false → HoldsPattern patterns (Holds pairs cycle) → ⊥
  no_pattern pairs cycle patterns h there = both_ways _ h (pattern_test pairs cycle patterns there)

  module _ (source added : List (Pair U)) (cycle : ℕ) where
    abbrev so : U → Bool
    so = holds same source cycle

    abbrev ad : U → Bool
    ad = holds same added cycle

    abbrev re : U → Bool
    re = holds same (source ++ added) cycle

    abbrev BreaksHere : SetKind → List U → List (List U) → U → List U → Type 0
    BreaksHere kind units patterns = BreaksBy kind units patterns (Holds source cycle) (Holds added cycle) (Holds (source ++ added) cycle)

    unit_of : (pairs : List (Pair U)) (units : List U) (u : U) → find (holds same pairs cycle) units ≡ Some u → IsHeldOf units (Holds pairs cycle) u
    unit_of pairs units u h = let is = found (holds same pairs cycle) units u h in (is.0, held_of pairs cycle u is.1)

    -- the unit and the pattern that are named break a statement that does not allow the cycle
    pub broken_by : (kind : SetKind) (units : List U) (patterns : List (List U)) (u : U) → asks kind units patterns so ad re ≡ false → find (breaking kind ad re) units ≡ Some u → BreaksHere kind units patterns u (breaking_pattern kind patterns so re)
    broken_by exclusion units patterns u h is =
        let both = and_parts (list_any re units) (holds_pattern patterns re) (not_false _ h) in
        (unit_of (source ++ added) units u is, first_is_whole (source ++ added) cycle patterns both.1)
    broken_by presence units patterns u h is = (unit_of added units u is, no_pattern source cycle patterns (or_false _ _ h).1)
    broken_by final_presence units patterns u h is = (unit_of added units u is, no_pattern (source ++ added) cycle patterns (or_false _ _ h).1)
    broken_by absence units patterns u h is =
        let both = and_parts (list_any ad units) (holds_pattern patterns so) (not_false _ h) in
        (unit_of added units u is, first_is_whole source cycle patterns both.1)
    broken_by final_absence units patterns u h is =
        let both = and_parts (list_any ad units) (holds_pattern patterns re) (not_false _ h) in
        (unit_of added units u is, first_is_whole (source ++ added) cycle patterns both.1)

    -- some unit breaks it
    pub breaking_unit : (kind : SetKind) (units : List U) (patterns : List (List U)) → asks kind units patterns so ad re ≡ false → (u : U) × (find (breaking kind ad re) units ≡ Some u)
    breaking_unit exclusion units patterns h = found_any re units (and_parts (list_any re units) (holds_pattern patterns re) (not_false _ h)).0
    breaking_unit presence units patterns h = found_any ad units (not_false _ (or_false _ _ h).0)
    breaking_unit final_presence units patterns h = found_any ad units (not_false _ (or_false _ _ h).0)
    breaking_unit absence units patterns h = found_any ad units (and_parts (list_any ad units) (holds_pattern patterns so) (not_false _ h)).0
    breaking_unit final_absence units patterns h = found_any ad units (and_parts (list_any ad units) (holds_pattern patterns re) (not_false _ h)).0

    abbrev AllowsHere : SetKind → List U → List (List U) → Type 0
    AllowsHere kind units patterns = AllowsIn (record { kind = kind; units = units; patterns = patterns }) (Holds source cycle) (Holds added cycle) (Holds (source ++ added) cycle)

    -- a statement that passes its test allows the cycle
    pub allowed_by : (kind : SetKind) (units : List U) (patterns : List (List U)) → asks kind units patterns so ad re ≡ true → AllowsHere kind units patterns
    allowed_by exclusion units patterns h = record {
      excluded = λ _ x y. not_both _ _ h (some_test (source ++ added) cycle units x) (pattern_test (source ++ added) cycle patterns y);
      present = λ e. absurd (cc);
      finally_present = λ e. absurd (cc);
      absent = λ e. absurd (cc);
      finally_absent = λ e. absurd (cc);
    }
    allowed_by presence units patterns h = record {
      excluded = λ e. absurd (cc);
      present = λ _ x. pattern_of source cycle patterns (then_true _ _ h (some_test added cycle units x));
      finally_present = λ e. absurd (cc);
      absent = λ e. absurd (cc);
      finally_absent = λ e. absurd (cc);
    }
    allowed_by final_presence units patterns h = record {
      excluded = λ e. absurd (cc);
      present = λ e. absurd (cc);
      finally_present = λ _ x. pattern_of (source ++ added) cycle patterns (then_true _ _ h (some_test added cycle units x));
      absent = λ e. absurd (cc);
      finally_absent = λ e. absurd (cc);
    }
    allowed_by absence units patterns h = record {
      excluded = λ e. absurd (cc);
      present = λ e. absurd (cc);
      finally_present = λ e. absurd (cc);
      absent = λ _ x y. not_both _ _ h (some_test added cycle units x) (pattern_test source cycle patterns y);
      finally_absent = λ e. absurd (cc);
    }
    allowed_by final_absence units patterns h = record {
      excluded = λ e. absurd (cc);
      present = λ e. absurd (cc);
      finally_present = λ e. absurd (cc);
      absent = λ e. absurd (cc);
      finally_absent = λ _ x y. not_both _ _ h (some_test added cycle units x) (pattern_test (source ++ added) cycle patterns y);
    }

-- How a reason breaks a statement of this number.
record How {U : Type 0} (source added : List (Pair U)) (n : ℕ) (s : Statement U) (reason : Reason U) : Type 0 where
  cycle : ℕ
  unit : U
  pattern : List U
  is : reason ≡ broken n cycle unit pattern
  how : BreaksBy s.kind s.units s.patterns (Holds source cycle) (Holds added cycle) (Holds (source ++ added) cycle) unit pattern

-- The reason breaks one of the statements, of which the first has this number.
record BreaksOne {U : Type 0} (source added : List (Pair U)) (n : ℕ) (statements : List (Statement U)) (reason : Reason U) : Type 0 where
  place : ℕ
  statement : Statement U
  at : slice_get statements place ≡ Some statement
  broke : How source added (n + place) statement reason

module _ {U : Type 0} (same : U → U → Bool) (tells : Tells same) (source added : List (Pair U)) where
  -- ---- what is named breaks a statement

  in_by : (n : ℕ) (s : Statement U) (cycle : ℕ) (reason : Reason U) → is_broken_in same source added s cycle ≡ true → (o : Option U) → find (breaking s.kind (holds same added cycle) (holds same (source ++ added) cycle)) s.units ≡ o
      → option_map (λ u. broken n cycle u (breaking_pattern s.kind s.patterns (holds same source cycle) (holds same (source ++ added) cycle))) o ≡ Some reason → How source added n s reason
  in_by n s cycle reason breaks None e h = absurd (cc)
  in_by n s cycle reason breaks (Some u) e h = record {
    cycle = cycle;
    unit = u;
    pattern = breaking_pattern s.kind s.patterns (holds same source cycle) (holds same (source ++ added) cycle);
    is = cc;
    how = broken_by same tells source added cycle s.kind s.units s.patterns u (not-true _ breaks) e;
  }

  first_by : (n : ℕ) (s : Statement U) (reason : Reason U) → (o : Option (Pair U)) → find (λ p. is_broken_in same source added s p.cycle) added ≡ o
      → option_and_then (λ p. broken_in same source added n s p.cycle) o ≡ Some reason → How source added n s reason
  first_by n s reason None e h = absurd (cc)
  first_by n s reason (Some p) e h = in_by n s p.cycle reason (found (λ (q : Pair U). is_broken_in same source added s q.cycle) added p e).1 _ refl h

  broken_first_breaks : (n : ℕ) (s : Statement U) (reason : Reason U) → broken_first same source added n s ≡ Some reason → How source added n s reason
  broken_first_breaks n s reason h = first_by n s reason _ refl h

  breaks_later : (n : ℕ) (s : Statement U) (others : List (Statement U)) (reason : Reason U) → BreaksOne source added (suc n) others reason → BreaksOne source added n (s ∷ others) reason
  breaks_later n s others reason h =
      let time : suc n + h.place ≡ n + suc h.place = omega arith in
      record { place = suc h.place; statement = h.statement; at = h.at; broke = subst (λ (k : ℕ). How source added k h.statement reason) time h.broke }

  list_by : (n : ℕ) (s : Statement U) (others : List (Statement U)) (reason : Reason U) → (o : Option (Reason U)) → broken_first same source added n s ≡ o → (first_broken same source added (suc n) others ≡ Some reason → BreaksOne source added (suc n) others reason)
      → or_else o (first_broken same source added (suc n) others) ≡ Some reason → BreaksOne source added n (s ∷ others) reason
  list_by n s others reason (Some other) e rest h =
      let here = broken_first_breaks n s reason (e ∙ h) in
      let time : n ≡ n + 0 = omega arith in
      record { place = 0; statement = s; at = refl; broke = subst (λ (k : ℕ). How source added k s reason) time here }
  list_by n s others reason None e rest h = breaks_later n s others reason (rest h)

  one_breaks : (n : ℕ) (statements : List (Statement U)) (reason : Reason U) → first_broken same source added n statements ≡ Some reason → BreaksOne source added n statements reason
  one_breaks n [] reason h = absurd (cc)
  one_breaks n (s ∷ others) reason h = list_by n s others reason _ refl (one_breaks (suc n) others reason) h

  forbids_broken : (statements : List (Statement U)) (reason : Reason U) → BreaksOne source added 0 statements reason → Forbids statements source added reason
  forbids_broken statements reason h =
      let how = h.broke in
      let time : 0 + h.place ≡ h.place = omega arith in
      let place : slice_get statements (0 + h.place) ≡ Some h.statement = rw time h.at in
      subst (λ (r : Reason U). Forbids statements source added r) (sym how.is) (h.statement, place, how.how)

  reason_by : (statements : List (Statement U)) (reason : Reason U) → (o : Option (Pair U)) → find (has same source) added ≡ o → or_else (option_map taken o) (first_broken same source added 0 statements) ≡ Some reason → Forbids statements source added reason
  reason_by statements reason (Some p) e h =
      let is = found (has same source) added p e in
      let same_reason : taken p ≡ reason = cc in
      subst (λ (r : Reason U). Forbids statements source added r) same_reason ((has_decides same tells source p).0 is.1, is.0)
  reason_by statements reason None e h = forbids_broken statements reason (one_breaks 0 statements reason h)

  -- what is named forbids
  pub named_forbids : (statements : List (Statement U)) (reason : Reason U) → first_reason same source added statements ≡ Some reason → Forbids statements source added reason
  named_forbids statements reason h = reason_by statements reason _ refl h

  -- ---- where nothing is named all is allowed

  pub none_in_first : (n : ℕ) (s : Statement U) → (o : Option (Pair U)) → find (λ p. is_broken_in same source added s p.cycle) added ≡ o → option_and_then (λ p. broken_in same source added n s p.cycle) o ≡ None → find (λ p. is_broken_in same source added s p.cycle) added ≡ None
  none_in_first n s None e h = e
  none_in_first n s (Some p) e h =
      let is = found (λ (q : Pair U). is_broken_in same source added s q.cycle) added p e in
      let unit = breaking_unit same tells source added p.cycle s.kind s.units s.patterns (not-true _ is.1) in
      absurd (let there = rw unit.1 at h in cc)

  none_named : (n : ℕ) (s : Statement U) (others : List (Statement U)) → (o : Option (Reason U)) → or_else o (first_broken same source added (suc n) others) ≡ None → (o ≡ None) × (first_broken same source added (suc n) others ≡ None)
  none_named n s others None h = (refl, h)
  none_named n s others (Some r) h = absurd (cc)

  none_broken : (n : ℕ) (statements : List (Statement U)) → first_broken same source added n statements ≡ None → (s : Statement U) → Contains statements s → find (λ p. is_broken_in same source added s p.cycle) added ≡ None
  none_broken n [] h s is = absurd (Contains-nil s is)
  none_broken n (r ∷ others) h s is =
      let parts = none_named n r others (broken_first same source added n r) h in
      ⊎_elim
      (λ e. subst (λ (q : Statement U). find (λ p. is_broken_in same source added q p.cycle) added ≡ None) e (none_in_first n r _ refl parts.0))
      (λ there. none_broken (suc n) others parts.1 s there)
      (Contains-cons_cases r s others is)

  -- a statement allows a cycle in which a unit is added, or in which none is
  allows_cycle : (s : Statement U) → (s.kind ≡ exclusion → (cycle : ℕ) → HoldsSome s.units (Holds source cycle) → HoldsPattern s.patterns (Holds source cycle) → ⊥) → find (λ p. is_broken_in same source added s p.cycle) added ≡ None
      → (cycle : ℕ) (b : Bool) → list_any (λ p. p.cycle == cycle) added ≡ b → AllowsIn s (Holds source cycle) (Holds added cycle) (Holds (source ++ added) cycle)
  allows_cycle s unbroken none cycle true e =
      let first = found_any (λ (p : Pair U). p.cycle == cycle) added e in
      let is = found (λ (p : Pair U). p.cycle == cycle) added first.0 first.1 in
      let passes = none_passes (λ (p : Pair U). is_broken_in same source added s p.cycle) added none first.0 is.0 in
      subst (λ (c : ℕ). AllowsIn s (Holds source c) (Holds added c) (Holds (source ++ added) c)) (eqb-true _ _ is.1)
      (allowed_by same tells source added (first.0).cycle s.kind s.units s.patterns (not_false _ passes))
  allows_cycle s unbroken none cycle false e =
      let free = λ (u : U) (h : Holds added cycle u). both_ways _ e (any_from (λ (p : Pair U). p.cycle == cycle) added (record { unit = u; cycle = cycle }) h (eq-eqb cycle cycle refl)) in
      allows_unadded s _ _ _ (λ u h. free u h) (λ u h. ⊎_elim (λ l. l) (λ r. absurd (free u r)) (Contains-append_cases source added _ h)) (λ k. unbroken k cycle)

  fits_by : (statements : List (Statement U)) → IsUnbroken statements source → (o : Option (Pair U)) → find (has same source) added ≡ o → or_else (option_map taken o) (first_broken same source added 0 statements) ≡ None
      → ((p : Pair U) → Contains source p → Contains added p → ⊥) × ((s : Statement U) → Contains statements s → (cycle : ℕ) → AllowsIn s (Holds source cycle) (Holds added cycle) (Holds (source ++ added) cycle))
  fits_by statements unbroken (Some p) e h = absurd (cc)
  fits_by statements unbroken None e h = (
    λ p here there. both_ways _ (none_passes (has same source) added e p there) ((has_decides same tells source p).1 here),
    λ s is cycle. allows_cycle s (λ k c. unbroken.excluded s is k c) (none_broken 0 statements h s is) cycle _ refl,
  )

module _ {U : Type 0} (same : U → U → Bool) (tells : Tells same) where
  pub fits_unnamed : (statements : List (Statement U)) (source pairs : List (Pair U)) (now : ℕ) → IsUnbroken statements source → first_reason same source (placed now pairs) statements ≡ None → Fits statements source pairs now
  fits_unnamed statements source pairs now unbroken h =
      let both = fits_by same tells source (placed now pairs) statements unbroken _ refl h in
      record { apart = both.0; allowed = both.1 }

  unnamed_by : (statements : List (Statement U)) (source pairs : List (Pair U)) (now : ℕ) → Fits statements source pairs now → (o : Option (Reason U)) → first_reason same source (placed now pairs) statements ≡ o → o ≡ None
  unnamed_by statements source pairs now fits None e = refl
  unnamed_by statements source pairs now fits (Some reason) e = absurd (forbidden statements source pairs now reason (named_forbids same tells source (placed now pairs) statements reason e) fits)

  pub unnamed_fits : (statements : List (Statement U)) (source pairs : List (Pair U)) (now : ℕ) → Fits statements source pairs now → first_reason same source (placed now pairs) statements ≡ None
  unnamed_fits statements source pairs now fits = unnamed_by statements source pairs now fits _ refl
