-- What is named is the first by the order of the rules.
use Rattle.std.proofs.Common.{◌≡◌, ℕ, zero, suc, ◌+◌, ◌<◌, ⊎_elim, Bool, true, false, not, List, [], ◌∷◌, ◌++◌, Contains, Option, Some, None, refl, sym, ap, ◌∙◌, subst, arith}
use Rattle.std.specs.Prelude.{slice_get, unwrap_or}
use Rattle.std.specs.List.{find, list_all}
use Rattle.std.specs.Option.{option_map, option_and_then}
use Rattle.std.proofs.lemmas.Bool.{and_parts, not-true, both_ways}
use Rattle.hz_base_model.specs.Pairs.{Pair}
use Rattle.hz_base_model.proofs.Elements.{Contains-nil, Contains-cons_cases}
use Rattle.hz_description_model.specs.Reservations.Sets.{SetKind, exclusion, presence, final_presence, absence, final_absence, Statement, Holds}
use Rattle.hz_pipeline_model.specs.Accepting.Plays.{Tells, has, holds, holds_pattern, asks}
use Rattle.hz_pipeline_model.proofs.Accepting.PlayLaws.{has_decides}
use Rattle.hz_why_model.specs.Reasons.{Reason, taken, broken, or_else, first_whole, breaking, breaking_pattern, is_broken_in, broken_in, broken_first, first_broken, first_reason}
use Rattle.hz_why_model.proofs.Finding.{found, none_passes, found_any, all_from}
use Rattle.hz_why_model.proofs.ReasonLaws.{breaks, held_of, test_of, whole_of, broken_by, breaking_unit, allowed_by, none_in_first, not_false}
use Rattle.hz_why_laws.specs.First.{IsFirst, IsFirstUnit, IsWhole, IsFirstPattern, Breaks, IsFirstBroken, IsFirstReason}

-- what a search finds is the first that has what the test tells
module _ {A : Type 0} (test : A → Bool) (P : A → Type 0) (to : (y : A) → test y ≡ true → P y) (from : (y : A) → P y → test y ≡ true) where
  first_by : (y x : A) (xs : List A) (b : Bool) → test y ≡ b → (find test xs ≡ Some x → IsFirst P xs x) → find test (y ∷ xs) ≡ Some x → IsFirst P (y ∷ xs) x
  first_by y x xs true e rest h =
      let one : y ≡ x = let there = rw e at h in cc in
      record { before = []; after = xs; parts = ap (λ (z : A). z ∷ xs) one; has = subst (λ (z : A). P z) one (to y e); none = λ other is. absurd (Contains-nil other is) }
  first_by y x xs false e rest h =
      let later = rest (rw e at h) in
      record {
        before = y ∷ later.before;
        after = later.after;
        parts = ap (λ (zs : List A). y ∷ zs) later.parts;
        has = later.has;
        none = λ other is p. ⊎_elim (λ one. both_ways _ e (subst (λ (z : A). test z ≡ true) (sym one) (from other p))) (λ there. later.none other there p) (Contains-cons_cases y other later.before is);
      }

  pub first_found : (xs : List A) (x : A) → find test xs ≡ Some x → IsFirst P xs x
  first_found [] x h = absurd (cc)
  first_found (y ∷ xs) x h = first_by y x xs (test y) refl (first_found xs x) h

module _ {U : Type 0} (same : U → U → Bool) (tells : Tells same) where
  first_held : (pairs : List (Pair U)) (cycle : ℕ) (units : List U) (u : U) → find (holds same pairs cycle) units ≡ Some u → IsFirst (Holds pairs cycle) units u
  first_held pairs cycle units u h = first_found (holds same pairs cycle) (Holds pairs cycle) (held_of same tells pairs cycle) (test_of same tells pairs cycle) units u h

  -- the first whole pattern, where there is one
  whole_first : (pairs : List (Pair U)) (cycle : ℕ) (patterns : List (List U)) → holds_pattern patterns (holds same pairs cycle) ≡ true → IsFirst (IsWhole (Holds pairs cycle)) patterns (first_whole patterns (holds same pairs cycle))
  whole_first pairs cycle patterns h =
      let one = found_any (λ (pattern : List U). list_all (holds same pairs cycle) pattern) patterns h in
      subst (λ (o : Option (List U)). IsFirst (IsWhole (Holds pairs cycle)) patterns (unwrap_or o [])) (sym one.1)
      (first_found (λ (pattern : List U). list_all (holds same pairs cycle) pattern) (IsWhole (Holds pairs cycle))
      (λ pattern whole. whole_of same tells pairs cycle pattern whole)
      (λ pattern whole. all_from (holds same pairs cycle) pattern (λ u is. test_of same tells pairs cycle u (whole u is)))
      patterns one.0 one.1)

  module _ (source added : List (Pair U)) where
    -- ---- units and patterns

    first_unit : (kind : SetKind) (units : List U) (cycle : ℕ) (u : U) → find (breaking kind (holds same added cycle) (holds same (source ++ added) cycle)) units ≡ Some u → IsFirstUnit kind units (Holds added cycle) (Holds (source ++ added) cycle) u
    first_unit exclusion units cycle u h = first_held (source ++ added) cycle units u h
    first_unit presence units cycle u h = first_held added cycle units u h
    first_unit final_presence units cycle u h = first_held added cycle units u h
    first_unit absence units cycle u h = first_held added cycle units u h
    first_unit final_absence units cycle u h = first_held added cycle units u h

    first_pattern : (kind : SetKind) (units : List U) (patterns : List (List U)) (cycle : ℕ) → asks kind units patterns (holds same source cycle) (holds same added cycle) (holds same (source ++ added) cycle) ≡ false
        → IsFirstPattern kind patterns (Holds source cycle) (Holds (source ++ added) cycle) (breaking_pattern kind patterns (holds same source cycle) (holds same (source ++ added) cycle))
    first_pattern exclusion units patterns cycle h = whole_first (source ++ added) cycle patterns (and_parts _ _ (not_false _ h)).1
    first_pattern presence units patterns cycle h = refl
    first_pattern final_presence units patterns cycle h = refl
    first_pattern absence units patterns cycle h = whole_first source cycle patterns (and_parts _ _ (not_false _ h)).1
    first_pattern final_absence units patterns cycle h = whole_first (source ++ added) cycle patterns (and_parts _ _ (not_false _ h)).1

    -- ---- cycles

    breaks_of : (s : Statement U) (cycle : ℕ) → is_broken_in same source added s cycle ≡ true → Breaks source added s cycle
    breaks_of s cycle h allows =
        let fails = not-true _ h in
        let unit = breaking_unit same tells source added cycle s.kind s.units s.patterns fails in
        breaks s.kind s.units s.patterns _ _ _ unit.0 _ (broken_by same tells source added cycle s.kind s.units s.patterns unit.0 fails unit.1) allows

    unless : (b : Bool) → (b ≡ true → ⊥) → not b ≡ true
    unless true h = absurd (h refl)
    unless false h = refl

    of_breaks : (s : Statement U) (cycle : ℕ) → Breaks source added s cycle → is_broken_in same source added s cycle ≡ true
    of_breaks s cycle h = unless _ (λ passes. h (allowed_by same tells source added cycle s.kind s.units s.patterns passes))

    first_cycle : (s : Statement U) (p : Pair U) → find (λ q. is_broken_in same source added s q.cycle) added ≡ Some p → IsFirst (λ (q : Pair U). Breaks source added s q.cycle) added p
    first_cycle s p h = first_found (λ (q : Pair U). is_broken_in same source added s q.cycle) (λ (q : Pair U). Breaks source added s q.cycle) (λ q. breaks_of s q.cycle) (λ q. of_breaks s q.cycle) added p h

    -- a statement of which nothing is named is not broken
    unbroken : (n : ℕ) (s : Statement U) → broken_first same source added n s ≡ None → (p : Pair U) → Contains added p → Breaks source added s p.cycle → ⊥
    unbroken n s h p is breaks =
        let none = none_in_first same tells source added n s _ refl h in
        both_ways _ (none_passes (λ (q : Pair U). is_broken_in same source added s q.cycle) added none p is) (of_breaks s p.cycle breaks)

    -- ---- statements

    -- A reason is of the first that is broken of statements of which the first has this number.
    record Found (n : ℕ) (statements : List (Statement U)) (reason : Reason U) : Type 0 where
      place : ℕ
      cycle : ℕ
      unit : U
      pattern : List U
      is : reason ≡ broken (n + place) cycle unit pattern
      first : IsFirstBroken statements source added place cycle unit pattern

    unit_by : (n : ℕ) (s : Statement U) (others : List (Statement U)) (p : Pair U) (reason : Reason U) → find (λ q. is_broken_in same source added s q.cycle) added ≡ Some p
        → (o : Option U) → find (breaking s.kind (holds same added p.cycle) (holds same (source ++ added) p.cycle)) s.units ≡ o
        → option_map (λ u. broken n p.cycle u (breaking_pattern s.kind s.patterns (holds same source p.cycle) (holds same (source ++ added) p.cycle))) o ≡ Some reason → Found n (s ∷ others) reason
    unit_by n s others p reason at None e h = absurd (cc)
    unit_by n s others p reason at (Some u) e h =
        let time : n ≡ n + 0 = omega arith in
        let pattern : List U = breaking_pattern s.kind s.patterns (holds same source p.cycle) (holds same (source ++ added) p.cycle) in
        let named : broken n p.cycle u pattern ≡ reason = cc in
        let passes = found (λ (q : Pair U). is_broken_in same source added s q.cycle) added p at in
        record {
          place = 0;
          cycle = p.cycle;
          unit = u;
          pattern = pattern;
          is = sym named ∙ ap (λ (k : ℕ). broken k p.cycle u pattern) time;
          first = record {
            statement = s;
            at = refl;
            others = λ k r low there. absurd (omega (arith, low));
            pair = p;
            first = first_cycle s p at;
            time = refl;
            first_unit = first_unit s.kind s.units p.cycle u e;
            first_pattern = first_pattern s.kind s.units s.patterns p.cycle (not-true _ passes.1);
          };
        }

    pair_by : (n : ℕ) (s : Statement U) (others : List (Statement U)) (reason : Reason U) → (o : Option (Pair U)) → find (λ q. is_broken_in same source added s q.cycle) added ≡ o
        → option_and_then (λ p. broken_in same source added n s p.cycle) o ≡ Some reason → Found n (s ∷ others) reason
    pair_by n s others reason None e h = absurd (cc)
    pair_by n s others reason (Some p) e h = unit_by n s others p reason e _ refl h

    -- the statements before one that comes later
    before_by : (s : Statement U) (others : List (Statement U)) (place : ℕ) → ((p : Pair U) → Contains added p → Breaks source added s p.cycle → ⊥)
        → ((k : ℕ) (r : Statement U) → k < place → slice_get others k ≡ Some r → (p : Pair U) → Contains added p → Breaks source added r p.cycle → ⊥)
        → (k : ℕ) (r : Statement U) → k < suc place → slice_get (s ∷ others) k ≡ Some r → (p : Pair U) → Contains added p → Breaks source added r p.cycle → ⊥
    before_by s others place here rest zero r low at = let one : s ≡ r = cc in subst (λ (x : Statement U). (p : Pair U) → Contains added p → Breaks source added x p.cycle → ⊥) one here
    before_by s others place here rest (suc k) r low at = rest k r (omega (arith, low)) at

    later : (n : ℕ) (s : Statement U) (others : List (Statement U)) (reason : Reason U) → broken_first same source added n s ≡ None → Found (suc n) others reason → Found n (s ∷ others) reason
    later n s others reason none h =
        let time : suc n + h.place ≡ n + suc h.place = omega arith in
        let f = h.first in
        record {
          place = suc h.place;
          cycle = h.cycle;
          unit = h.unit;
          pattern = h.pattern;
          is = h.is ∙ ap (λ (k : ℕ). broken k h.cycle h.unit h.pattern) time;
          first = record {
            statement = f.statement;
            at = f.at;
            others = before_by s others h.place (unbroken n s none) f.others;
            pair = f.pair;
            first = f.first;
            time = f.time;
            first_unit = f.first_unit;
            first_pattern = f.first_pattern;
          };
        }

    list_by : (n : ℕ) (s : Statement U) (others : List (Statement U)) (reason : Reason U) → (o : Option (Reason U)) → broken_first same source added n s ≡ o → (first_broken same source added (suc n) others ≡ Some reason → Found (suc n) others reason)
        → or_else o (first_broken same source added (suc n) others) ≡ Some reason → Found n (s ∷ others) reason
    list_by n s others reason (Some other) e rest h = pair_by n s others reason _ refl (e ∙ h)
    list_by n s others reason None e rest h = later n s others reason e (rest h)

    first_of_all : (n : ℕ) (statements : List (Statement U)) (reason : Reason U) → first_broken same source added n statements ≡ Some reason → Found n statements reason
    first_of_all n [] reason h = absurd (cc)
    first_of_all n (s ∷ others) reason h = list_by n s others reason _ refl (first_of_all (suc n) others reason) h

    -- ---- the first of all

    statement_first : (statements : List (Statement U)) (reason : Reason U) → ((p : Pair U) → Contains added p → Contains source p → ⊥) → Found 0 statements reason → IsFirstReason statements source added reason
    statement_first statements reason apart h =
        let time : 0 + h.place ≡ h.place = omega arith in
        subst (λ (r : Reason U). IsFirstReason statements source added r) (sym (h.is ∙ ap (λ (k : ℕ). broken k h.cycle h.unit h.pattern) time)) (apart, h.first)

    reason_first : (statements : List (Statement U)) (reason : Reason U) → (o : Option (Pair U)) → find (has same source) added ≡ o → or_else (option_map taken o) (first_broken same source added 0 statements) ≡ Some reason → IsFirstReason statements source added reason
    reason_first statements reason (Some p) e h =
        let named : taken p ≡ reason = cc in
        subst (λ (r : Reason U). IsFirstReason statements source added r) named
        (first_found (has same source) (Contains source) (λ q. (has_decides same tells source q).0) (λ q. (has_decides same tells source q).1) added p e)
    reason_first statements reason None e h =
        statement_first statements reason (λ p there here. both_ways _ (none_passes (has same source) added e p there) ((has_decides same tells source p).1 here)) (first_of_all 0 statements reason h)

  pub first_named : (statements : List (Statement U)) (source added : List (Pair U)) (reason : Reason U) → first_reason same source added statements ≡ Some reason → IsFirstReason statements source added reason
  first_named statements source added reason h = reason_first source added statements reason _ refl h
