-- Alternatives are alike exactly if what forbids them is the same.
use Rattle.std.proofs.Common.{◌≡◌, ℕ, suc, Bool, true, false, List, [], ◌∷◌, Contains, Option, Some, None, refl, sym, ap, ◌∙◌, ⊎_elim, subst, arith}
use Rattle.std.specs.Prelude.{◌==◌, ◌&&◌, ◌↔◌, slice_get}
use Rattle.std.specs.Cmp.{IsEquivalence}
use Rattle.std.proofs.lemmas.Bool.{cases_Bool, false≢true, eqb-true, eq-eqb, and_parts, and_from, false_from_ne_true}
use Rattle.hz_pipeline_model.specs.Accepting.Plays.{Tells}
use Rattle.hz_why_model.specs.Reasons.{Reason, taken, broken, same_pattern, same_reason, are_alike}
use Rattle.hz_why_laws.specs.Grouped.{Leads, group_at}
use Rattle.hz_why_laws.proofs.GroupLaws.{group_has, group_holds}

module _ {U : Type 0} (same : U → U → Bool) (tells : Tells same) where
  unit_itself : (u : U) → same u u ≡ true
  unit_itself u = (tells u u).1 refl

  pattern_itself : (us : List U) → same_pattern same us us ≡ true
  pattern_itself [] = refl
  pattern_itself (u ∷ us) = and_from (same u u) (same_pattern same us us) (unit_itself u) (pattern_itself us)

  pattern_same : (us vs : List U) → same_pattern same us vs ≡ true → us ≡ vs
  pattern_same [] [] is = refl
  pattern_same [] (v ∷ vs) is = absurd (false≢true is)
  pattern_same (u ∷ us) [] is = absurd (false≢true is)
  pattern_same (u ∷ us) (v ∷ vs) is =
      let both = and_parts (same u v) (same_pattern same us vs) is in
      ap (λ (x : U). x ∷ us) ((tells u v).0 both.0) ∙ ap (λ (xs : List U). v ∷ xs) (pattern_same us vs both.1)

  reason_itself : (r : Reason U) → same_reason same r r ≡ true
  reason_itself (taken p) = and_from (same p.unit p.unit) (p.cycle == p.cycle) (unit_itself p.unit) (eq-eqb p.cycle p.cycle refl)
  reason_itself (broken n cycle unit pattern) =
      and_from (n == n) (cycle == cycle && (same unit unit && same_pattern same pattern pattern)) (eq-eqb n n refl)
      (and_from (cycle == cycle) (same unit unit && same_pattern same pattern pattern) (eq-eqb cycle cycle refl)
      (and_from (same unit unit) (same_pattern same pattern pattern) (unit_itself unit) (pattern_itself pattern)))

  reason_same : (r s : Reason U) → same_reason same r s ≡ true → r ≡ s
  reason_same (taken p) (taken q) is =
      let both = and_parts (same p.unit q.unit) (p.cycle == q.cycle) is in
      ap (λ (u : U). taken (record { unit = u; cycle = p.cycle })) ((tells p.unit q.unit).0 both.0)
      ∙ ap (λ (c : ℕ). taken (record { unit = q.unit; cycle = c })) (eqb-true p.cycle q.cycle both.1)
  reason_same (taken p) (broken n cycle unit pattern) is = absurd (false≢true is)
  reason_same (broken n cycle unit pattern) (taken q) is = absurd (false≢true is)
  reason_same (broken n cycle unit pattern) (broken m c v other) is =
      let first = and_parts (n == m) (cycle == c && (same unit v && same_pattern same pattern other)) is in
      let second = and_parts (cycle == c) (same unit v && same_pattern same pattern other) first.1 in
      let third = and_parts (same unit v) (same_pattern same pattern other) second.1 in
      ap (λ (k : ℕ). broken k cycle unit pattern) (eqb-true n m first.0)
      ∙ (ap (λ (k : ℕ). broken m k unit pattern) (eqb-true cycle c second.0)
      ∙ (ap (λ (u : U). broken m c u pattern) ((tells unit v).0 third.0)
      ∙ ap (λ (us : List U). broken m c v us) (pattern_same pattern other third.1)))

  alike_itself : (a : Option (Reason U)) → are_alike same a a ≡ true
  alike_itself None = refl
  alike_itself (Some r) = reason_itself r

  alike_same : (a b : Option (Reason U)) → are_alike same a b ≡ true → a ≡ b
  alike_same None None is = refl
  alike_same None (Some r) is = absurd (false≢true is)
  alike_same (Some r) None is = absurd (false≢true is)
  alike_same (Some r) (Some s) is = ap (λ (x : Reason U). Some x) (reason_same r s is)

  same_alike : (a b : Option (Reason U)) → a ≡ b → are_alike same a b ≡ true
  same_alike a b e = subst (λ (x : Option (Reason U)). are_alike same a x ≡ true) e (alike_itself a)

  pub alike_is_same : (a b : Option (Reason U)) → (are_alike same a b ≡ true) ↔ (a ≡ b)
  alike_is_same a b = (alike_same a b, same_alike a b)

  either_way : (a b : Option (Reason U)) → are_alike same a b ≡ are_alike same b a
  either_way a b = ⊎_elim
      (λ (yes : are_alike same a b ≡ true). yes ∙ sym (same_alike b a (sym (alike_same a b yes))))
      (λ (no : are_alike same a b ≡ false). no ∙ sym (false_from_ne_true (are_alike same b a) (λ yes. false≢true (sym no ∙ same_alike a b (sym (alike_same b a yes))))))
      (cases_Bool (are_alike same a b))

  is_equivalence : IsEquivalence (are_alike same)
  is_equivalence = record { refl = alike_itself; symm = either_way; congr = λ a b c yes. ap (λ (x : Option (Reason U)). are_alike same x c) (alike_same a b yes) }

  module _ (reasons : List (Option (Reason U))) (place : ℕ) (reason : Option (Reason U)) (at : slice_get reasons place ≡ Some reason) (leads : Leads (are_alike same) reasons place) (i : ℕ) where
    some_same : (a b : Option (Reason U)) → a ≡ b → Some a ≡ Some b
    some_same a b e = ap (λ (x : Option (Reason U)). Some x) e

    has : Contains (group_at (are_alike same) reasons place) (suc i) → slice_get reasons i ≡ Some reason
    has there =
        let n = group_has (are_alike same) is_equivalence reasons place reason at leads (suc i) there in
        let next = n.4 in
        let here : i ≡ n.0 = omega arith in
        ap (slice_get reasons) here ∙ (n.2 ∙ some_same n.1 reason (sym (alike_same reason n.1 n.3)))

    holds : slice_get reasons i ≡ Some reason → Contains (group_at (are_alike same) reasons place) (suc i)
    holds there = group_holds (are_alike same) is_equivalence reasons place reason at leads (suc i) (i, reason, there, alike_itself reason, refl)

    pub group_by_reason : Contains (group_at (are_alike same) reasons place) (suc i) ↔ (slice_get reasons i ≡ Some reason)
    group_by_reason = (has, holds)
