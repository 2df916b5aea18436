-- Which of the examples' units may not be cut.
use Rattle.std.proofs.Common.{◌≡◌, ℕ, zero, suc, ◌<◌, ◌≤◌, List, [], ◌∷◌, length, refl, sym, ap, subst, arith, ⊎_elim}
use Rattle.std.proofs.lemmas.Bool.{cases_lt}
use Rattle.hz_base_model.specs.Pairs.{Pair, SamePairs}
use Rattle.hz_base_model.proofs.Elements.{Contains-nil, Contains-head, Contains-cons_cases}
use Rattle.hz_pipeline_model.specs.Accepting.Replay.{Pipeline, first_fit, alternatives_at, chosen}
use Rattle.hz_laws.specs.Grouping.{GroupLists, of_group, AreNumbers, IsProduct, AreOfGroups}
use Rattle.hz_laws.specs.GroupingExamples.{halves, with_classes, first_counts, second_counts, in_no_order, in_step, across}

-- one pair alone is the same as another one alone only where their units are
one_unit : (u v : ℕ) → SamePairs (record { unit = u; cycle = 0 } ∷ []) (record { unit = v; cycle = 0 } ∷ []) → u ≡ v
one_unit u v same = ⊎_elim
    (λ e. sym (ap (λ (p : Pair ℕ). p.unit) e))
    (λ there. absurd (Contains-nil _ there))
    (Contains-cons_cases (record { unit = v; cycle = 0 }) (record { unit = u; cycle = 0 }) [] ((same (record { unit = u; cycle = 0 })).0 (Contains-head _ [])))

-- the first group's number of the one, and the others' of the other
abbrev mixed : (numbers others : ℕ → ℕ) → ℕ → ℕ
mixed numbers others zero = numbers zero
mixed numbers others (suc a) = others (suc a)

-- Of two alternatives there is a third, with the first group's pairs of the one and the second group's of the other. In the first
-- treatment it comes before the other, or before the one.
record IsMixed (m : Pipeline ℕ) (i j : ℕ) (early : Type 0) : Type 0 where
  number : ℕ
  within : number < length (alternatives_at m 0)
  first : SamePairs (of_group halves 0 (chosen m 0 number)) (of_group halves 0 (chosen m 0 i))
  second : SamePairs (of_group halves 1 (chosen m 0 number)) (of_group halves 1 (chosen m 0 j))
  before : m.treatment ≡ first_fit → early → number ≤ j

module _ (lists : GroupLists ℕ) (m : Pipeline ℕ) (is : IsProduct halves lists m 0) (i j : ℕ) (within_i : i < length (alternatives_at m 0)) (within_j : j < length (alternatives_at m 0)) where
  abbrev first_number : ℕ → ℕ
  first_number = (is.parts i within_i).0

  abbrev second_number : ℕ → ℕ
  second_number = (is.parts j within_j).0

  are_mixed : AreNumbers lists (mixed first_number second_number)
  are_mixed zero = (is.parts i within_i).1 zero
  are_mixed (suc a) = (is.parts j within_j).1 (suc a)

  mix : IsMixed m i j (first_number 0 ≤ second_number 0)
  mix =
      let found = is.whole (mixed first_number second_number) are_mixed in
      record {
        number = found.0;
        within = found.1.within;
        first = λ p. let x = found.1.at 0 p in let y = (is.parts i within_i).2 0 p in (λ h. y.1 (x.0 h), λ h. x.1 (y.0 h));
        second = λ p. let x = found.1.at 1 p in let y = (is.parts j within_j).2 1 p in (λ h. y.1 (x.0 h), λ h. x.1 (y.0 h));
        before = λ treatment low. found.1.first treatment j second_number within_j (is.parts j within_j).1 (is.parts j within_j).2 (no_later low);
      }
    where
      no_later : first_number 0 ≤ second_number 0 → (a : ℕ) → mixed first_number second_number a ≤ second_number a
      no_later low zero = low
      no_later low (suc a) = let n = second_number (suc a) in omega arith

pub across_may_not : (lists : ℕ → GroupLists ℕ) → AreOfGroups halves lists (with_classes first_counts (across ∷ [])) (with_classes second_counts (across ∷ [])) → ⊥
across_may_not lists h =
    let of = h.tied across (Contains-head across []) in
    let first = of.units 0 (Contains-head 0 []) in
    let second = of.patterns (2 ∷ []) (Contains-head (2 ∷ []) []) 2 (Contains-head 2 []) in
    absurd (omega (arith, first, second))

-- of `a0` and `b1` there is no alternative among the first two
not_among : (x : Pipeline ℕ) (number : ℕ) → number < 2
    → of_group halves 1 (chosen x 0 0) ≡ record { unit = 2; cycle = 0 } ∷ [] → of_group halves 0 (chosen x 0 1) ≡ record { unit = 1; cycle = 0 } ∷ []
    → SamePairs (of_group halves 0 (chosen x 0 number)) (record { unit = 0; cycle = 0 } ∷ []) → SamePairs (of_group halves 1 (chosen x 0 number)) (record { unit = 3; cycle = 0 } ∷ []) → ⊥
not_among x zero low zeroth first a b = let e = one_unit 2 3 (subst (λ (ps : List (Pair ℕ)). SamePairs ps (record { unit = 3; cycle = 0 } ∷ [])) zeroth b) in absurd (omega (arith, e))
not_among x (suc zero) low zeroth first a b = let e = one_unit 1 0 (subst (λ (ps : List (Pair ℕ)). SamePairs ps (record { unit = 0; cycle = 0 } ∷ [])) first a) in absurd (omega (arith, e))
not_among x (suc (suc n)) low zeroth first a b = absurd (omega (arith, low))

pub in_step_may_not : (lists : ℕ → GroupLists ℕ) → AreOfGroups halves lists (with_classes in_step []) (with_classes first_counts []) → ⊥
in_step_may_not lists h =
    let one = mix (lists 0) (with_classes in_step []) (h.before 0 (omega arith)) 0 1 (omega arith) (omega arith) in
    not_among (with_classes in_step []) one.number one.within refl refl one.first one.second

pub in_no_order_may_not : (lists : ℕ → GroupLists ℕ) → AreOfGroups halves lists (with_classes in_no_order []) (with_classes first_counts []) → ⊥
in_no_order_may_not lists h =
    let is = h.before 0 (omega arith) in
    let one = mix (lists 0) (with_classes in_no_order []) is 0 1 (omega arith) (omega arith) in
    let other = mix (lists 0) (with_classes in_no_order []) is 1 0 (omega arith) (omega arith) in
    ⊎_elim
    (λ low.
    let before = one.before refl (omega (arith, low)) in
    not_among (with_classes in_no_order []) one.number (omega (arith, before)) refl refl one.first one.second)
    (λ high.
    let before = other.before refl high in
    let none : other.number ≡ 0 = omega (arith, before) in
    let e = one_unit 0 1 (subst (λ (n : ℕ). SamePairs (of_group halves 0 (chosen (with_classes in_no_order []) 0 n)) (record { unit = 1; cycle = 0 } ∷ [])) none other.first) in
    absurd (omega (arith, e)))
    (cases_lt ((is.parts 0 (omega arith)).0 0) ((is.parts 1 (omega arith)).0 0))
