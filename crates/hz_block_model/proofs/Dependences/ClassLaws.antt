-- The class of an instruction is the one whose condition holds.
use Rattle.std.proofs.Common.{◌≡◌, ℕ, zero, suc, ◌+◌, Bool, true, false, cond, List, [], ◌∷◌, ◌++◌, Option, Some, None, Ok, All, Contains, refl, sym, ap, ◌∙◌, subst, arith}
use Rattle.std.specs.Prelude.{◌↔◌}
use Rattle.std.specs.List.{list_any, find}
use Rattle.std.specs.Option.{option_map_or}
use Rattle.std.specs.Str.{bytes_eq}
use Rattle.std.proofs.lemmas.List.Elements.{All-nil, All-cons, All-head, All-tail}
use Rattle.std.proofs.lemmas.Slice.Eq.{bytes_eq-Decides}
use Rattle.hz_description_model.specs.Reading.Descriptions.{Condition}
use Rattle.hz_description_model.specs.Reading.Conditions.{value_of, holds}
use Rattle.hz_description_model.specs.Check.CheckFaults.{IsFirst}
use Rattle.hz_block_model.specs.Dependences.Classes.{ClassFault, unknown_attribute, unknown_value, fault_of_attribute, first_fault, holding_from, the_one, class_of}
use Rattle.hz_block_model.specs.Dependences.ClassWords.{IsRight, Holds, IsOnlyClass}
use Rattle.hz_block_model.proofs.Dependences.SourceLaws.{any_contains}
use Rattle.hz_block_model.proofs.Dependences.DataLaws.{some_passes}

fails : (b : Bool) → (b ≡ true → ⊥) → b ≡ false
fails true h = absurd (h refl)
fails false h = refl

-- Conditions.

module _ (value : List ℕ → Option (List ℕ)) where
  -- no condition holds
  none_holding : (n : ℕ) (conditions : List Condition) → ((k : ℕ) → Holds value conditions k → ⊥) → holding_from n value conditions ≡ []
  none_holding n [] none = refl
  none_holding n (c ∷ conditions) none = by_test (holds value c) refl (none_holding (n + 1) conditions (λ k h. none (suc k) (record { condition = h.condition; stands = h.stands; passes = h.passes })))
    where
      by_test : (b : Bool) → holds value c ≡ b → holding_from (n + 1) value conditions ≡ [] → holding_from n value (c ∷ conditions) ≡ []
      by_test true e rest = absurd (none 0 (record { condition = c; stands = refl; passes = e }))
      by_test false e rest = rw e rest

  -- one holds and no other
  one_holding : (n k : ℕ) (conditions : List Condition) → IsOnlyClass value conditions k → holding_from n value conditions ≡ (n + k) ∷ []
  one_holding n k [] only = absurd (let h = only.is.stands in cc)
  one_holding n zero (c ∷ conditions) only =
      let same : c ≡ only.is.condition = let h = only.is.stands in cc in
      let passes : holds value c ≡ true = ap (holds value) same ∙ only.is.passes in
      let rest = none_holding (n + 1) conditions (λ k h. let bad = only.others (suc k) (record { condition = h.condition; stands = h.stands; passes = h.passes }) in absurd (omega arith)) in
      rw (passes, rest) (ap (λ (m : ℕ). m ∷ []) (omega arith))
  one_holding n (suc k) (c ∷ conditions) only =
      by_test (holds value c) refl (one_holding (n + 1) k conditions (record {
        is = record { condition = only.is.condition; stands = only.is.stands; passes = only.is.passes };
        others = λ m h. let same = only.others (suc m) (record { condition = h.condition; stands = h.stands; passes = h.passes }) in omega arith;
      }))
    where
      by_test : (b : Bool) → holds value c ≡ b → holding_from (n + 1) value conditions ≡ (n + 1 + k) ∷ [] → holding_from n value (c ∷ conditions) ≡ (n + suc k) ∷ []
      by_test true e rest = absurd (let bad = only.others 0 (record { condition = c; stands = refl; passes = e }) in omega (arith, bad))
      by_test false e rest = rw e (rest ∙ ap (λ (m : ℕ). m ∷ []) (omega arith))

  -- where none is listed, none holds
  holding_none : (n : ℕ) (conditions : List Condition) → holding_from n value conditions ≡ [] → (k : ℕ) → Holds value conditions k → ⊥
  holding_none n [] e k h = absurd (let at = h.stands in cc)
  holding_none n (c ∷ conditions) e k h = by_test (holds value c) refl (holding_none (n + 1) conditions) k h
    where
      by_test : (b : Bool) → holds value c ≡ b → (holding_from (n + 1) value conditions ≡ [] → (k : ℕ) → Holds value conditions k → ⊥) → (k : ℕ) → Holds value (c ∷ conditions) k → ⊥
      by_test true is rest k h = let bad = rw is at e in absurd (cc)
      by_test false is rest zero h = let same : c ≡ h.condition = let at = h.stands in cc in let p = ap (holds value) same ∙ h.passes in absurd (cc)
      by_test false is rest (suc k) h = rest (rw is at e) k (record { condition = h.condition; stands = h.stands; passes = h.passes })

  -- where one is listed, it is the one that holds
  holding_one : (n m : ℕ) (conditions : List Condition) → holding_from n value conditions ≡ m ∷ [] → (k : ℕ) × (m ≡ n + k) × IsOnlyClass value conditions k
  holding_one n m [] e = absurd (cc)
  holding_one n m (c ∷ conditions) e = by_test (holds value c) refl (holding_one (n + 1) m conditions)
    where
      by_test : (b : Bool) → holds value c ≡ b → (holding_from (n + 1) value conditions ≡ m ∷ [] → (k : ℕ) × (m ≡ n + 1 + k) × IsOnlyClass value conditions k) → (k : ℕ) × (m ≡ n + k) × IsOnlyClass value (c ∷ conditions) k
      by_test true is further =
          let all : n ∷ holding_from (n + 1) value conditions ≡ m ∷ [] = rw is at e in
          let same : n ≡ m = cc in
          let rest : holding_from (n + 1) value conditions ≡ [] = cc in (
            0,
            omega arith,
            record { is = record { condition = c; stands = refl; passes = is }; others = alone rest },
          )
        where
          alone : holding_from (n + 1) value conditions ≡ [] → (k : ℕ) → Holds value (c ∷ conditions) k → k ≡ 0
          alone rest zero h = refl
          alone rest (suc k) h = absurd (holding_none (n + 1) conditions rest k (record { condition = h.condition; stands = h.stands; passes = h.passes }))
      by_test false is further =
          let (k, at, only) = further (rw is at e) in (
            suc k,
            omega arith,
            record { is = record { condition = only.is.condition; stands = only.is.stands; passes = only.is.passes }; others = others only },
          )
        where
          others : {k : ℕ} → IsOnlyClass value conditions k → (j : ℕ) → Holds value (c ∷ conditions) j → j ≡ suc k
          others only zero h = let same : c ≡ h.condition = let at = h.stands in cc in let p = ap (holds value) same ∙ h.passes in absurd (cc)
          others only (suc j) h = ap suc (only.others j (record { condition = h.condition; stands = h.stands; passes = h.passes }))

-- one class of a list
one_of : (found : List ℕ) (class : ℕ) → the_one found ≡ Ok class → found ≡ class ∷ []
one_of [] class e = absurd (cc)
one_of (a ∷ []) class e = cc
one_of (a ∷ b ∷ others) class e = absurd (cc)

-- Attributes.

module _ (defined : List (List ℕ × List (List ℕ))) where
  -- the first definition of a name
  first_there : (name : List ℕ) (all : List (List ℕ × List (List ℕ))) (a : List ℕ × List (List ℕ)) → find (λ a. bytes_eq a.0 name) all ≡ Some a → IsFirst (λ a. a.0 ≡ name) all a
  first_there name [] a e = absurd (cc)
  first_there name (b ∷ all) a e = by_test (bytes_eq b.0 name) refl e (first_there name all a)
    where
      by_test : (t : Bool) → bytes_eq b.0 name ≡ t → cond t (Some b) (find (λ a. bytes_eq a.0 name) all) ≡ Some a → (find (λ a. bytes_eq a.0 name) all ≡ Some a → IsFirst (λ a. a.0 ≡ name) all a) → IsFirst (λ a. a.0 ≡ name) (b ∷ all) a
      by_test true is k further = let same : b ≡ a = cc in record {
        before = [];
        after = all;
        parts = ap (λ (x : List ℕ × List (List ℕ)). x ∷ all) same;
        holds = ap (λ (x : List ℕ × List (List ℕ)). x.0) (sym same) ∙ (bytes_eq-Decides b.0 name).0 is;
        others = All-nil (λ (a : List ℕ × List (List ℕ)). a.0 ≡ name → ⊥);
      }
      by_test false is k further = let f = further k in record {
        before = b ∷ f.before;
        after = f.after;
        parts = ap (λ (xs : List (List ℕ × List (List ℕ))). b ∷ xs) f.parts;
        holds = f.holds;
        others = All-cons (λ (a : List ℕ × List (List ℕ)). a.0 ≡ name → ⊥) b f.before (λ same. let yes = (bytes_eq-Decides b.0 name).1 same in absurd (cc)) f.others;
      }

  there_first : (name : List ℕ) (before after : List (List ℕ × List (List ℕ))) (a : List ℕ × List (List ℕ)) → All (λ a. a.0 ≡ name → ⊥) before → a.0 ≡ name → find (λ a. bytes_eq a.0 name) (before ++ a ∷ after) ≡ Some a
  there_first name [] after a none is = ap (λ (t : Bool). cond t (Some a) (find (λ a. bytes_eq a.0 name) after)) ((bytes_eq-Decides a.0 name).1 is)
  there_first name (b ∷ before) after a none is =
      ap (λ (t : Bool). cond t (Some b) (find (λ a. bytes_eq a.0 name) (before ++ a ∷ after)))
      (fails (bytes_eq b.0 name) (λ e. All-head (λ (a : List ℕ × List (List ℕ)). a.0 ≡ name → ⊥) b before none ((bytes_eq-Decides b.0 name).0 e)))
      ∙ there_first name before after a (All-tail (λ (a : List ℕ × List (List ℕ)). a.0 ≡ name → ⊥) b before none) is

  module _ (given : List ℕ × List ℕ) where
    abbrev is_value : List ℕ → Bool
    is_value v = bytes_eq v given.1

    abbrev judged : Option (List ℕ × List (List ℕ)) → Option ClassFault
    judged found = option_map_or (λ attribute. cond (list_any is_value attribute.1) None (Some unknown_value)) found (Some unknown_attribute)

    right_there : fault_of_attribute defined given ≡ None → IsRight defined given
    right_there e = by_found (find (λ a. bytes_eq a.0 given.0) defined) refl e
      where
        by_value : (a : List ℕ × List (List ℕ)) (t : Bool) → list_any is_value a.1 ≡ t → cond t None (Some unknown_value) ≡ None → Contains a.1 given.1
        by_value a true is k = let found = some_passes is_value a.1 is in subst (λ (v : List ℕ). Contains a.1 v) ((bytes_eq-Decides found.0 given.1).0 found.2) found.1
        by_value a false is k = absurd (cc)

        by_found : (found : Option (List ℕ × List (List ℕ))) → find (λ a. bytes_eq a.0 given.0) defined ≡ found → judged found ≡ None → IsRight defined given
        by_found (Some a) is k = record { attribute = a; first = first_there given.0 defined a is; value = by_value a (list_any is_value a.1) refl k }
        by_found None is k = absurd (cc)

    there_right : IsRight defined given → fault_of_attribute defined given ≡ None
    there_right r =
        let a = r.attribute in
        ap judged (ap (find (λ a. bytes_eq a.0 given.0)) r.first.parts ∙ there_first given.0 r.first.before r.first.after a r.first.others r.first.holds)
        ∙ ap (λ (t : Bool). cond t None (Some unknown_value)) (any_contains is_value a.1 given.1 r.value ((bytes_eq-Decides given.1 given.1).1 refl))

  all_right : (given : List (List ℕ × List ℕ)) → first_fault defined given ≡ None → All (IsRight defined) given
  all_right [] e = All-nil (IsRight defined)
  all_right (g ∷ given) e = by_fault (fault_of_attribute defined g) refl (all_right given)
    where
      by_fault : (f : Option ClassFault) → fault_of_attribute defined g ≡ f → (first_fault defined given ≡ None → All (IsRight defined) given) → All (IsRight defined) (g ∷ given)
      by_fault (Some fault) is further = let bad = rw is at e in absurd (cc)
      by_fault None is further = All-cons (IsRight defined) g given (right_there g is) (further (rw is at e))

  right_all : (given : List (List ℕ × List ℕ)) → All (IsRight defined) given → first_fault defined given ≡ None
  right_all [] all = refl
  right_all (g ∷ given) all = rw (there_right g (All-head (IsRight defined) g given all)) (right_all given (All-tail (IsRight defined) g given all))

module _ (defined : List (List ℕ × List (List ℕ))) (defaults : List (List ℕ × List ℕ)) (conditions : List Condition) (given : List (List ℕ × List ℕ)) (class : ℕ) where
  abbrev value : List ℕ → Option (List ℕ)
  value = value_of given defaults

  class_there : class_of defined defaults conditions given ≡ Ok class → All (IsRight defined) given × IsOnlyClass value conditions class
  class_there e = by_fault (first_fault defined given) refl
    where
      by_fault : (f : Option ClassFault) → first_fault defined given ≡ f → All (IsRight defined) given × IsOnlyClass value conditions class
      by_fault (Some fault) is = let bad = rw is at e in absurd (cc)
      by_fault None is =
          let (k, same, only) = holding_one value 0 class conditions (one_of (holding_from 0 value conditions) class (rw is at e)) in
          (all_right defined given is, subst (IsOnlyClass value conditions) (omega arith) only)

  class_back : All (IsRight defined) given × IsOnlyClass value conditions class → class_of defined defaults conditions given ≡ Ok class
  class_back (right, only) = rw (right_all defined given right) (ap the_one (one_holding value 0 class conditions only) ∙ ap (λ (n : ℕ). Ok n) (omega arith))

  pub class_is : class_of defined defaults conditions given ≡ Ok class ↔ (All (IsRight defined) given × IsOnlyClass value conditions class)
  class_is = (class_there, class_back)
