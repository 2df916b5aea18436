-- Conditions one after another.
use Rattle.std.proofs.Common.{◌≡◌, ℕ, ◌+◌, ◌<◌, ◌≤◌, Bool, true, false, cond, List, [], ◌∷◌, length, get_or, drop, Option, Some, None, refl, sym, ap, ◌∙◌, arith}
use Rattle.std.specs.Prelude.{codes}
use Rattle.std.specs.Str.{bytes_eq}
use Rattle.std.proofs.lemmas.List.{drop_more}
use Rattle.hz_mdread.specs.declared.condition.Condition.{Condition}
use Rattle.hz_mdread.specs.Shape.{condition, conditions}
use Rattle.hz_description_model.specs.Reading.Descriptions as model
use Rattle.hz_description_model.specs.Reading.DescriptionForms as forms
use Rattle.hz_description_model.specs.Reading.DescriptionShape.{are_several}

-- the tests from a place on begin with the test there
pub conditions_from_place : (tests : List Condition) (i : ℕ) (test : Condition) → i < length tests → test ≡ get_or tests i test → conditions (drop i tests) ≡ model.more (condition test) (conditions (drop (i + 1) tests))
conditions_from_place tests i test inside is = ap conditions (drop_more tests i test inside ∙ ap (λ t. t ∷ drop (i + 1) tests) (sym is))

-- `not` has one test
pub no_negation : (tests : List Condition) → (length tests ≡ 1 → ⊥) → forms.negated (conditions tests) ≡ None
no_negation [] h = refl
no_negation (a ∷ []) h = absurd (h refl)
no_negation (a ∷ b ∷ tests) h = refl

none_either : (x y : Bool) → ◌≡◌ {A = Option model.Condition} (cond x None (cond y None None)) None
none_either true y = refl
none_either false true = refl
none_either false false = refl

-- fewer than two tests are joined by nothing else
pub few_joined : (word : List ℕ) (tests : List Condition) → length tests < 2 → bytes_eq word (codes "not") ≡ false → forms.joined word (conditions tests) ≡ None
few_joined word [] h e = rw e (none_either (bytes_eq word (codes "and")) (bytes_eq word (codes "ior")))
few_joined word (a ∷ []) h e = rw e (none_either (bytes_eq word (codes "and")) (bytes_eq word (codes "ior")))
few_joined word (a ∷ b ∷ tests) h e = absurd (omega arith)

-- two tests or more
pub several_tests : (tests : List Condition) → 2 ≤ length tests → are_several (conditions tests) ≡ true
several_tests [] h = absurd (omega arith)
several_tests (a ∷ []) h = absurd (omega arith)
several_tests (a ∷ b ∷ tests) h = refl

module _ (word : List ℕ) (tests : List Condition) (long : 2 ≤ length tests) (other : bytes_eq word (codes "not") ≡ false) where
  pub and_joined : bytes_eq word (codes "and") ≡ true → Some (model.conjunction (conditions tests)) ≡ forms.joined word (conditions tests)
  and_joined e = rw (other, e, several_tests tests long) refl

  pub ior_joined : bytes_eq word (codes "and") ≡ false → bytes_eq word (codes "ior") ≡ true → Some (model.disjunction (conditions tests)) ≡ forms.joined word (conditions tests)
  ior_joined e f = rw (other, e, f, several_tests tests long) refl
