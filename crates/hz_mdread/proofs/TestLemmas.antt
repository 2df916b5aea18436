-- Conditions in operands: their sizes, their words, and those of a list one after another.
use Rattle.std.proofs.Common.{◌≡◌, ℕ, zero, suc, ◌+◌, ◌<◌, ◌≤◌, false, cond, List, [], ◌∷◌, ◌++◌, length, get_or, drop, map, Option, Some, None, refl, sym, ap, ◌∙◌, arith}
use Rattle.std.specs.Prelude.{codes}
use Rattle.std.specs.Option.{option_map, option_and_then}
use Rattle.std.specs.Str.{bytes_eq}
use Rattle.std.proofs.lemmas.List.{drop_more, drop_all, map-append}
use Rattle.hz_sexp.specs.declared.form.Form.{Form}
use Rattle.hz_sexp.specs.Shape.{tree, trees}
use Rattle.hz_base_model.specs.Forms.Trees.{Tree, Trees, list, vector, atom, quoted, number, none, more}
use Rattle.hz_description_model.specs.Reading.Descriptions as model
use Rattle.hz_description_model.specs.Reading.DescriptionForms.{headed, condition_in, conditions_in, constant_in, test_in, joined}
use Rattle.hz_mdread.specs.declared.condition.Condition.{Condition}
use Rattle.hz_mdread.specs.Shape.{condition, conditions_from, conditions}

-- how much stands in a form
abbrev mutual
  pub size : Tree → ℕ
  size (list line forms) = sizes forms + 1
  size (vector line forms) = sizes forms + 1
  size (atom line bytes) = 0
  size (quoted line bytes) = 0
  size (number line value) = 0

  pub sizes : Trees → ℕ
  sizes none = 0
  sizes (more first others) = size first + sizes others + 1

some_pair : (p q : List ℕ × Trees) → Some p ≡ Some q → p ≡ q
some_pair p q e = cc

-- and so is each form of several
pub place_size : (forms : List Form) (i : ℕ) (form : Form) → i < length forms → form ≡ get_or forms i form → size (tree form) < sizes (trees forms)
place_size [] i form inside is = absurd (omega arith)
place_size (first ∷ forms) zero form inside is = let same = ap (λ (f : Form). size (tree f)) is in omega (arith, same)
place_size (first ∷ forms) (suc i) form inside is = let h = place_size forms i form (omega arith) is in omega arith

-- what the word of a condition says
pub headed_condition : (form : Tree) (word : List ℕ) (operands : Trees) → headed form ≡ Some (word, operands)
    → condition_in form ≡ cond (bytes_eq word (codes "const_int")) (constant_in operands) (cond (bytes_eq word (codes "eq_attr")) (test_in operands) (option_and_then (joined word) (conditions_in operands)))
headed_condition (list line (more (atom at w) os)) word operands h = ap said (some_pair (w, os) (word, operands) h)
  where
    said : List ℕ × Trees → Option model.Condition
    said p = cond (bytes_eq p.0 (codes "const_int")) (constant_in p.1) (cond (bytes_eq p.0 (codes "eq_attr")) (test_in p.1) (option_and_then (joined p.0) (conditions_in p.1)))
headed_condition _ word operands h = absurd (cc)

-- conditions after others
abbrev pub after : List model.Condition → model.Conditions → model.Conditions
after [] rest = rest
after (first ∷ others) rest = model.more first (after others rest)

after-none : (tests : List model.Condition) → after tests model.none ≡ conditions_from tests
after-none [] = refl
after-none (first ∷ others) = ap (model.more first) (after-none others)

after-append : (tests : List model.Condition) (test : model.Condition) (rest : model.Conditions) → after (tests ++ test ∷ []) rest ≡ after tests (model.more test rest)
after-append [] test rest = refl
after-append (first ∷ others) test rest = ap (model.more first) (after-append others test rest)

-- operands from a place on begin with the one there
pub operands_from : (forms : List Form) (i : ℕ) (form : Form) → i < length forms → form ≡ get_or forms i form → trees (drop i forms) ≡ more (tree form) (trees (drop (i + 1) forms))
operands_from forms i form inside is = ap trees (drop_more forms i form inside ∙ ap (λ f. f ∷ drop (i + 1) forms) (sym is))

-- one more condition
pub test_more : (forms : List Form) (i : ℕ) (form : Form) (tests : List Condition) (test : Condition) (all : Option model.Conditions) → i < length forms → form ≡ get_or forms i form → condition_in (tree form) ≡ Some (condition test)
    → option_map (after (map condition tests)) (conditions_in (trees (drop i forms))) ≡ all → option_map (after (map condition (tests ++ test ∷ []))) (conditions_in (trees (drop (i + 1) forms))) ≡ all
test_more forms i form tests test all inside is e h =
    rw (map-append condition tests (test ∷ [])) (go (conditions_in (trees (drop (i + 1) forms))) (rw (operands_from forms i form inside is, e) at h))
  where
    go : (rest : Option model.Conditions) → option_map (after (map condition tests)) (option_map (model.more (condition test)) rest) ≡ all → option_map (after (map condition tests ++ condition test ∷ [])) rest ≡ all
    go None k = k
    go (Some rest) k = ap Some (after-append (map condition tests) (condition test) rest) ∙ k

-- all conditions
pub test_all : (forms : List Form) (i : ℕ) (tests : List Condition) → length forms ≤ i → option_map (after (map condition tests)) (conditions_in (trees (drop i forms))) ≡ conditions_in (trees forms) → Some (conditions tests) ≡ conditions_in (trees forms)
test_all forms i tests past h = ap Some (sym (after-none (map condition tests))) ∙ rw (drop_all i forms past) at h

-- a condition by its word, where that joins tests
pub joined_condition : (form : Tree) (word : List ℕ) (operands : Trees) → Some (word, operands) ≡ headed form → bytes_eq word (codes "const_int") ≡ false → bytes_eq word (codes "eq_attr") ≡ false
    → condition_in form ≡ option_and_then (joined word) (conditions_in operands)
joined_condition form word operands is e f = headed_condition form word operands (sym is) ∙ rw (e, f) refl
