use Rattle.std.proofs.Common.{◌≡◌, ℕ, List, [], ◌∷◌, codes, refl}
use Rattle.hz_same_laws.specs.Examples.{in_one_part, machine_of_x, of_x, once}
use Rattle.hz_same_laws.proofs.ExampleLaws.{answer_same}
use Rattle.hz_same_laws.proofs.examples.names_alone.Goals as goal

-- the states of the one part and of the other that issues of `x` and cycles reach
abbrev pairs : List (List ℕ)
pairs = (0 ∷ 0 ∷ []) ∷ (1 ∷ 1 ∷ []) ∷ []

pub returns-clause-names : goal.returns-clause-names
returns-clause-names c = refl

pub returns-clause-answers : goal.returns-clause-answers
returns-clause-answers c = answer_same in_one_part (machine_of_x (of_x once ∷ [])) pairs refl

pub returns-clause-differ : goal.returns-clause-differ
returns-clause-differ c = λ same. not_none same.classes
  where
    not_none : codes "y" ∷ [] ≡ [] → ⊥
    not_none h = cc
