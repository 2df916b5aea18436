use Rattle.std.proofs.Common.{ℕ, List, [], ◌∷◌, refl}
use Rattle.hz_same_laws.specs.Examples.{in_one_part, in_two_parts}
use Rattle.hz_same_laws.proofs.ExampleLaws.{answer_same}
use Rattle.hz_same_laws.proofs.examples.parts_and_their_product.Goals as goal

-- the states of the two parts and of the one
abbrev pairs : List (List ℕ)
pairs = (0 ∷ 0 ∷ 0 ∷ []) ∷ (1 ∷ 0 ∷ 1 ∷ []) ∷ (0 ∷ 1 ∷ 2 ∷ []) ∷ (1 ∷ 1 ∷ 3 ∷ []) ∷ (0 ∷ 2 ∷ 4 ∷ []) ∷ (1 ∷ 2 ∷ 5 ∷ []) ∷ []

pub returns : goal.returns
returns c = record { classes = refl; other_classes = refl; asks = refl; other_asks = refl; answers = answer_same in_two_parts in_one_part pairs refl }
