use Rattle.std.proofs.Common.{◌≡◌, ℕ, ◌≤◌, true, false, List, [], ◌∷◌, refl, arith}
use Rattle.std.proofs.lemmas.List.Elements.{All-replicate}
use Rattle.hz_same_laws.specs.Examples.{always, machine_of_x, of_x, once}
use Rattle.hz_same_laws.proofs.ExampleLaws.{answer_same}
use Rattle.hz_same_laws.proofs.examples.hidden_differences.Goals as goal

pub returns-clause-alone : goal.returns-clause-alone
returns-clause-alone c = record {
  walked = All-replicate (λ (s : ℕ). s ≤ 1) 1 0 (omega arith);
  there = omega arith;
  states = 1 ∷ [];
  others = 0 ∷ [];
  one = refl;
  other = refl;
  otherwise = λ (e : false ≡ true). cc;
}

-- the states of both parts of each
abbrev pairs : List (List ℕ)
pairs = (0 ∷ 0 ∷ 0 ∷ 0 ∷ []) ∷ (1 ∷ 1 ∷ 1 ∷ 0 ∷ []) ∷ []

pub returns-clause-hidden : goal.returns-clause-hidden
returns-clause-hidden c = record {
  classes = refl;
  other_classes = refl;
  asks = refl;
  other_asks = refl;
  answers = answer_same (machine_of_x (of_x once ∷ of_x once ∷ [])) (machine_of_x (of_x once ∷ of_x always ∷ [])) pairs refl;
}
