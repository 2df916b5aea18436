use Rattle.std.proofs.Common.{◌≡◌, ℕ, ◌≤◌, true, false, [], ◌∷◌, Some, None, refl, arith}
use Rattle.std.proofs.lemmas.List.Elements.{All-replicate}
use Rattle.hz_same_laws.specs.Examples.{asked}
use Rattle.hz_same_laws.proofs.ExampleLaws.{not_apart}
use Rattle.hz_same_laws.proofs.examples.two_asks.Goals as goal

pub returns-clause-first : goal.returns-clause-first
returns-clause-first c = not_apart (asked (Some 1)) (asked None) (0 ∷ []) 2 (1 ∷ []) (1 ∷ []) refl refl refl

pub returns-clause-second : goal.returns-clause-second
returns-clause-second c = record {
  walked = All-replicate (λ (s : ℕ). s ≤ 1) 1 0 (omega arith);
  there = omega arith;
  states = 1 ∷ [];
  others = 1 ∷ [];
  one = refl;
  other = refl;
  otherwise = λ (e : true ≡ false). cc;
}
