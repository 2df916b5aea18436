use Rattle.std.proofs.Common.{◌≡◌, ℕ, ◌≤◌, true, false, [], ◌∷◌, replicate, refl, arith}
use Rattle.std.proofs.lemmas.List.Elements.{All-cons, All-replicate}
use Rattle.hz_same_laws.specs.Examples.{held_for}
use Rattle.hz_same_laws.proofs.ExampleLaws.{not_apart}
use Rattle.hz_same_laws.proofs.examples.late_differences.Goals as goal

pub returns-clause-late : goal.returns-clause-late
returns-clause-late c = record {
  walked = All-cons (λ (s : ℕ). s ≤ 1) 0 (replicate 300 1) (omega arith) (All-replicate (λ (s : ℕ). s ≤ 1) 300 1 (omega arith));
  there = omega arith;
  states = 0 ∷ [];
  others = 301 ∷ [];
  one = refl;
  other = refl;
  otherwise = λ (e : true ≡ false). cc;
}

pub returns-clause-early : goal.returns-clause-early
returns-clause-early c = not_apart (held_for 300) (held_for 301) (0 ∷ replicate 299 1) 0 (300 ∷ []) (300 ∷ []) refl refl refl
