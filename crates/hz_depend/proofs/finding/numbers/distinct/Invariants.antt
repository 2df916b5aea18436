use Rattle.std.proofs.Common.{◌≡◌, ℕ, ◌<◌, ◌==◌, ◌++◌, false, All, drop, nat_cmp}
use Rattle.std.specs.BTreeSet as sorted
use Rattle.std.specs.List.{AllPairs, list_any}
use Rattle.hz_depend.proofs.finding.numbers.distinct.Given as goal

abbrev pub invariant-loop-number : goal.invariant-loop-number
invariant-loop-number l = record {
  seen : (n : ℕ) → sorted.contains nat_cmp l.seen n ≡ list_any (λ m. m == n) l.kept.items;
  same : (n : ℕ) → list_any (λ m. m == n) (l.kept.items ++ drop l.number-index l.numbers) ≡ list_any (λ m. m == n) l.numbers;
  once : AllPairs (λ earlier later. (earlier == later) ≡ false) l.kept.items;
  within : (n : ℕ) → All (λ i. i < n) l.numbers → All (λ i. i < n) l.kept.items;
}
