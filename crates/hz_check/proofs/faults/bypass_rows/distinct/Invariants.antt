use Rattle.std.proofs.Common.{◌≡◌, ℕ, ◌<◌, ◌==◌, ◌++◌, Bool, All, drop, filter, nat_cmp}
use Rattle.std.specs.BTreeSet as sorted
use Rattle.std.specs.List.{list_any}
use Rattle.hz_check.specs.Names.First.{first_of}
use Rattle.hz_check.proofs.faults.bypass_rows.distinct.Given as goal

abbrev pub invariant-loop-number : goal.invariant-loop-number
invariant-loop-number l = record {
  seen : (n : ℕ) → sorted.contains nat_cmp l.seen n ≡ list_any (λ m. m == n) l.kept.items;
  firsts : (p : ℕ → Bool) → first_of (filter p (l.kept.items ++ drop l.number-index l.numbers)) ≡ first_of (filter p l.numbers);
  within : (n : ℕ) → All (λ i. i < n) l.numbers → All (λ i. i < n) l.kept.items;
}
