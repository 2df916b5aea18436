use Rattle.std.proofs.Common.{◌≡◌, ℕ, ◌-◌, ◌≤◌, vec_len}
use Rattle.hz_minim.specs.Lists.{lists_of, list_at}
use Rattle.hz_minim.proofs.lists.grow.Given as goal

abbrev pub invariant-loop-alloc : goal.invariant-loop-alloc
invariant-loop-alloc g l = (vec_len l.lists ≤ l.count) × ((place : ℕ) → list_at (lists_of l.lists.items) place ≡ list_at (lists_of l.initial.lists.items) place)

abbrev pub decreases-loop-alloc : goal.decreases-loop-alloc
decreases-loop-alloc g l = l.count - vec_len l.lists
