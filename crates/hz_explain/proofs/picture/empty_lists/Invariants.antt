use Rattle.std.proofs.Common.{◌≡◌, ℕ, ◌-◌, ◌≤◌, [], vec_len}
use Rattle.hz_explain.specs.Showing.{lists_of, list_at}
use Rattle.hz_explain.proofs.picture.empty_lists.Given as goal

-- the lists so far are empty
abbrev pub invariant-loop-alloc : goal.invariant-loop-alloc
invariant-loop-alloc l = (vec_len l.lists ≤ l.count) × ((place : ℕ) → list_at (lists_of l.lists.items) place ≡ [])

abbrev pub decreases-loop-alloc : goal.decreases-loop-alloc
decreases-loop-alloc l = l.count - vec_len l.lists
