use Rattle.std.proofs.Common.{◌≡◌, ℕ, ◌<◌, []}
use Rattle.hz_minim.specs.Lists.{lists_of, list_at}
use Rattle.hz_minim.proofs.lists.clear_all.Given as goal

abbrev pub invariant-loop-list : goal.invariant-loop-list
invariant-loop-list g l = (place : ℕ) → place < l.list-index → list_at (lists_of l.list-items) place ≡ []
