use Rattle.std.proofs.Common.{◌≡◌, ℕ, [], vec_len}
use Rattle.hz_minim.specs.Lists.{lists_of, list_at}
use Rattle.hz_minim.proofs.lists.roomy_lists.Given as goal

abbrev pub invariant-loop-room : goal.invariant-loop-room
invariant-loop-room g l = (vec_len l.lists ≡ l.room-index) × ((place : ℕ) → list_at (lists_of l.lists.items) place ≡ [])
