use Rattle.std.proofs.Common.{◌≡◌, ◌<◌, ℕ}
use Rattle.hz_modulo.specs.Repeating.{lists_in, states_at}
use Rattle.hz_modulo.proofs.repeating.place_of.Given as goal

-- none before
abbrev pub invariant-loop-place : goal.invariant-loop-place
invariant-loop-place l = (i : ℕ) → i < l.place → states_at (lists_in l.held) i ≡ l.states → ⊥
