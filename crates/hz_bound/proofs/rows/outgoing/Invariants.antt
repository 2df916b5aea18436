use Rattle.std.proofs.Common.{◌≡◌, ◌==◌, ◌++◌, ℕ, length, drop, filter}
use Rattle.hz_bound.specs.Rows.{row_at}
use Rattle.hz_bound.proofs.rows.outgoing.Given as goal

-- the rows so far, with the edges that are left, are what they are to be
abbrev pub invariant-loop-edge : goal.invariant-loop-edge
invariant-loop-edge l = record {
  size : length l.rows.items ≡ l.count;
  rows : (i : ℕ) → row_at l.rows.items i ++ filter (λ e. e.from == i) (drop l.edge-index l.edges) ≡ filter (λ e. e.from == i) l.edges;
}
