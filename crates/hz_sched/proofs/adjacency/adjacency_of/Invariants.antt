use Rattle.std.proofs.Common.{◌≡◌, ◌==◌, ◌++◌, ◌+◌, ◌≤◌, ℕ, length, drop, filter, map}
use Rattle.std.specs.Prelude.{slice_index}
use Rattle.hz_depend.specs.GraphShape.{edge_of}
use Rattle.hz_sched.specs.Rows.{row_at}
use Rattle.hz_sched.specs.Waits.{leading}
use Rattle.hz_sched.proofs.adjacency.adjacency_of.Given as goal

-- the rows and the counts so far, with the edges that are left, are what they are to be
abbrev pub invariant-loop-edge : goal.invariant-loop-edge
invariant-loop-edge l = record {
  size : length l.rows.items ≡ l.count;
  rows : (i : ℕ) → row_at l.rows.items i ++ filter (λ e. e.from == i) (map edge_of (drop l.edge-index l.edges)) ≡ filter (λ e. e.from == i) (map edge_of l.edges);
  counts_size : length l.counts.items ≡ l.count;
  counted : (j : ℕ) → slice_index l.counts.items j + leading j (map edge_of (drop l.edge-index l.edges)) ≡ leading j (map edge_of l.edges);
  small : (j : ℕ) → slice_index l.counts.items j ≤ l.edge-index;
}
