use Rattle.std.proofs.Common.{◌≡◌, ◌+◌, ◌≤◌, ℕ, length, map, drop}
use Rattle.std.specs.Prelude.{slice_index}
use Rattle.hz_depend.specs.GraphShape.{edge_of}
use Rattle.hz_sched.specs.Rows.{leaving}
use Rattle.hz_sched.proofs.adjacency.counts_from.Given as goal

-- the counts so far, with those of the edges that are left, are those of all
abbrev pub invariant-loop-edge : goal.invariant-loop-edge
invariant-loop-edge l = record {
  size : length l.counts.items ≡ l.count;
  counted : (i : ℕ) → slice_index l.counts.items i + leaving i (map edge_of (drop l.edge-index l.edges)) ≡ leaving i (map edge_of l.edges);
  small : (i : ℕ) → slice_index l.counts.items i ≤ l.edge-index;
}
