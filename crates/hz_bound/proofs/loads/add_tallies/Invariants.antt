use Rattle.std.proofs.Common.{◌≡◌, ℕ, ◌≤◌, ◌<◌, length}
use Rattle.hz_bound.specs.Tallies.{tally_at, forced}
use Rattle.hz_bound.specs.Sums.{total_at, with_times}
use Rattle.hz_bound.proofs.loads.add_tallies.Given as goal

-- the units up to one are reported
abbrev pub invariant-loop-unit : goal.invariant-loop-unit
invariant-loop-unit l = record {
  long : length l.totals ≡ length l.initial.totals;
  each : (u : ℕ) → u < l.unit → total_at l.totals u ≡ with_times l.times (forced l.count (tally_at l.tallies u)) (tally_at l.tallies u).range (total_at l.initial.totals u);
  rest : (u : ℕ) → l.unit ≤ u → total_at l.totals u ≡ total_at l.initial.totals u;
}
