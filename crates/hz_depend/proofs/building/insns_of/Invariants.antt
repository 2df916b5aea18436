use Rattle.std.proofs.Common.{◌≡◌, ◌++◌, ℕ, ◌<◌, drop, map, length}
use Rattle.std.specs.Prelude.{slice_index}
use Rattle.hz_depend.specs.Relaxing.{height_at}
use Rattle.hz_depend.proofs.building.insns_of.Given as goal

-- the instructions so far, with those that are left, are all
abbrev pub invariant-loop-place : goal.invariant-loop-place
invariant-loop-place l = record {
  size : length l.made.items ≡ l.place;
  numbers : map (λ i. i.number) l.made.items ++ map (λ i. i.number) (drop l.place l.insns) ≡ map (λ i. i.number) l.insns;
  lines : map (λ i. i.line) l.made.items ++ map (λ i. i.line) (drop l.place l.insns) ≡ map (λ i. i.line) l.insns;
  classes : map (λ i. i.class) l.made.items ++ map (λ n. n.class) (drop l.place l.nodes) ≡ map (λ n. n.class) l.nodes;
  latencies : map (λ i. i.latency) l.made.items ++ map (λ n. n.latency) (drop l.place l.nodes) ≡ map (λ n. n.latency) l.nodes;
  heights : (i : ℕ) → i < length l.made.items → slice_index (map (λ i. i.height) l.made.items) i ≡ height_at (map (λ n. n.latency) l.nodes) l.sums i;
}
