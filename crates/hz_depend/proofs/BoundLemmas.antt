-- Heights by the edges of the code don't grow too great.
use Rattle.std.proofs.Common.{◌≡◌, ℕ, zero, suc, ◌*◌, ◌<◌, ◌≤◌, List, [], ◌∷◌, length, drop, map, All, arith}
use Rattle.std.specs.Prelude.{slice_index}
use Rattle.std.specs.List.{AllPairs}
use Rattle.std.proofs.lemmas.List.{length-map}
use Rattle.std.proofs.lemmas.List.Elements.{All-map, All-drop}
use Rattle.hz_base_model.proofs.Ascending.{AllPairs-map}
use Rattle.hz_checked.proofs.RowSteps.{AllPairs-drop}
use Rattle.hz_depend.specs.declared.nodes.Node.{Node}
use Rattle.hz_depend.specs.declared.parts.Edge.{Edge}
use Rattle.hz_depend.specs.GraphShape.{edge_of}
use Rattle.hz_depend.specs.Relaxing.{height_at, relaxed}
use Rattle.hz_depend.proofs.FoundLemmas.{Before}
use Rattle.hz_depend.proofs.HeightLemmas.{Upward, height_bound, length-relaxed}

abbrev pub latencies_in : List Node → List ℕ
latencies_in nodes = map (λ n. n.latency) nodes

pub small_latency : (nodes : List Node) → All (λ n. n.latency ≤ 1000) nodes → (i : ℕ) → slice_index (latencies_in nodes) i ≤ 1000
small_latency [] small i = omega arith
small_latency (n ∷ nodes) small zero = small 0 n (omega arith)
small_latency (n ∷ nodes) small (suc i) = small_latency nodes (λ k d lt. small (suc k) d (omega arith)) i

module _ (nodes : List Node) (edges : List Edge) (small : All (λ n. n.latency ≤ 1000) nodes) (up : All (λ e. (e.from < e.to) × (e.to < length nodes) × (e.cost ≤ 1000)) edges) (ordered : AllPairs (λ a b. a.from < b.to) edges) where
  pub all_up : (k : ℕ) → All (Upward (latencies_in nodes)) (map edge_of (drop k edges))
  all_up k = All-map (Upward (latencies_in nodes)) edge_of (drop k edges)
      (All-drop (λ e. Upward (latencies_in nodes) (edge_of e)) k edges (λ i d lt. let u = up i d lt in let n = length-map nodes (λ (n : Node). n.latency) in (u.0, omega arith, u.2)))

  pub all_ordered : (k : ℕ) → AllPairs Before (map edge_of (drop k edges))
  all_ordered k = AllPairs-map (λ a b. a.from < b.to) Before edge_of (λ a b h. h) (record { from = 0; to = 0; cost = 0 }) (drop k edges) (AllPairs-drop (λ a b. a.from < b.to) k edges ordered)

  pub bound : (k i : ℕ) → i < length nodes → height_at (latencies_in nodes) (relaxed (latencies_in nodes) (map edge_of (drop k edges))) i ≤ 1000 * length nodes
  bound k i lt =
      let n = length-map nodes (λ (n : Node). n.latency) in
      let h = height_bound (latencies_in nodes) (small_latency nodes small) (map edge_of (drop k edges)) (all_up k) (all_ordered k) i (omega arith) in
      omega arith

pub sums_length : (latencies : List ℕ) (edges : List Edge) → length (relaxed latencies (map edge_of edges)) ≡ length latencies
sums_length latencies edges = length-relaxed latencies (map edge_of edges)
