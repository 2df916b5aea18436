-- Graphs that are joined can be scheduled.
use Rattle.std.proofs.Common.{◌≡◌, ℕ, ◌+◌, ◌<◌, ◌≤◌, ⊎_elim, List, ◌++◌, map, length, get_or, All, Contains, sym, ap, ◌∙◌, subst, arith}
use Rattle.std.proofs.lemmas.List.{length-map, length-append}
use Rattle.std.proofs.lemmas.List.Elements.{All-append, All-contains, Contains-get_or, Contains-append_cases}
use Rattle.hz_base_model.proofs.Elements.{Contains-map, Contains-from_map}
use Rattle.hz_description_model.specs.Reading.Limits.{latency_limit}
use Rattle.hz_block_model.specs.Running.Limits.{instruction_limit}
use Rattle.hz_block_model.specs.Dependences.Graphs as graphs
use Rattle.hz_block_model.specs.Scheduling.Schedules as schedules
use Rattle.hz_depend.specs.declared.parts.Edge.{Edge}
use Rattle.hz_depend.specs.declared.parts.Graph.{Graph}
use Rattle.hz_depend.specs.declared.parts.GraphInsn.{GraphInsn}
use Rattle.hz_depend.specs.GraphShape.{edge_of, IsSchedulable}
use Rattle.hz_sched.specs.Shape.{node_of, graph_of}
use Rattle.hz_measure_model.specs.TwoContexts.Joining as model

module _ (n : ℕ) (first second made : Graph) (one : IsSchedulable n first) (other : IsSchedulable n second) (few : length first.insns.items + length second.insns.items ≤ instruction_limit)
    (insns : made.insns.items ≡ first.insns.items ++ second.insns.items) (joined : graph_of made ≡ model.joined (graph_of first) (graph_of second)) where
  long : length made.insns.items ≡ length first.insns.items + length second.insns.items
  long = ap length insns ∙ length-append first.insns.items second.insns.items

  edges_are : map edge_of made.edges.items ≡ map edge_of first.edges.items ++ map (model.raised (length (map node_of first.insns.items))) (map edge_of second.edges.items)
  edges_are = ap (λ (g : schedules.Graph). g.edges) joined

  edge_small : (e : Edge) → Contains made.edges.items e → (e.from < e.to) × (e.to < length made.insns.items) × (e.cost ≤ latency_limit)
  edge_small e there = ⊎_elim
      (λ (m : Contains (map edge_of first.edges.items) (edge_of e)).
      let (f, held, same) = Contains-from_map edge_of first.edges.items (edge_of e) m in
      let (up, low, small) = All-contains (λ (e : Edge). (e.from < e.to) × (e.to < length first.insns.items) × (e.cost ≤ latency_limit)) first.edges.items f one.edges held in
      let from = ap (λ (e : graphs.Edge). e.from) same in
      let to = ap (λ (e : graphs.Edge). e.to) same in
      let cost = ap (λ (e : graphs.Edge). e.cost) same in
      (omega (arith, up, from, to), omega (arith, low, to, long), omega (arith, small, cost)))
      (λ (m : Contains (map (model.raised (length (map node_of first.insns.items))) (map edge_of second.edges.items)) (edge_of e)).
      let (d, raised, moved) = Contains-from_map (model.raised (length (map node_of first.insns.items))) (map edge_of second.edges.items) (edge_of e) m in
      let (f, held, same) = Contains-from_map edge_of second.edges.items d raised in
      let (up, low, small) = All-contains (λ (e : Edge). (e.from < e.to) × (e.to < length second.insns.items) × (e.cost ≤ latency_limit)) second.edges.items f other.edges held in
      let nodes = length-map first.insns.items node_of in
      let from = ap (λ (e : graphs.Edge). e.from) same in
      let to = ap (λ (e : graphs.Edge). e.to) same in
      let cost = ap (λ (e : graphs.Edge). e.cost) same in
      let from_all = ap (λ (e : graphs.Edge). e.from) moved in
      let to_all = ap (λ (e : graphs.Edge). e.to) moved in
      let cost_all = ap (λ (e : graphs.Edge). e.cost) moved in
      (omega (arith, up, from, to, from_all, to_all), omega (arith, low, to, to_all, long, nodes), omega (arith, small, cost, cost_all)))
      (Contains-append_cases (map edge_of first.edges.items) (map (model.raised (length (map node_of first.insns.items))) (map edge_of second.edges.items)) (edge_of e) (subst (λ (es : List graphs.Edge). Contains es (edge_of e)) edges_are (Contains-map edge_of made.edges.items e there)))

  pub can_be_scheduled : IsSchedulable n made
  can_be_scheduled = record {
    few = omega (arith, few, long);
    classes = subst (All (λ (i : GraphInsn). i.class < n)) (sym insns) (All-append (λ (i : GraphInsn). i.class < n) first.insns.items second.insns.items one.classes other.classes);
    latencies = subst (All (λ (i : GraphInsn). i.latency ≤ latency_limit)) (sym insns) (All-append (λ (i : GraphInsn). i.latency ≤ latency_limit) first.insns.items second.insns.items one.latencies other.latencies);
    edges = λ k d lt. edge_small (get_or made.edges.items k d) (Contains-get_or made.edges.items k d lt);
  }
