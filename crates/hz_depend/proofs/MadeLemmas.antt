-- What the parts that the code makes are together.
use Rattle.std.proofs.Common.{◌≡◌, ℕ, suc, ◌<◌, ◌≤◌, List, [], ◌∷◌, length, map, Option, Some, None, Result, Ok, Err, All, Contains, refl, sym, ap, ◌∙◌, subst, get_or, arith}
use Rattle.std.specs.Prelude.{slice_index}
use Rattle.std.specs.List.{AllPairs}
use Rattle.std.proofs.lemmas.List.{length-map, get_or-map}
use Rattle.std.proofs.lemmas.List.Elements.{All-map, All-contains}
use Rattle.hz_rtl.specs.declared.block.Block.{Block}
use Rattle.hz_rtl.specs.declared.block.Insn.{Insn}
use Rattle.hz_checked.specs.declared.checked.Checked.{Checked}
use Rattle.hz_checked.specs.Shape.{bypass_of}
use Rattle.hz_depend.specs.declared.nodes.Node.{Node}
use Rattle.hz_depend.specs.declared.parts.Edge.{Edge}
use Rattle.hz_depend.specs.declared.parts.Graph.{Graph}
use Rattle.hz_depend.specs.declared.parts.GraphInsn.{GraphInsn}
use Rattle.hz_depend.specs.Shape.{class_for}
use Rattle.hz_depend.specs.GraphShape.{edge_of, latencies_of, first_class_fault, IsGraphOf, IsSchedulable}
use Rattle.hz_depend.specs.Held.{Held, held, node_for, class_number, number_of_class, all_found}
use Rattle.hz_depend.proofs.HeldNumbers.{number}
use Rattle.hz_depend.specs.Numbers.{numbers_in, HoldsNumbers}
use Rattle.hz_depend.specs.declared.finding.numbers.Numbers.{Numbers}
use Rattle.hz_depend.proofs.NumberLemmas.{numbers_are}
use Rattle.hz_depend.specs.Relaxing.{height_at, relaxed}
use Rattle.hz_block_model.specs.Dependences.Graphs as model
use Rattle.hz_block_model.specs.Dependences.Classes.{ClassFault}
use Rattle.hz_depend.proofs.LastLemmas.{nodes_in}
use Rattle.hz_depend.proofs.FoundLemmas.{Before, all_before}
use Rattle.hz_depend.proofs.HeightLemmas.{heights_are}
use Rattle.hz_depend.proofs.BoundLemmas.{latencies_in, small_latency, all_up, all_ordered, sums_length}
use Rattle.hz_depend.proofs.GraphLemmas.{map_map, all_of, bypasses, numbers, all, graph_is, edge_is, small}
use Rattle.hz_block_model.specs.Running.Limits.{instruction_limit}

-- The instructions and the edges that are found of a block.
pub record Made (checked : Checked) (insns : List Insn) (nodes : List Node) (edges : List Edge) : Type 0 where
  pub holds : map held nodes ≡ map (node_for checked) insns
  pub finds : map edge_of edges ≡ all_found (number (map bypass_of checked.bypasses.items)) (map held nodes) (length nodes)

pub made : (checked : Checked) (insns given : List Insn) (nodes again : List Node) (numbers : Numbers) (edges : List Edge) → given ≡ insns → again ≡ nodes
    → map held nodes ≡ map (node_for checked) given → HoldsNumbers (map bypass_of checked.bypasses.items) numbers → map edge_of edges ≡ all_found (numbers_in numbers) (map held again) (length again) → Made checked insns nodes edges
made checked insns given nodes again numbers edges same_insns same_nodes holds are finds = record {
  holds = holds ∙ ap (map (node_for checked)) same_insns;
  finds = finds
      ∙ (ap (λ (cycles : Held → Held → ℕ). all_found cycles (map held again) (length again)) (numbers_are (map bypass_of checked.bypasses.items) numbers are)
      ∙ ap (λ (ns : List Node). all_found (number (map bypass_of checked.bypasses.items)) (map held ns) (length ns)) same_nodes);
}

-- a fault at a place, or a later one
abbrev first_of : ℕ → Result ℕ ClassFault → Option (ℕ × ClassFault) → Option (ℕ × ClassFault)
first_of n (Err e) later = Some (n, e)
first_of n (Ok class) later = later

all_right : (checked : Checked) (n : ℕ) (insns : List Insn) → first_class_fault n checked insns ≡ None → map Ok (map (class_number checked) insns) ≡ map (class_for checked) insns
all_right checked n [] e = refl
all_right checked n (i ∷ insns) e = go (class_for checked i) e (all_right checked (suc n) insns)
  where
    go : (r : Result ℕ ClassFault) → first_of n r (first_class_fault (suc n) checked insns) ≡ None → (first_class_fault (suc n) checked insns ≡ None → map Ok (map (class_number checked) insns) ≡ map (class_for checked) insns)
        → Ok (number_of_class r) ∷ map Ok (map (class_number checked) insns) ≡ r ∷ map (class_for checked) insns
    go (Ok class) e' further = ap (λ (rs : List (Result ℕ ClassFault)). Ok class ∷ rs) (further e')
    go (Err wrong) e' further = absurd (cc)

module _ (checked : Checked) (insns : List Insn) (nodes : List Node) (edges : List Edge) (m : Made checked insns nodes edges) where
  same_length : length nodes ≡ length insns
  same_length = sym (length-map nodes held) ∙ (ap length m.holds ∙ length-map insns (node_for checked))

  pub found_all : map edge_of edges ≡ all checked insns
  found_all = m.finds ∙ (ap (λ (hs : List Held). all_found (number (bypasses checked insns)) hs (length nodes)) m.holds ∙ ap (λ (n : ℕ). all_found (number (bypasses checked insns)) (nodes_in checked insns) n) same_length)

  pub node_classes : map (λ n. n.class) nodes ≡ numbers checked insns
  node_classes = sym (map_map (λ (h : Held). h.class) held nodes) ∙ (ap (map (λ (h : Held). h.class)) m.holds ∙ map_map (λ (h : Held). h.class) (node_for checked) insns)

  pub node_latencies : latencies_in nodes ≡ map (λ i. slice_index (latencies_of checked) (class_number checked i)) insns
  node_latencies = sym (map_map (λ (h : Held). h.latency) held nodes) ∙ (ap (map (λ (h : Held). h.latency)) m.holds ∙ map_map (λ (h : Held). h.latency) (node_for checked) insns)

  pub latencies_small : All (λ n. n.latency ≤ 1000) nodes
  latencies_small = all_of (λ (l : ℕ). l ≤ 1000) (λ (n : Node). n.latency) nodes (λ l c. All-contains (λ (k : ℕ). k ≤ 1000) (latencies_in nodes) l
      (rw node_latencies (All-map (λ (k : ℕ). k ≤ 1000) (λ (i : Insn). slice_index (latencies_of checked) (class_number checked i)) insns (λ k d lt. small checked insns (class_number checked (get_or insns k d))))) c)

  pub edges_up : All (λ e. (e.from < e.to) × (e.to < length nodes) × (e.cost ≤ 1000)) edges
  edges_up = all_of (λ (e : model.Edge). (e.from < e.to) × (e.to < length nodes) × (e.cost ≤ 1000)) edge_of edges
      (λ e c. let (u, w, k) = edge_is checked insns e (subst (λ (es : List model.Edge). Contains es e) found_all c) in let n = same_length in (u, omega arith, k))

  pub edges_ordered : AllPairs (λ a b. a.from < b.to) edges
  edges_ordered i j d lt within =
      let h : AllPairs Before (map edge_of edges) = subst (λ (es : List model.Edge). AllPairs Before es) (sym m.finds) (all_before (number (bypasses checked insns)) (map held nodes) (length nodes)) in
      let n = length-map edges edge_of in
      let k = h i j (edge_of d) lt (omega arith) in
      rw (get_or-map edge_of edges i d (edge_of d) (omega arith), get_or-map edge_of edges j d (edge_of d) within) at k

  pub sums_many : (sums : List (Option ℕ)) → sums ≡ relaxed (latencies_in nodes) (map edge_of edges) → length insns ≡ length sums
  sums_many sums e =
      let n = sums_length (latencies_in nodes) edges in
      let l = length-map nodes (λ (n : Node). n.latency) in
      let s = same_length in
      let k = ap length e in
      omega arith

module _ (checked : Checked) (block : Block) (nodes : List Node) (sums : List (Option ℕ)) (g : Graph) (m : Made checked block.insns.items nodes g.edges.items)
    (is_sums : sums ≡ relaxed (latencies_in nodes) (map edge_of g.edges.items))
    (same_numbers : map (λ i. i.number) g.insns.items ≡ map (λ i. i.number) block.insns.items)
    (same_classes : map (λ i. i.class) g.insns.items ≡ map (λ n. n.class) nodes)
    (same_latencies : map (λ i. i.latency) g.insns.items ≡ latencies_in nodes) where
  abbrev insns : List Insn
  insns = block.insns.items

  abbrev classes_in : List ℕ
  classes_in = map (λ i. i.class) g.insns.items

  is_classes : classes_in ≡ numbers checked insns
  is_classes = same_classes ∙ node_classes checked insns nodes g.edges.items m

  is_long : length g.insns.items ≡ length nodes
  is_long =
      let a = ap length same_classes in
      let b = length-map g.insns.items (λ (i : GraphInsn). i.class) in
      let c = length-map nodes (λ (n : Node). n.class) in
      omega arith

  latencies_are : map (λ i. i.latency) g.insns.items ≡ map (λ i. slice_index (latencies_of checked) i.class) g.insns.items
  latencies_are =
      same_latencies ∙ (node_latencies checked insns nodes g.edges.items m
      ∙ (sym (map_map (slice_index (latencies_of checked)) (class_number checked) insns)
      ∙ (ap (map (slice_index (latencies_of checked))) (sym is_classes)
      ∙ map_map (slice_index (latencies_of checked)) (λ (i : GraphInsn). i.class) g.insns.items)))

  pub is_graph : map (λ i. i.line) g.insns.items ≡ map (λ i. i.line) block.insns.items
      → ((i : ℕ) → i < length g.insns.items → slice_index (map (λ i. i.height) g.insns.items) i ≡ height_at (latencies_in nodes) sums i)
      → first_class_fault 0 checked insns ≡ None → IsGraphOf checked block g
  is_graph same_lines same_heights right = record {
    numbers = same_numbers;
    lines = same_lines;
    classes = sym (map_map Ok (λ (i : GraphInsn). i.class) g.insns.items) ∙ (ap (map Ok) is_classes ∙ all_right checked 0 insns right);
    latencies = latencies_are;
    edges = rw (is_classes, found_all checked insns nodes g.edges.items m) (graph_is checked insns);
    heights = λ i lt. rw same_latencies (heights_are (latencies_in nodes) (small_latency nodes ok) (map edge_of g.edges.items) (all_up nodes g.edges.items ok up ordered 0) (all_ordered nodes g.edges.items ok up ordered 0) (map (λ i. i.height) g.insns.items)
        (λ k within. same_heights k (let n = is_long in let l = length-map nodes (λ (n : Node). n.latency) in omega arith) ∙ ap (λ (s : List (Option ℕ)). height_at (latencies_in nodes) s k) is_sums) i
        (let n = is_long in let l = length-map nodes (λ (n : Node). n.latency) in omega arith));
  }
    where
      ok : All (λ n. n.latency ≤ 1000) nodes
      ok = latencies_small checked insns nodes g.edges.items m

      up : All (λ e. (e.from < e.to) × (e.to < length nodes) × (e.cost ≤ 1000)) g.edges.items
      up = edges_up checked insns nodes g.edges.items m

      ordered : AllPairs (λ a b. a.from < b.to) g.edges.items
      ordered = edges_ordered checked insns nodes g.edges.items m

  pub is_schedulable : (n : ℕ) → length insns ≤ instruction_limit → All (λ k. k.class < n) nodes → IsSchedulable n g
  is_schedulable n few within = record {
    few = let a = ap length same_numbers in let b = length-map g.insns.items (λ (i : GraphInsn). i.number) in let c = length-map insns (λ (i : Insn). i.number) in omega arith;
    classes = all_of (λ (c : ℕ). c < n) (λ (i : GraphInsn). i.class) g.insns.items (λ c h. All-contains (λ (c : ℕ). c < n) classes_in c (rw same_classes (All-map (λ (c : ℕ). c < n) (λ (k : Node). k.class) nodes within)) h);
    latencies = all_of (λ (c : ℕ). c ≤ 1000) (λ (i : GraphInsn). i.latency) g.insns.items (λ c h. All-contains (λ (c : ℕ). c ≤ 1000) (map (λ i. i.latency) g.insns.items) c
        (rw same_latencies (All-map (λ (c : ℕ). c ≤ 1000) (λ (k : Node). k.latency) nodes (latencies_small checked insns nodes g.edges.items m))) h);
    edges = λ k d lt. let (u, w, c) = edges_up checked insns nodes g.edges.items m k d lt in let l = is_long in (u, omega arith, c);
  }
