-- A block has one dependence graph, but for the order of its edges.
use Rattle.std.proofs.Common.{◌≡◌, ℕ, ◌<◌, List, [], ◌∷◌, length, map, All, Contains, refl, sym, ap, ◌∙◌, subst, arith}
use Rattle.std.specs.Prelude.{Result, Ok, slice_index}
use Rattle.std.proofs.lemmas.List.{length-map, same_lists, get_or_default}
use Rattle.std.proofs.lemmas.List.Elements.{All-nil, All-cons}
use Rattle.hz_block_model.specs.Running.Blocks.{Instruction}
use Rattle.hz_description_model.specs.Reading.Descriptions.{Description}
use Rattle.hz_block_model.specs.Dependences.Classes.{ClassFault}
use Rattle.hz_block_model.specs.Dependences.Dependences.{Timing}
use Rattle.hz_block_model.specs.Dependences.Graphs.{Edge, edge, IsGraph, IsHeight}
use Rattle.hz_block_model.proofs.Dependences.HeightLaws.{one_height}
use Rattle.hz_block_model.specs.Scheduling.Schedules.{Node, Graph, height_at}
use Rattle.hz_block_model.proofs.Scheduling.AlikeGraphs.{AreAlike}
use Rattle.hz_block_model.specs.Scheduled.BlockGraphs.{class_in, latencies_in, timing_in, classes_of, IsGraphOf}

-- ---- classes

-- a number as a class without a fault
abbrev good : ℕ → Result ℕ ClassFault
good class = Ok class

same_list : (xs ys : List ℕ) → map good xs ≡ map good ys → xs ≡ ys
same_list [] [] e = refl
same_list [] (y ∷ ys) e = absurd (cc)
same_list (x ∷ xs) [] e = absurd (cc)
same_list (x ∷ xs) (y ∷ ys) e = let rest = same_list xs ys (cc) in let first : x ≡ y = cc in cc

-- an instruction has a class
abbrev pub HasClass : Description → Instruction → Type 0
HasClass d i = (class : ℕ) × (class_in d i ≡ Ok class)

pub all_have_classes : (d : Description) (classes : List ℕ) (block : List Instruction) → map Ok classes ≡ map (class_in d) block → All (HasClass d) block
all_have_classes d classes [] e = All-nil (HasClass d)
all_have_classes d [] (i ∷ block) e = absurd (cc)
all_have_classes d (c ∷ classes) (i ∷ block) e =
    let is : class_in d i ≡ Ok c = cc in
    All-cons (HasClass d) i block (c, is) (all_have_classes d classes block (cc))

-- as many nodes as instructions
pub as_many : (d : Description) (block : List Instruction) (g : Graph) → IsGraphOf d block g → length g.nodes ≡ length block
as_many d block g graph =
    let one = length-map g.nodes (λ (n : Node). n.class) in
    let two = length-map (classes_of g) good in
    let three = length-map block (class_in d) in
    let same = ap length graph.classes in
    omega (arith, one, two, three, same)

-- ---- edges

-- an edge of one graph of a block is in each other
pub edges_there : (block : List Instruction) (t : Timing) (edges others : List Edge) → IsGraph block t edges → IsGraph block t others → (e : Edge) → Contains edges e → Contains others e
edges_there block t edges others one other e c =
    let (up, inside, is, weight) = one.only e c in
    let there = other.each e.from e.to (omega arith) inside is in
    let whole : edge block t e.from e.to ≡ e = λ i. record { from = e.from; to = e.to; cost = sym weight i } in
    subst (Contains others) whole there

height_there : (edges others : List Edge) (latency heights : List ℕ) (i : ℕ) → ((e : Edge) → Contains edges e → Contains others e) → ((e : Edge) → Contains others e → Contains edges e) → IsHeight edges latency heights i → IsHeight others latency heights i
height_there edges others latency heights i there back h = record {
  none = λ none. h.none (λ e c from. none e (there e c) from);
  least = λ e c from. h.least e (back e c) from;
  reached = λ e c from. let (f, is, rest, also) = h.reached e (back e c) from in (f, there f is, rest, also);
}

-- ---- two graphs of a block

module _ (d : Description) (block : List Instruction) (g h : Graph) (one : IsGraphOf d block g) (other : IsGraphOf d block h) where
  pub same_classes : classes_of g ≡ classes_of h
  same_classes = same_list (classes_of g) (classes_of h) (one.classes ∙ sym other.classes)

  -- the edges of the second, by the classes of the first
  edges_again : IsGraph block (timing_in d (classes_of g) block) h.edges
  edges_again = subst (λ (cs : List ℕ). IsGraph block (timing_in d cs block) h.edges) (sym same_classes) other.edges

  pub edge_there : (e : Edge) → Contains g.edges e → Contains h.edges e
  edge_there = edges_there block (timing_in d (classes_of g) block) g.edges h.edges one.edges edges_again

  pub edge_back : (e : Edge) → Contains h.edges e → Contains g.edges e
  edge_back = edges_there block (timing_in d (classes_of g) block) h.edges g.edges edges_again one.edges

  same_nodes : length g.nodes ≡ length h.nodes
  same_nodes = as_many d block g one ∙ sym (as_many d block h other)

  height_again : (i : ℕ) → i < length g.nodes → IsHeight g.edges (map (slice_index (latencies_in d)) (classes_of g)) (map (λ n. n.height) h.nodes) i
  height_again i lt =
      let many = same_nodes in
      let there = other.heights i (omega arith) in
      height_there h.edges g.edges (map (slice_index (latencies_in d)) (classes_of g)) (map (λ n. n.height) h.nodes) i edge_back edge_there
      (subst (λ (cs : List ℕ). IsHeight h.edges (map (slice_index (latencies_in d)) cs) (map (λ n. n.height) h.nodes) i) (sym same_classes) there)

  pub same_height : (i : ℕ) → i < length g.nodes → height_at g i ≡ height_at h i
  same_height i lt =
      let many = as_many d block g one in
      one_height g.edges (map (slice_index (latencies_in d)) (classes_of g)) (length g.nodes)
      (λ e c. let (up, inside, is, weight) = (one.edges).only e c in (up, omega arith))
      (map (λ n. n.height) g.nodes) (map (λ n. n.height) h.nodes) one.heights height_again (length g.nodes) i lt (omega arith)

  -- nothing but the order of their edges is different
  pub graphs_alike : AreAlike g h
  graphs_alike = record {
    classes = same_classes;
    heights = same_lists (heights_of g) (heights_of h) (omega (arith, long g, long h, same_nodes)) (λ k e lt.
        let inside : k < length g.nodes = omega (arith, lt, long g) in
        get_or_default (heights_of g) k e 0 lt ∙ (same_height k inside ∙ sym (get_or_default (heights_of h) k e 0 (omega (arith, inside, long h, same_nodes)))));
    there = edge_there;
    back = edge_back;
  }
    where
      heights_of : Graph → List ℕ
      heights_of o = map (λ n. n.height) o.nodes

      long : (o : Graph) → length (heights_of o) ≡ length o.nodes
      long o = length-map o.nodes (λ (n : Node). n.height)
