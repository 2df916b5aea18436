-- The class of the instruction at a place.
use Rattle.std.proofs.Common.{◌≡◌, ◌<◌, ℕ, List, map, length, get_or, All, sym, ap, ◌∙◌, arith}
use Rattle.std.specs.Prelude.{slice_index}
use Rattle.std.proofs.lemmas.List.{length-map, get_or-map}
use Rattle.std.proofs.lemmas.List.Elements.{All-map}
use Rattle.hz_depend.specs.declared.parts.Graph.{Graph}
use Rattle.hz_depend.specs.declared.parts.GraphInsn.{GraphInsn}
use Rattle.hz_block_model.specs.Scheduling.Schedules.{Node, class_at}
use Rattle.hz_block_model.proofs.Scheduling.SameSchedules.{class_below}
use Rattle.hz_sched.specs.Shape.{graph_of, node_of}

pub class_of_node : (insns : List GraphInsn) (place : ℕ) (x : GraphInsn) → place < length insns → x ≡ get_or insns place x → x.class ≡ slice_index (map (λ n. n.class) (map node_of insns)) place
class_of_node insns place x within is =
    let long = length-map insns node_of in
    ap (λ (i : GraphInsn). i.class) is
    ∙ (ap (λ (n : Node). n.class) (sym (get_or-map node_of insns place x (node_of x) within))
    ∙ sym (get_or-map (λ (n : Node). n.class) (map node_of insns) place (node_of x) 0 (omega (arith, long, within))))

-- it is one of the classes
pub class_within : (graph : Graph) (classes place : ℕ) → place < length graph.insns.items → All (λ i. i.class < classes) graph.insns.items → class_at (graph_of graph) place < classes
class_within graph classes place low all =
    let long = length-map graph.insns.items node_of in
    class_below classes (graph_of graph) (All-map (λ (n : Node). n.class < classes) node_of graph.insns.items all) place (omega arith)
