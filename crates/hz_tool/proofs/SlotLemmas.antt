-- The schedule that is made over a machine is the one by the description, and its text is reported.
use Rattle.std.proofs.Common.{◌≡◌, ℕ, ◌<◌, List, length, map, All, sym, ap, ◌∙◌, subst}
use Rattle.std.proofs.lemmas.List.Elements.{All-map}
use Rattle.hz_pipeline_model.specs.Accepting.Events.{Event, IsOfClass}
use Rattle.hz_pipeline_model.specs.Accepting.Replay.{Accepted}
use Rattle.hz_answer_model.specs.ScheduleAnswers.{schedule_text}
use Rattle.hz_description_model.specs.Check.Places.{Known, class_names}
use Rattle.hz_depend.specs.declared.parts.Graph as depend
use Rattle.hz_description_model.specs.Reading.Descriptions.{Description}
use Rattle.hz_pipeline_model.specs.Pipelines.Pipelines.{pipeline_with}
use Rattle.hz_report.specs.Schedules.{schedule_by}
use Rattle.hz_rtl.specs.declared.block.Block.{Block}
use Rattle.hz_rtl.specs.Shape.{instruction, instructions}
use Rattle.hz_block_model.specs.Running.Blocks.{Instruction}
use Rattle.hz_sched.specs.Shape.{graph_of, node_of}
use Rattle.hz_block_model.specs.Scheduling.Schedules.{Graph, Node, Slot, Legal, Greedy}
use Rattle.hz_block_model.proofs.Scheduling.SameSchedules.{legal_there, greedy_there}
use Rattle.hz_block_model.specs.Scheduled.BlockGraphs.{IsGraphOf}
use Rattle.hz_block_model.specs.Scheduled.BlockSchedules.{IsScheduleOf}
use Rattle.hz_pipeline_model.specs.Tables.Machines.{Machine, IsWalked}
use Rattle.hz_tool.specs.Machines.{IsMachineFor}
use Rattle.hz_answer_model.proofs.WalkLaws.{map_twice}

-- classes of a graph in the range of the description
pub nodes_below : (n m : ℕ) (graph : depend.Graph) → All (λ i. i.class < n) graph.insns.items → n ≡ m → All (λ x. x.class < m) (graph_of graph).nodes
nodes_below n m graph all same = subst (λ (k : ℕ). All (λ (x : Node). x.class < k) (graph_of graph).nodes) same (All-map (λ (x : Node). x.class < n) node_of graph.insns.items all)

-- the text by the names and numbers that are held
pub text_reported : (d : Description) (names : List (List ℕ)) (block : Block) (graph : depend.Graph) (slots : List Slot) → names ≡ class_names d → map (λ i. i.number) graph.insns.items ≡ map (λ i. i.number) block.insns.items
    → schedule_by names (map (λ i. i.number) graph.insns.items) (graph_of graph) slots ≡ schedule_text d (instructions block) (graph_of graph) slots
text_reported d names block graph slots same numbers =
    ap (λ (ns : List (List ℕ)). schedule_by ns (map (λ i. i.number) graph.insns.items) (graph_of graph) slots) same
    ∙ ap (λ (ns : List ℕ). schedule_by (class_names d) ns (graph_of graph) slots) (numbers ∙ sym (map_twice (λ (i : Instruction). i.number) instruction block.insns.items))

-- the schedule is legal and greedy by the description
pub schedule_is : (d : Description) (known : Known) (m : Machine) (block : List Instruction) (g : Graph) (slots : List Slot) → IsMachineFor d known m → IsGraphOf d block g → All (λ n. n.class < length d.classes) g.nodes
    → Legal (IsWalked m) g slots → Greedy (IsWalked m) g slots → IsScheduleOf d known block g slots
schedule_is d known m block g slots is graph ranges legal greedy = record {
  graph = graph;
  legal = legal_there (length d.classes) (IsWalked m) (Accepted (pipeline_with d known)) there back g ranges slots legal;
  greedy = greedy_there (length d.classes) (IsWalked m) (Accepted (pipeline_with d known)) there back g ranges slots greedy;
}
  where
    there : (t : List Event) → All (IsOfClass (length d.classes)) t → IsWalked m t → Accepted (pipeline_with d known) t
    there t all = (is.walks t all).0

    back : (t : List Event) → All (IsOfClass (length d.classes)) t → Accepted (pipeline_with d known) t → IsWalked m t
    back t all = (is.walks t all).1
