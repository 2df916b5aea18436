-- Two blocks have one schedule in one pipeline, whatever the order of their graphs' edges, and there is one.
use Rattle.std.proofs.Common.{◌≡◌, ℕ, ◌<◌, ◌≤◌, ⊎_elim, List, [], ◌∷◌, ◌++◌, length, map, All, Contains, sym, ap, ◌∙◌, subst, arith}
use Rattle.std.specs.Prelude.{Result, Ok, slice_index}
use Rattle.std.proofs.lemmas.List.{length-append, map-append}
use Rattle.std.proofs.lemmas.List.Elements.{All-append, All-weaker, Contains-append_left, Contains-append_right, Contains-append_cases}
use Rattle.hz_base_model.proofs.Elements.{Contains-map, Contains-from_map}
use Rattle.hz_pipeline_model.specs.Accepting.Events.{issue}
use Rattle.hz_pipeline_model.specs.Accepting.Replay.{Accepted}
use Rattle.hz_description_model.specs.Reading.Descriptions.{Description}
use Rattle.hz_description_model.specs.Reading.DescriptionShape.{IsCheckable}
use Rattle.hz_description_model.specs.Check.CheckFaults.{IsSound}
use Rattle.hz_description_model.specs.Check.Places.{Known}
use Rattle.hz_pipeline_model.specs.Pipelines.Pipelines.{pipeline_with}
use Rattle.hz_block_model.specs.Running.Blocks.{Instruction}
use Rattle.hz_block_model.specs.Dependences.Classes.{ClassFault}
use Rattle.hz_block_model.specs.Dependences.Graphs.{Edge}
use Rattle.hz_block_model.specs.Scheduling.Schedules.{Node, Graph, Slot, class_at}
use Rattle.hz_block_model.proofs.Scheduling.OneSchedule.{one_schedule}
use Rattle.hz_block_model.proofs.Scheduling.AlikeGraphs.{AreAlike, alike_back, alike_length, legal_there, greedy_there}
use Rattle.hz_block_model.specs.Scheduled.BlockGraphs.{class_in, classes_of}
use Rattle.hz_block_model.specs.Scheduled.BlockSchedules.{StartsAlone}
use Rattle.hz_block_model.proofs.Scheduled.GraphLaws.{HasClass, as_many, graphs_alike}
use Rattle.hz_block_model.proofs.Schedulable.AfterLaws.{accepted_reported, accepted_nothing, after_while}
use Rattle.hz_block_model.proofs.Schedulable.GraphTotal.{some_graph}
use Rattle.hz_block_model.proofs.Schedulable.GreedyLaws.{some_schedule}
use Rattle.hz_block_model.proofs.Schedulable.ScheduleTotal.{upward_edges, starts_at}
use Rattle.hz_measure_model.specs.TwoContexts.Joining.{raised, joined}
use Rattle.hz_measure_model.specs.TwoContexts.TwoContexts.{IsScheduleOfTwo}

pub joined_alike : (g h i j : Graph) → AreAlike g h → AreAlike i j → AreAlike (joined g i) (joined h j)
joined_alike g h i j one other = record {
  classes = map-append (λ (n : Node). n.class) g.nodes i.nodes ∙ (ap (λ (cs : List ℕ). cs ++ classes_of i) one.classes ∙ (ap (λ (cs : List ℕ). classes_of h ++ cs) other.classes ∙ sym (map-append (λ (n : Node). n.class) h.nodes j.nodes)));
  heights = map-append (λ (n : Node). n.height) g.nodes i.nodes ∙ (ap (λ (hs : List ℕ). hs ++ map (λ n. n.height) i.nodes) one.heights ∙ (ap (λ (hs : List ℕ). map (λ n. n.height) h.nodes ++ hs) other.heights ∙ sym (map-append (λ (n : Node). n.height) h.nodes j.nodes)));
  there = edges g h i j one other;
  back = edges h g j i (alike_back g h one) (alike_back i j other);
}
  where
    edges : (g h i j : Graph) → AreAlike g h → AreAlike i j → (e : Edge) → Contains (joined g i).edges e → Contains (joined h j).edges e
    edges g h i j one other e is = ⊎_elim
        (λ (m : Contains g.edges e). Contains-append_left h.edges (map (raised (length h.nodes)) j.edges) e (one.there e m))
        (λ (m : Contains (map (raised (length g.nodes)) i.edges) e).
        let (f, held, same) = Contains-from_map (raised (length g.nodes)) i.edges e m in
        let moved : raised (length h.nodes) f ≡ e = ap (λ (n : ℕ). raised n f) (sym (alike_length g h one)) ∙ same in
        Contains-append_right h.edges (map (raised (length h.nodes)) j.edges) e (subst (Contains (map (raised (length h.nodes)) j.edges)) moved (Contains-map (raised (length h.nodes)) j.edges f (other.there f held))))
        (Contains-append_cases g.edges (map (raised (length g.nodes)) i.edges) e is)

module _ (d : Description) (known : Known) where
  pub one_of_two : (first second : List Instruction) (g h i j : Graph) (s t : List Slot) → IsScheduleOfTwo d known first second g h s → IsScheduleOfTwo d known first second i j t → s ≡ t
  one_of_two first second g h i j s t one other =
      let same = joined_alike i g j h (graphs_alike d first i g other.first_graph one.first_graph) (graphs_alike d second j h other.second_graph one.second_graph) in
      one_schedule (Accepted (pipeline_with d known)) (joined g h) s t one.legal one.greedy
      (legal_there (Accepted (pipeline_with d known)) (joined i j) (joined g h) same t other.legal)
      (greedy_there (Accepted (pipeline_with d known)) (joined i j) (joined g h) same t other.greedy)

  -- ---- there is one

  pub joined_upward : (g h : Graph) → ((e : Edge) → Contains g.edges e → (e.from < e.to) × (e.to < length g.nodes) × (e.cost ≤ 1000)) → ((e : Edge) → Contains h.edges e → (e.from < e.to) × (e.to < length h.nodes) × (e.cost ≤ 1000))
      → (e : Edge) → Contains (joined g h).edges e → (e.from < e.to) × (e.to < length (joined g h).nodes) × (e.cost ≤ 1000)
  joined_upward g h one other e there =
      let long = length-append g.nodes h.nodes in
      ⊎_elim
      (λ (m : Contains g.edges e). let (up, low, small) = one e m in (up, omega (arith, low, long), small))
      (λ (m : Contains (map (raised (length g.nodes)) h.edges) e).
      let (f, held, same) = Contains-from_map (raised (length g.nodes)) h.edges e m in
      let (up, low, small) = other f held in
      let from = ap (λ (e : Edge). e.from) same in
      let to = ap (λ (e : Edge). e.to) same in
      let cost = ap (λ (e : Edge). e.cost) same in
      (omega (arith, up, from, to), omega (arith, low, to, long), omega (arith, small, cost)))
      (Contains-append_cases g.edges (map (raised (length g.nodes)) h.edges) e there)

  pub some_of_two : (first second : List Instruction) → IsCheckable d → IsSound d known → All (StartsAlone d known) first → All (StartsAlone d known) second → (g : Graph) × (h : Graph) × (slots : List Slot) × IsScheduleOfTwo d known first second g h slots
  some_of_two first second formed sound one other =
      let (g, of_first) = some_graph d first (All-weaker (StartsAlone d known) (HasClass d) (λ i starts. (starts.0, starts.1)) first one) in
      let (h, of_second) = some_graph d second (All-weaker (StartsAlone d known) (HasClass d) (λ i starts. (starts.0, starts.1)) second other) in
      let classes : map Ok (classes_of g ++ classes_of h) ≡ map (class_in d) (first ++ second) =
      map-append Ok (classes_of g) (classes_of h) ∙ (ap (λ (rs : List (Result ℕ ClassFault)). rs ++ map Ok (classes_of h)) of_first.classes ∙ (ap (λ (rs : List (Result ℕ ClassFault)). map (class_in d) first ++ rs) of_second.classes ∙ sym (map-append (class_in d) first second))) in
      let joins = map-append (λ (n : Node). n.class) g.nodes h.nodes in
      let (slots, legal, greedy) = some_schedule (Accepted (pipeline_with d known)) (accepted_reported d known) (joined g h)
      (joined_upward g h (upward_edges d first g formed of_first) (upward_edges d second h formed of_second))
      (λ j low t n accepted long. (after_while d known formed sound t (issue (class_at (joined g h) j) ∷ []) n long accepted).1
      (subst (λ (cs : List ℕ). Accepted (pipeline_with d known) (issue (slice_index cs j) ∷ [])) (sym joins)
      (starts_at d known (classes_of g ++ classes_of h) (first ++ second) classes (All-append (StartsAlone d known) first second one other) j (omega (arith, low, length-append g.nodes h.nodes, length-append first second, as_many d first g of_first, as_many d second h of_second)))))
      (accepted_nothing d known) in
      (g, h, slots, record { first_graph = of_first; second_graph = of_second; legal = legal; greedy = greedy })
