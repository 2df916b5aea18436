-- A legal schedule keeps its block, and a block has one schedule.
use Rattle.std.proofs.Common.{◌≡◌, ℕ, ◌+◌, ◌≤◌, List, ◌∷◌, ◌++◌, length, Contains, refl, sym, subst, arith}
use Rattle.std.specs.Prelude.{true}
use Rattle.hz_base_model.proofs.Elements.{Contains-map}
use Rattle.hz_pipeline_model.specs.Accepting.Replay.{Accepted}
use Rattle.hz_description_model.specs.Check.Places.{Known}
use Rattle.hz_description_model.specs.Reading.Descriptions.{Description}
use Rattle.hz_pipeline_model.specs.Pipelines.Pipelines.{pipeline_with}
use Rattle.hz_block_model.specs.Running.Blocks.{Instruction}
use Rattle.hz_block_model.specs.Dependences.Dependences.{depends, cost}
use Rattle.hz_block_model.specs.Dependences.Graphs.{edge}
use Rattle.hz_block_model.specs.Dependences.Orders.{IsOrder, Keeps}
use Rattle.hz_block_model.proofs.Dependences.OrderLaws.{commutes}
use Rattle.hz_block_model.proofs.Dependences.UpwardLaws.{upwards}
use Rattle.hz_block_model.specs.Scheduling.Schedules.{Graph, Slot, places, Legal}
use Rattle.hz_block_model.proofs.Scheduling.OneSchedule.{one_schedule}
use Rattle.hz_block_model.proofs.Scheduling.SlotLaws.{at_place}
use Rattle.hz_block_model.specs.Scheduled.BlockGraphs.{timing_in, classes_of, IsGraphOf}
use Rattle.hz_block_model.specs.Scheduled.BlockSchedules.{IsScheduleOf, KeepsBlock}
use Rattle.hz_block_model.proofs.Scheduling.AlikeGraphs.{legal_there, greedy_there}
use Rattle.hz_block_model.proofs.Scheduled.GraphLaws.{as_many, same_classes, graphs_alike}

module _ (d : Description) (known : Known) (block : List Instruction) (g : Graph) (slots : List Slot) (graph : IsGraphOf d block g) (legal : Legal (Accepted (pipeline_with d known)) g slots) where
  whole : IsOrder (length block) (places slots)
  whole = rw (sym (as_many d block g graph)) legal.order

  after_costs : (before after : List Slot) (x : Slot) (i : ℕ) → slots ≡ before ++ x ∷ after → depends block i x.place ≡ true → (y : Slot) × Contains before y × (y.place ≡ i) × (y.cycle + cost block (timing_in d (classes_of g) block) i x.place ≤ x.cycle)
  after_costs before after x i is depending =
      let (up, inside) = upwards block i x.place depending in
      legal.kept before after x is (edge block (timing_in d (classes_of g) block) i x.place) ((graph.edges).each i x.place (omega arith) inside depending) refl

  keeps : Keeps block (places slots)
  keeps before after i j is depending =
      let p = at_place slots before after j is in
      let (y, there, place, late) = after_costs p.front p.back p.slot i p.all (subst (λ (k : ℕ). depends block i k ≡ true) (sym p.place) depending) in
      subst (λ (ps : List ℕ). Contains ps i) p.places_before (subst (Contains (places p.front)) place (Contains-map (λ (z : Slot). z.place) p.front y there))

  pub legal_keeps : KeepsBlock d known block g slots
  legal_keeps = record {
    each = whole;
    rising = legal.rising;
    kept = after_costs;
    accepted = legal.accepted;
    leaves = λ state. commutes block state (places slots) whole keeps;
  }

pub one_of_a_block : (d : Description) (known : Known) (block : List Instruction) (g h : Graph) (s t : List Slot) → IsScheduleOf d known block g s → IsScheduleOf d known block h t → (classes_of g ≡ classes_of h) × (s ≡ t)
one_of_a_block d known block g h s t one other =
    let back = graphs_alike d block h g other.graph one.graph in (
      same_classes d block g h one.graph other.graph,
      one_schedule (Accepted (pipeline_with d known)) g s t one.legal one.greedy
          (legal_there (Accepted (pipeline_with d known)) h g back t other.legal)
          (greedy_there (Accepted (pipeline_with d known)) h g back t other.greedy),
    )
