-- Every block whose instructions can be issued from the start has a schedule, and in each its issues come soon.
use Rattle.std.proofs.Common.{◌≡◌, ℕ, zero, suc, ◌+◌, ◌*◌, ◌-◌, ◌<◌, ◌≤◌, ⊎_elim, List, [], ◌∷◌, ◌++◌, length, map, All, Contains, get_or, refl, sym, ap, ◌∙◌, subst, append_assoc, arith}
use Rattle.std.specs.Prelude.{Ok, Result, slice_index}
use Rattle.std.specs.List.{AllPairs}
use Rattle.std.proofs.lemmas.Bool.{cases_lt}
use Rattle.std.proofs.lemmas.List.{append-nil, length-append, length-map, get_or_append_left}
use Rattle.std.proofs.lemmas.List.Elements.{All-head, All-tail, All-weaker}
use Rattle.hz_pipeline_model.specs.Accepting.Events.{Event, issue, advance, cycles_of}
use Rattle.hz_pipeline_model.specs.Accepting.Replay.{Accepted}
use Rattle.hz_pipeline_model.proofs.Accepting.AcceptanceLaws.{prefix_accepted}
use Rattle.hz_description_model.specs.Reading.Descriptions.{Description}
use Rattle.hz_description_model.specs.Reading.DescriptionShape.{IsCheckable}
use Rattle.hz_description_model.specs.Check.CheckFaults.{IsSound}
use Rattle.hz_description_model.specs.Check.Places.{Known}
use Rattle.hz_pipeline_model.specs.Pipelines.Pipelines.{pipeline_with}
use Rattle.hz_block_model.specs.Running.Blocks.{Instruction}
use Rattle.hz_block_model.specs.Dependences.Classes.{ClassFault}
use Rattle.hz_block_model.specs.Dependences.Graphs.{Edge}
use Rattle.hz_block_model.specs.Scheduling.Machines.{most_wait}
use Rattle.hz_block_model.specs.Scheduling.Schedules.{Graph, Slot, class_at, places, present, advance_to, spell, IsReady, IsCandidate, FollowsGreedily}
use Rattle.hz_block_model.proofs.Scheduling.OneSchedule.{Rises}
use Rattle.hz_block_model.proofs.Scheduling.TraceLaws.{cycles_spelled}
use Rattle.hz_block_model.specs.Scheduled.BlockGraphs.{class_in, classes_of, IsGraphOf}
use Rattle.hz_block_model.specs.Scheduled.BlockSchedules.{StartsAlone, IsScheduleOf}
use Rattle.hz_block_model.proofs.Scheduled.GraphLaws.{HasClass, as_many}
use Rattle.hz_block_model.proofs.Schedulable.AfterLaws.{accepted_reported, accepted_nothing, after_while}
use Rattle.hz_block_model.proofs.Schedulable.CostLaws.{cost_small}
use Rattle.hz_block_model.proofs.Schedulable.GraphTotal.{some_graph}
use Rattle.hz_block_model.proofs.Schedulable.GreedyLaws.{some_schedule}
use Rattle.hz_block_model.proofs.Scheduling.SlotLaws.{present-push, advances_later, below_present}
use Rattle.hz_block_model.proofs.Schedulable.LeftLaws.{order_length}

-- the edges of a block's graph lead upwards, and cost little
pub upward_edges : (d : Description) (block : List Instruction) (g : Graph) → IsCheckable d → IsGraphOf d block g → (e : Edge) → Contains g.edges e → (e.from < e.to) × (e.to < length g.nodes) × (e.cost ≤ 1000)
upward_edges d block g formed graph e there =
    let (up, inside, is, weight) = (graph.edges).only e there in
    let small = cost_small d formed block (classes_of g) e.from e.to in
    (up, omega (arith, inside, as_many d block g graph), omega (arith, weight, small))

same_class : (r : Result ℕ ClassFault) (k l : ℕ) → Ok k ≡ r → r ≡ Ok l → l ≡ k
same_class r k l h e = cc

module _ (d : Description) (known : Known) where
  -- each class of a graph can be issued from the start
  pub starts_at : (classes : List ℕ) (block : List Instruction) → map Ok classes ≡ map (class_in d) block → All (StartsAlone d known) block → (j : ℕ) → j < length block → Accepted (pipeline_with d known) (issue (slice_index classes j) ∷ [])
  starts_at classes [] are all j low = absurd (omega arith)
  starts_at [] (i ∷ block) are all j low = absurd (cc)
  starts_at (c ∷ classes) (i ∷ block) are all zero low =
      let (class, is, accepted) = All-head (StartsAlone d known) i block all in
      subst (λ (k : ℕ). Accepted (pipeline_with d known) (issue k ∷ [])) (same_class (class_in d i) c class (cc) is) accepted
  starts_at (c ∷ classes) (i ∷ block) are all (suc j) low = starts_at classes block (cc) (All-tail (StartsAlone d known) i block all) j (omega arith)

  pub some_schedule_of : (block : List Instruction) → IsCheckable d → IsSound d known → All (StartsAlone d known) block → (g : Graph) × (slots : List Slot) × IsScheduleOf d known block g slots
  some_schedule_of block formed sound all =
      let (g, graph) = some_graph d block (All-weaker (StartsAlone d known) (HasClass d) (λ i starts. (starts.0, starts.1)) block all) in
      let (slots, legal, greedy) = some_schedule (Accepted (pipeline_with d known)) (accepted_reported d known) g (upward_edges d block g formed graph)
      (λ j low t n accepted long. (after_while d known formed sound t (issue (class_at g j) ∷ []) n long accepted).1 (starts_at (classes_of g) block graph.classes all j (omega (arith, low, as_many d block g graph))))
      (accepted_nothing d known) in
      (g, slots, record { graph = graph; legal = legal; greedy = greedy })

  -- ---- issues come soon

  -- the first of slots that rise
  rising_front : (before after : List Slot) → AllPairs Rises (before ++ after) → AllPairs Rises before
  rising_front before after rising i j e low within =
      let long = length-append before after in
      let one : (get_or (before ++ after) i e).cycle ≡ (get_or before i e).cycle = ap (λ (x : Slot). x.cycle) (get_or_append_left before after e i (omega arith)) in
      let other : (get_or (before ++ after) j e).cycle ≡ (get_or before j e).cycle = ap (λ (x : Slot). x.cycle) (get_or_append_left before after e j within) in
      let rise : (get_or (before ++ after) i e).cycle ≤ (get_or (before ++ after) j e).cycle = rising i j e low (omega arith) in
      omega (arith, one, other, rise)

  module _ (block : List Instruction) (g : Graph) (slots : List Slot) (formed : IsCheckable d) (sound : IsSound d known) (is : IsScheduleOf d known block g slots) where
    pub soon_after : (before after : List Slot) (x : Slot) → slots ≡ before ++ x ∷ after → x.cycle ≤ present 0 before + most_wait
    soon_after before after x e = ⊎_elim
        (λ (late : present 0 before + most_wait < x.cycle). absurd (f.soonest (present 0 before + most_wait) x.place (omega arith) late (sooner late)))
        (λ (soon : x.cycle ≤ present 0 before + most_wait). soon)
        (cases_lt (present 0 before + most_wait) x.cycle)
      where
        f : FollowsGreedily (Accepted (pipeline_with d known)) g before x
        f = is.greedy before after x e

        sooner : present 0 before + most_wait < x.cycle → IsCandidate (Accepted (pipeline_with d known)) g before (present 0 before + most_wait) x.place
        sooner late = record { within = (f.may).within; left = (f.may).left; ready = ready; fits = fits }
          where
            ready : IsReady g before (present 0 before + most_wait) x.place
            ready edge there to =
                let (y, held, place, waited) = (f.may).ready edge there to in
                let (up, inside, small) = upward_edges d block g formed is.graph edge there in
                let low = below_present before 0 (rising_front before (x ∷ after) (subst (AllPairs Rises) e (is.legal).rising)) y held in
                (y, held, place, omega arith)

            then : Accepted (pipeline_with d known) (spell g before ++ advance (x.cycle - present 0 before) ∷ issue (class_at g x.place) ∷ [])
            then = subst (λ (t : List Event). Accepted (pipeline_with d known) (spell g before ++ (t ++ issue (class_at g x.place) ∷ []))) (advances_later (present 0 before) x.cycle (omega arith)) (f.may).fits

            front : Accepted (pipeline_with d known) (spell g before)
            front = prefix_accepted (pipeline_with d known) (spell g before) (advance (x.cycle - present 0 before) ∷ issue (class_at g x.place) ∷ []) then

            alone : Accepted (pipeline_with d known) (issue (class_at g x.place) ∷ [])
            alone = (after_while d known formed sound (spell g before) (issue (class_at g x.place) ∷ []) (x.cycle - present 0 before) (omega arith) front).0 then

            fits : Accepted (pipeline_with d known) (spell g before ++ (advance_to (present 0 before) (present 0 before + most_wait) ++ issue (class_at g x.place) ∷ []))
            fits = subst (λ (t : List Event). Accepted (pipeline_with d known) (spell g before ++ (t ++ issue (class_at g x.place) ∷ []))) (sym (advances_later (present 0 before) (present 0 before + most_wait) (omega arith)))
                ((after_while d known formed sound (spell g before) (issue (class_at g x.place) ∷ []) ((present 0 before + most_wait) - present 0 before) (omega arith) front).1 alone)

    soon_from : (before after : List Slot) → slots ≡ before ++ after → present 0 before ≤ most_wait * length before → present 0 slots ≤ most_wait * length slots
    soon_from before [] e low = subst (λ (xs : List Slot). present 0 xs ≤ most_wait * length xs) (sym (e ∙ append-nil before)) low
    soon_from before (x ∷ after) e low =
        let here = soon_after before after x e in
        let now = present-push 0 before x in
        let long = length-append before (x ∷ []) in
        soon_from (before ++ x ∷ []) after (e ∙ sym (append_assoc before (x ∷ []) after)) (omega (arith, here, now, long, low))

    pub soon_all : present 0 slots ≤ most_wait * length slots
    soon_all = soon_from [] slots refl (omega arith)

pub soon_issued : (d : Description) (known : Known) (block : List Instruction) (g : Graph) (slots : List Slot) → IsCheckable d → IsSound d known → IsScheduleOf d known block g slots → present 0 slots ≤ most_wait * length slots
soon_issued d known block g slots formed sound is = soon_all d known block g slots formed sound is

-- each issue comes soon after the one before it
pub next_issued : (d : Description) (known : Known) (block : List Instruction) (g : Graph) (slots : List Slot) → IsCheckable d → IsSound d known → IsScheduleOf d known block g slots → (before after : List Slot) (x : Slot) → slots ≡ before ++ x ∷ after → x.cycle ≤ present 0 before + most_wait
next_issued d known block g slots formed sound is = soon_after d known block g slots formed sound is

-- the trace of a schedule is short
pub short_trace : (d : Description) (known : Known) (block : List Instruction) (g : Graph) (slots : List Slot) → IsCheckable d → IsSound d known → IsScheduleOf d known block g slots → cycles_of (spell g slots) ≤ most_wait * length block
short_trace d known block g slots formed sound is =
    let soon = soon_issued d known block g slots formed sound is in
    let cycles = cycles_spelled g slots (is.legal).rising in
    let each = order_length (length g.nodes) (places slots) (is.legal).order in
    let long = length-map slots (λ (x : Slot). x.place) in
    let many = as_many d block g is.graph in
    omega (arith, soon, cycles, each, long, many)
