-- What is read on an exposed pipeline, by what is held of a description, is what is read by the description, and its text is reported.
use Rattle.std.proofs.Common.{◌≡◌, ℕ, List, map, refl, sym, ap, ◌∙◌, subst}
use Rattle.hz_answer_model.proofs.WalkLaws.{map_twice}
use Rattle.hz_block_model.specs.Running.States.{State}
use Rattle.hz_block_model.specs.Dependences.Dependences.{Timing}
use Rattle.hz_block_model.specs.Scheduling.Schedules.{Node}
use Rattle.hz_block_model.specs.Scheduled.BlockGraphs.{timing_in, classes_of}
use Rattle.hz_block_model.specs.Texts.StateTexts.{listing_text}
use Rattle.hz_check.specs.Checked.{IsCheckedOf}
use Rattle.hz_checked.specs.declared.checked.Checked.{Checked}
use Rattle.hz_depend.specs.GraphShape as depend
use Rattle.hz_depend.specs.declared.parts.Graph.{Graph}
use Rattle.hz_description_model.specs.Reading.Descriptions.{Description}
use Rattle.hz_rtl.proofs.ListingLemmas.{is_listed}
use Rattle.hz_rtl.specs.Listings.{listing}
use Rattle.hz_rtl.specs.Shape.{instructions}
use Rattle.hz_rtl.specs.declared.block.Block.{Block}
use Rattle.hz_sched.specs.Shape.{graph_of, node_of, slots_of}
use Rattle.hz_sched.specs.declared.parts.Schedule.{Schedule}
use Rattle.hz_timed.specs.Shape.{timed_of, timed_text, number_in}
use Rattle.hz_timed.specs.declared.parts.Timed as held
use Rattle.hz_measure_model.specs.Exposed.ByDescription.{exposed_in}
use Rattle.hz_measure_model.specs.Exposed.Exposed.{Timed, exposed}
use Rattle.hz_measure_model.specs.Exposed.Texts.{IsTimedText}
use Rattle.hz_tool.proofs.BlockLemmas.{timing_same}

module _ (d : Description) (checked : Checked) (is : IsCheckedOf d checked) (block : Block) (graph : Graph) where
  -- the same cycles are waited for
  same_timing : depend.timing_in checked (map (λ i. i.class) graph.insns.items) (instructions block) ≡ timing_in d (classes_of (graph_of graph)) (instructions block)
  same_timing =
      timing_same d checked is (map (λ i. i.class) graph.insns.items) (instructions block)
      ∙ ap (λ (classes : List ℕ). timing_in d classes (instructions block)) (sym (map_twice (λ (n : Node). n.class) node_of graph.insns.items))

  pub text_is_timed : (schedule : Schedule) (t : held.Timed) (start : State) → timed_of t ≡ exposed (instructions block) (number_in checked block graph) start (slots_of schedule.slots.items)
      → IsTimedText (instructions block) (slots_of schedule.slots.items) (exposed_in d (instructions block) (graph_of graph) (slots_of schedule.slots.items) start) (timed_text block schedule t)
  text_is_timed schedule t start same =
      subst (λ (x : Timed). IsTimedText (instructions block) (slots_of schedule.slots.items) x (timed_text block schedule t))
      (same ∙ ap (λ (timing : Timing). exposed (instructions block) timing.number start (slots_of schedule.slots.items)) same_timing)
      (record {
        tail = listing_text (listing t.state);
        state_is = record { listing = listing t.state; is_listing = is_listed t.state; text_is = refl };
        text_is = refl;
      })
