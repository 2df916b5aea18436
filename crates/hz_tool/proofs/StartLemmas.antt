-- Which instructions of a block can be issued from the start, by what the machine of the description walks.
use Rattle.std.proofs.Common.{◌≡◌, ℕ, ◌<◌, Bool, true, false, List, [], ◌∷◌, length, Some, None, All, slice_get, sym, ◌∙◌, subst, arith}
use Rattle.std.specs.Prelude.{IsSome, ◌↔◌}
use Rattle.std.proofs.lemmas.List.Elements.{All-nil, All-cons}
use Rattle.hz_pipeline_model.specs.Accepting.Events.{issue, IsOfClass}
use Rattle.hz_pipeline_model.specs.Accepting.Replay.{Accepted}
use Rattle.hz_description_model.specs.Check.Places.{Known}
use Rattle.hz_description_model.specs.Reading.Descriptions.{Description}
use Rattle.hz_pipeline_model.specs.Pipelines.Pipelines.{pipeline_with}
use Rattle.hz_block_model.specs.Running.Blocks.{Instruction}
use Rattle.hz_block_model.specs.Scheduling.Machines.{can_start, cannot_start_alone}
use Rattle.hz_block_model.specs.Scheduling.Schedules.{Graph, class_at}
use Rattle.hz_block_model.proofs.Scheduling.SameSchedules.{class_below}
use Rattle.hz_block_model.proofs.Scheduling.StuckLaws.{none_stuck, first_stuck as stuck_first}
use Rattle.hz_block_model.specs.Scheduled.BlockGraphs.{IsGraphOf}
use Rattle.hz_block_model.specs.Scheduled.BlockSchedules.{StartsAlone, IsFirstStuck}
use Rattle.hz_block_model.proofs.Scheduled.FaultLaws.{starts_of_places, stuck_of_place}
use Rattle.hz_pipeline_model.specs.Tables.Machines.{Machine, machine_walk}
use Rattle.hz_tool.specs.Machines.{IsMachineFor}

not_both : (b : Bool) → b ≡ true → b ≡ false → ⊥
not_both b one other = absurd (cc)

same_some : (i j : Instruction) → Some i ≡ Some j → i ≡ j
same_some i j e = cc

module _ (d : Description) (known : Known) (m : Machine) (is : IsMachineFor d known m) (g : Graph) (block : List Instruction) (graph : IsGraphOf d block g) (ranges : All (λ n. n.class < length d.classes) g.nodes) where
  walks_one : (j : ℕ) → j < length g.nodes → IsSome (machine_walk m (issue (class_at g j) ∷ [])) ↔ Accepted (pipeline_with d known) (issue (class_at g j) ∷ [])
  walks_one j low =
      is.walks (issue (class_at g j) ∷ [])
      (All-cons (IsOfClass (length d.classes)) (issue (class_at g j)) [] (class_below (length d.classes) g ranges j low) (All-nil (IsOfClass (length d.classes))))

  -- where no instruction is reported, each can be issued from the start
  pub each_starts : cannot_start_alone m g ≡ None → All (StartsAlone d known) block
  each_starts none = starts_of_places d known block g graph (λ j low. (walks_one j low).0 (none_stuck m g none j low))

  -- the one that is reported is the first that can't
  pub first_stuck : (place : ℕ) (i : Instruction) → cannot_start_alone m g ≡ Some place → slice_get block place ≡ Some i → IsFirstStuck d known block i
  first_stuck place i reported there =
      let (low, cannot, can) = stuck_first m g place reported in
      let stuck = stuck_of_place d known block g graph place low
      (λ j before. (walks_one j (omega (arith, low, before))).0 (can j before))
      (λ accepted. not_both (can_start m (class_at g place)) ((walks_one place low).1 accepted) cannot) in
      subst (IsFirstStuck d known block) (same_some stuck.insn i (sym stuck.there ∙ there)) stuck.first
