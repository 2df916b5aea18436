-- Schedules on a machine that is compiled of a description.
use Rattle.std.proofs.Common.{◌≡◌, ℕ, ◌<◌, true, List, [], ◌∷◌, length, map, All, Some, None, arith}
use Rattle.std.specs.Prelude.{◌↔◌}
use Rattle.std.proofs.lemmas.List.Elements.{All-nil, All-cons}
use Rattle.hz_pipeline_model.specs.Accepting.Events.{Event, issue, IsOfClass}
use Rattle.hz_pipeline_model.specs.Accepting.Replay.{Accepted}
use Rattle.hz_description_model.specs.Reading.Descriptions.{Description}
use Rattle.hz_description_model.specs.Check.CheckFaults.{IsSound}
use Rattle.hz_description_model.specs.Check.Places.{Known}
use Rattle.hz_description_model.specs.Check.CheckedParts.{automata_of, class_parts}
use Rattle.hz_pipeline_model.specs.Pipelines.Pipelines.{pipeline_with}
use Rattle.hz_pipeline_model.specs.Tables.Machines.{Machine, IsWalked}
use Rattle.hz_pipeline_model.specs.Compiling.Compiled.{Report, IsCompiled}
use Rattle.hz_pipeline_model.proofs.Compiling.DescriptionLaws.{machine_accepts}
use Rattle.hz_block_model.specs.Scheduling.Schedules.{Graph, Slot, class_at, Legal, Greedy}
use Rattle.hz_block_model.specs.Scheduling.Machines.{can_start, cannot_start_alone}
use Rattle.hz_block_model.proofs.Scheduling.SameSchedules.{class_below, legal_there, greedy_there}
use Rattle.hz_block_model.proofs.Scheduling.StuckLaws.{first_stuck, none_stuck}

module _ (d : Description) (known : Known) (sound : IsSound d known) (m : Machine) (reports : List Report) (compiled : IsCompiled d.options (automata_of d) (map (class_parts d known) d.classes) m reports)
    (g : Graph) (ranges : All (λ n. n.class < length d.classes) g.nodes) where
  agree : (t : List Event) → All (IsOfClass (length d.classes)) t → IsWalked m t ↔ Accepted (pipeline_with d known) t
  agree t all = machine_accepts d known m reports compiled t all sound

  pub legal_as_described : (slots : List Slot) → Legal (IsWalked m) g slots ↔ Legal (Accepted (pipeline_with d known)) g slots
  legal_as_described slots = (
    legal_there (length d.classes) (IsWalked m) (Accepted (pipeline_with d known)) (λ t all. (agree t all).0) (λ t all. (agree t all).1) g ranges slots,
    legal_there (length d.classes) (Accepted (pipeline_with d known)) (IsWalked m) (λ t all. (agree t all).1) (λ t all. (agree t all).0) g ranges slots,
  )

  pub greedy_as_described : (slots : List Slot) → Greedy (IsWalked m) g slots ↔ Greedy (Accepted (pipeline_with d known)) g slots
  greedy_as_described slots = (
    greedy_there (length d.classes) (IsWalked m) (Accepted (pipeline_with d known)) (λ t all. (agree t all).0) (λ t all. (agree t all).1) g ranges slots,
    greedy_there (length d.classes) (Accepted (pipeline_with d known)) (IsWalked m) (λ t all. (agree t all).1) (λ t all. (agree t all).0) g ranges slots,
  )

  -- an instruction can be issued from the start exactly where the description accepts it
  alone : (i : ℕ) → i < length g.nodes → (can_start m (class_at g i) ≡ true) ↔ Accepted (pipeline_with d known) (issue (class_at g i) ∷ [])
  alone i lt = agree (issue (class_at g i) ∷ []) (All-cons (IsOfClass (length d.classes)) (issue (class_at g i)) [] (class_below (length d.classes) g ranges i lt) (All-nil (IsOfClass (length d.classes))))

  pub stuck_as_described : (place : ℕ) → cannot_start_alone m g ≡ Some place → (place < length g.nodes) × ((i : ℕ) → i < place → Accepted (pipeline_with d known) (issue (class_at g i) ∷ [])) × (Accepted (pipeline_with d known) (issue (class_at g place) ∷ []) → ⊥)
  stuck_as_described place reported =
      let (inside, here, before) = first_stuck m g place reported in (
        inside,
        λ i lt. (alone i (omega arith)).0 (before i lt),
        λ accepted. let starts = (alone place inside).1 accepted in cc,
      )

  pub start_as_described : cannot_start_alone m g ≡ None → (i : ℕ) → i < length g.nodes → Accepted (pipeline_with d known) (issue (class_at g i) ∷ [])
  start_as_described reported i lt = (alone i lt).0 (none_stuck m g reported i lt)
