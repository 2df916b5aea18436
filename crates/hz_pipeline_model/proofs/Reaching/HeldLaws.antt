-- In the first treatment what is held is in the grid that is left.
use Rattle.std.proofs.Common.{◌≡◌, ◌↔◌, ℕ, ◌+◌, List, Contains, add-zero, subst, sym}
use Rattle.hz_base_model.specs.Pairs.{Pair}
use Rattle.hz_pipeline_model.specs.Accepting.Events.{Event}
use Rattle.hz_pipeline_model.specs.Accepting.Replay.{Pipeline, first_fit}
use Rattle.hz_pipeline_model.specs.Accepting.Asking.{IsHeld}
use Rattle.hz_pipeline_model.proofs.Accepting.AskLaws.{held_by_run}
use Rattle.hz_pipeline_model.specs.Reaching.Reach.{Leaves}
use Rattle.hz_pipeline_model.specs.Reaching.Present.{HasPresent}
use Rattle.hz_pipeline_model.proofs.Reaching.LeavingLaws.{plays_from_leaves}

pub held_is_present : {U : Type 0} (m : Pipeline U) → m.treatment ≡ first_fit → (t : List Event) (grid : List (Pair U)) → Leaves m t grid → (unit : U) → IsHeld m t unit ↔ HasPresent grid unit
held_is_present {U} m first t grid leaves unit =
    let (s, run, future) = plays_from_leaves m t grid leaves in
    let held = held_by_run m first t s run unit in
    let planned = future.pairs unit 0 in
    let now : s.now + 0 ≡ s.now = add-zero s.now in
    (λ h. planned.1 (subst (λ (c : ℕ). Contains s.reserved (record { unit = unit; cycle = c })) (sym now) (held.0 h)), λ h. held.1 (subst (λ (c : ℕ). Contains s.reserved (record { unit = unit; cycle = c })) now (planned.0 h)))
