-- Turns that are walked to their end, start by start.
use Rattle.std.proofs.Common.{◌≡◌, ℕ, zero, suc, ◌+◌, ◌<◌, ◌≤◌, Bool, true, false, List, [], Option, Some, None, ⊎_elim, refl, ap, ◌∙◌, subst, arith}
use Rattle.std.specs.Prelude.{is_some, option_and_then}
use Rattle.std.specs.Bool.{OnTrue, OnFalse}
use Rattle.std.proofs.lemmas.Bool.{cases_lt}
use Rattle.hz_pipeline_model.specs.Tables.Machines.{Machine, parts_walk}
use Rattle.hz_block_model.specs.Scheduling.Schedules.{Graph}
use Rattle.hz_measure_model.specs.Kernels.Kernels.{KernelSlot, interval_trace}
use Rattle.hz_modulo.specs.Walking.{drained_from}
use Rattle.hz_modulo.specs.Repeating.{edge_by, drain_by, RepeatsAt}

pub on_true : (b : Bool) (P Q : Type 0) → (P → Q) → OnTrue b P → OnTrue b Q
on_true true P Q h p = h p
on_true false P Q h p = p

pub on_false : (b : Bool) (P Q : Type 0) → (P → Q) → OnFalse b P → OnFalse b Q
on_false true P Q h p = p
on_false false P Q h p = h p

pub not_some : (o : Option (List ℕ)) → o ≡ None → is_some o ≡ true → ⊥
not_some None e h = cc
not_some (Some states) e h = cc

-- what holds of all numbers before one, and of that, holds before the next
pub up_to : (drain : ℕ → Option (List ℕ)) (turn : ℕ) → ((count : ℕ) → count < turn → is_some (drain count) ≡ true) → is_some (drain turn) ≡ true → (count : ℕ) → count < turn + 1 → is_some (drain count) ≡ true
up_to drain turn fewer here count lt = ⊎_elim
    (λ (less : count < turn). fewer count less)
    (λ (ge : turn ≤ count). subst (λ (n : ℕ). is_some (drain n) ≡ true) (let is : turn ≡ count = omega (arith, ge, lt) in is) here)
    (cases_lt count turn)

module _ (m : Machine) (g : Graph) (interval : ℕ) (kernel : List KernelSlot) where
  -- from no states none are walked to
  drained_none : (turn intervals : ℕ) → drained_from m g interval kernel turn intervals None ≡ None
  drained_none turn zero = refl
  drained_none turn (suc intervals) = ap (option_and_then (λ states. parts_walk m.parts states (interval_trace g interval (intervals + 1) (turn + intervals) kernel))) (drained_none turn intervals)

  module _ (stages turn : ℕ) (states : List ℕ) (here : edge_by m g interval kernel turn ≡ Some states) where
    pub drained_here : is_some (drained_from m g interval kernel turn (stages + 1) (Some states)) ≡ true → is_some (drain_by m g interval kernel stages turn) ≡ true
    drained_here drained = ap (λ o. is_some (drained_from m g interval kernel turn (stages + 1) o)) here ∙ drained

    pub undrained_here : drained_from m g interval kernel turn (stages + 1) (Some states) ≡ None → drain_by m g interval kernel stages turn ≡ None
    undrained_here stuck = ap (drained_from m g interval kernel turn (stages + 1)) here ∙ stuck

    -- where the next start is not walked, no more turns are
    pub undrained_next : parts_walk m.parts states (interval_trace g interval 0 turn kernel) ≡ None → drain_by m g interval kernel stages (suc turn) ≡ None
    undrained_next refused =
        ap (drained_from m g interval kernel (suc turn) (stages + 1)) (ap (option_and_then (λ states. parts_walk m.parts states (interval_trace g interval 0 turn kernel))) here ∙ refused)
        ∙ drained_none (suc turn) (stages + 1)

-- ---- two starts that meet, and the turns up to the second

-- what repeats meets
pub repeats_meet : (edge drain : ℕ → Option (List ℕ)) (stages a b : ℕ) → RepeatsAt edge drain stages a b → RepeatsAt edge (λ count. Some []) stages a b
repeats_meet edge drain stages a b r = record { settled = r.settled; before = r.before; soon = r.soon; walked = r.walked; same = r.same; different = r.different; each = λ count le. refl }

module _ (edge drain : ℕ → Option (List ℕ)) (stages first second : ℕ) (meet : RepeatsAt edge (λ count. Some []) stages first second) where
  pub meeting_repeats : ((count : ℕ) → count ≤ second → is_some (drain count) ≡ true) → RepeatsAt edge drain stages first second
  meeting_repeats each = record { settled = meet.settled; before = meet.before; soon = meet.soon; walked = meet.walked; same = meet.same; different = meet.different; each = each }

  -- where some number of turns is not walked to its end, nothing repeats
  pub undrained_meeting : (((count : ℕ) → count ≤ second → is_some (drain count) ≡ true) → ⊥) → (a b : ℕ) → RepeatsAt edge drain stages a b → ⊥
  undrained_meeting stuck a b r = ⊎_elim
      (λ (less : b < second). meet.different a b r.settled r.before less r.same)
      (λ (ge : second ≤ b). ⊎_elim
      (λ (more : second < b). r.different first second meet.settled meet.before more meet.same)
      (λ (le : b ≤ second). stuck (λ count low. r.each count (omega (arith, low, ge))))
      (cases_lt second b))
      (cases_lt b second)
