use Rattle.std.proofs.Common.{◌≡◌, ℕ, ◌-◌, List, [], ◌∷◌, length, Option, Some, None, slice_get, refl, ap, ◌∙◌, arith}
use Rattle.hz_block_model.specs.Scheduling.Schedules.{present}
use Rattle.hz_sched.specs.Shape.{slots_of}
use Rattle.hz_sched.specs.declared.parts.Slot.{Slot}
use Rattle.hz_sched.proofs.parts.Schedule.last_cycle.Goals as goal

-- the cycle of a slot, 0 if there is none
abbrev cycle_in : Option Slot → ℕ
cycle_in None = 0
cycle_in (Some x) = x.cycle

last_there : (cycle : ℕ) (x : Slot) (slots : List Slot) → cycle_in (slice_get (x ∷ slots) (length slots)) ≡ present cycle (slots_of (x ∷ slots))
last_there cycle x [] = refl
last_there cycle x (y ∷ slots) = last_there x.cycle y slots

last_is : (slots : List Slot) (last : Option Slot) → last ≡ slice_get slots (length slots - 1) → cycle_in last ≡ present 0 (slots_of slots)
last_is [] last is = ap cycle_in is
last_is (x ∷ slots) last is =
    let count : length (x ∷ slots) - 1 ≡ length slots = omega arith in
    ap cycle_in (is ∙ ap (slice_get (x ∷ slots)) count) ∙ last_there 0 x slots

pub returns-in-Some : goal.returns-in-Some
returns-in-Some c =
    last_is c.args.self.now.slots.items (Some c.in-Some.slot.now) (c.in-Some.ensures.value ∙ ap (λ (xs : List Slot). slice_get xs (length xs - 1)) c.deref.ensures.value)

pub returns-in-None : goal.returns-in-None
returns-in-None c =
    last_is c.args.self.now.slots.items None (c.in-None.ensures.value ∙ ap (λ (xs : List Slot). slice_get xs (length xs - 1)) c.deref.ensures.value)
