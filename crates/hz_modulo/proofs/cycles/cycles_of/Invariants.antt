use Rattle.std.proofs.Common.{◌≡◌, ◌<◌, ◌^◌, length, take, All, Contains}
use Rattle.std.specs.Prelude.{slice_index}
use Rattle.hz_block_model.specs.Scheduling.Schedules as model
use Rattle.hz_sched.specs.Shape.{slots_of}
use Rattle.hz_modulo.proofs.cycles.cycles_of.Given as goal

abbrev pub invariant-loop-slot : goal.invariant-loop-slot
invariant-loop-slot l = record {
  size : length l.cycles.items ≡ l.size;
  small : All (λ c. c < 2 ^ 30) l.cycles.items;
  reported : (x : model.Slot) → Contains (slots_of (take l.slot-index l.slots)) x → slice_index l.cycles.items x.place ≡ x.cycle;
}
