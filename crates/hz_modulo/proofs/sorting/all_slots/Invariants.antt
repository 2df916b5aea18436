use Rattle.std.proofs.Common.{◌≡◌, map, take}
use Rattle.hz_measure_model.specs.Kernels.Kernels.{kernel_of}
use Rattle.hz_sched.specs.Shape.{slots_of}
use Rattle.hz_modulo.specs.Walking.{kernel_slot_of}
use Rattle.hz_modulo.proofs.sorting.all_slots.Given as goal

abbrev pub invariant-loop-slot : goal.invariant-loop-slot
invariant-loop-slot l = map kernel_slot_of l.made.items ≡ map (kernel_of l.interval) (slots_of (take l.slot-index l.slots))
