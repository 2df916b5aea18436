use Rattle.std.proofs.Common.{◌<◌, List, length, All, get_or, sym, subst}
use Rattle.hz_tables.specs.Machines.{machine_of}
use Rattle.hz_modulo.specs.declared.parts.KernelSlot.{KernelSlot}
use Rattle.hz_modulo.proofs.LaneLemmas.{lane_classes}
use Rattle.hz_modulo.proofs.searching.kernel_at.Goals as goal

pub first_repeat-requires-clause-places : goal.first_repeat-requires-clause-places
first_repeat-requires-clause-places c = subst (λ (xs : List KernelSlot). All (λ x. x.place < length c.args.classes.now) xs) (sym c.deref-2.ensures.value) (c.in_ok-slots.ensures.places (length c.args.classes.now) c.requires.places)

pub stuck_lane-requires-clause-classes : goal.stuck_lane-requires-clause-classes
stuck_lane-requires-clause-classes c = λ i d lt. lane_classes (machine_of c.args.machine.now) (get_or c.args.lanes.now i d) c.args.classes.now (c.requires.lanes i d lt) c.requires.classes
