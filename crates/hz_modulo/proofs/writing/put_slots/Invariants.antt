use Rattle.std.proofs.Common.{map, take}
use Rattle.std.specs.List.{flat_map}
use Rattle.hz_io.specs.Sink.{Wrote}
use Rattle.hz_measure_model.specs.Kernels.KernelTexts.{line_of_kernel}
use Rattle.hz_sched.specs.Shape.{graph_of}
use Rattle.hz_modulo.specs.Walking.{kernel_slot_of}
use Rattle.hz_modulo.proofs.writing.put_slots.Given as goal

-- the lines of the slots so far
abbrev pub invariant-loop-slot : goal.invariant-loop-slot
invariant-loop-slot g l =
    Wrote g.S.Sink.written g.S.Sink.room g.S.Sink.faults l.fn.out l.out (flat_map (λ x. line_of_kernel l.machine.classes.items (map (λ i. i.number) l.graph.insns.items) (graph_of l.graph) (kernel_slot_of x)) (take l.slot-index l.slots))
