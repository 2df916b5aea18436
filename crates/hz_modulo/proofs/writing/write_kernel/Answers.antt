use Rattle.std.proofs.Common.{ℕ, ◌++◌, map, subst}
use Rattle.std.specs.List.{flat_map}
use Rattle.hz_io.specs.Sink.{Writes}
use Rattle.hz_io.proofs.Writing.{cut_before, writes_then}
use Rattle.hz_block_model.specs.Scheduling.Schedules.{present}
use Rattle.hz_measure_model.specs.Kernels.KernelTexts.{line_of_kernel, edge_lines}
use Rattle.hz_sched.specs.Shape.{graph_of, slots_of}
use Rattle.hz_modulo.specs.Walking.{kernel_slot_of}
use Rattle.hz_modulo.proofs.writing.write_kernel.Goals as goal

pub returns-in-Ok : goal.returns-in-Ok
returns-in-Ok g c =
    let lines = flat_map (line_of_kernel c.args.machine.now.classes.items (map (λ i. i.number) c.args.graph.now.insns.items) (graph_of c.args.graph.now)) (map kernel_slot_of c.args.kernel.now.slots.items) in
    let rest = subst (λ (n : ℕ). Writes g.S.Sink.written g.S.Sink.room g.S.Sink.faults c.put_interval.new.out c.put_rest.new.out (lines ++ edge_lines c.args.kernel.now.first_edge c.args.kernel.now.second_edge n) c.put_rest.result) c.last_cycle.ensures c.put_rest.ensures in
    writes_then c.put_rest.new.out (lines ++ edge_lines c.args.kernel.now.first_edge c.args.kernel.now.second_edge (present 0 (slots_of c.args.schedule.now.slots.items))) c.put_rest.result c.in-Ok.ensures rest

pub returns-in-Err : goal.returns-in-Err
returns-in-Err g c =
    let lines = flat_map (line_of_kernel c.args.machine.now.classes.items (map (λ i. i.number) c.args.graph.now.insns.items) (graph_of c.args.graph.now)) (map kernel_slot_of c.args.kernel.now.slots.items) in
    cut_before (lines ++ edge_lines c.args.kernel.now.first_edge c.args.kernel.now.second_edge (present 0 (slots_of c.args.schedule.now.slots.items))) c.in-Err.ensures
