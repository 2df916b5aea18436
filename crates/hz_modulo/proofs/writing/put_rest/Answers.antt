use Rattle.std.proofs.Common.{ℕ, List, map, sym, subst}
use Rattle.std.specs.List.{flat_map}
use Rattle.hz_modulo.specs.declared.parts.KernelSlot.{KernelSlot}
use Rattle.std.proofs.lemmas.List.Folds.{flat_map-map}
use Rattle.hz_io.specs.Sink.{Wrote, Cut}
use Rattle.hz_io.proofs.Writing.{cut_before, writes_then}
use Rattle.hz_measure_model.specs.Kernels.KernelTexts.{line_of_kernel, edge_lines}
use Rattle.hz_sched.specs.Shape.{graph_of}
use Rattle.hz_modulo.specs.Walking.{kernel_slot_of}
use Rattle.hz_modulo.proofs.writing.put_rest.Goals as goal

pub returns-in-Ok : goal.returns-in-Ok
returns-in-Ok g c =
    let line = line_of_kernel c.args.machine.now.classes.items (map (λ i. i.number) c.args.graph.now.insns.items) (graph_of c.args.graph.now) in
    let there = subst (λ (xs : List KernelSlot). Wrote g.S.Sink.written g.S.Sink.room g.S.Sink.faults c.args.out.now c.put_slots.new.out (flat_map (λ x. line (kernel_slot_of x)) xs)) c.deref.ensures.value c.in-Ok.ensures in
    let lines = subst (λ (bytes : List ℕ). Wrote g.S.Sink.written g.S.Sink.room g.S.Sink.faults c.args.out.now c.put_slots.new.out bytes) (sym (flat_map-map line kernel_slot_of c.args.kernel.now.slots.items)) there in
    writes_then c.put_edges.new.out (edge_lines c.args.kernel.now.first_edge c.args.kernel.now.second_edge c.args.last) c.put_edges.result lines c.put_edges.ensures

pub returns-in-Err : goal.returns-in-Err
returns-in-Err g c =
    let line = line_of_kernel c.args.machine.now.classes.items (map (λ i. i.number) c.args.graph.now.insns.items) (graph_of c.args.graph.now) in
    let there = subst (λ (xs : List KernelSlot). Cut g.S.Sink.written g.S.Sink.room g.S.Sink.faults c.args.out.now c.put_slots.new.out (flat_map (λ x. line (kernel_slot_of x)) xs)) c.deref.ensures.value c.in-Err.ensures in
    cut_before (edge_lines c.args.kernel.now.first_edge c.args.kernel.now.second_edge c.args.last)
    (subst (λ (bytes : List ℕ). Cut g.S.Sink.written g.S.Sink.room g.S.Sink.faults c.args.out.now c.put_slots.new.out bytes) (sym (flat_map-map line kernel_slot_of c.args.kernel.now.slots.items)) there)
