use Rattle.std.proofs.Common.{ℕ, ◌++◌, List, length, map, sym, subst}
use Rattle.std.proofs.lemmas.List.Folds.{flat_map-map}
use Rattle.hz_io.specs.Sink.{Wrote, Cut, Writes}
use Rattle.hz_io.proofs.Writing.{cut_before, writes_then}
use Rattle.hz_measure_model.specs.TwoContexts.Joining.{ContextSlot}
use Rattle.hz_measure_model.specs.TwoContexts.Texts.{line_of_either, together_line, alone_line, last_cycle}
use Rattle.hz_sched.specs.Shape.{graph_of}
use Rattle.hz_duo.specs.Shape.{context_slot}
use Rattle.hz_duo.proofs.writing.write_duo.Goals as goal

pub returns-in-Ok : goal.returns-in-Ok
returns-in-Ok g c =
    let first = map (λ i. i.number) c.args.first.now.insns.items in
    let second = map (λ i. i.number) c.args.second.now.insns.items in
    let line : ContextSlot → List ℕ = line_of_either c.args.machine.now.classes.items first second (graph_of c.args.first.now) (graph_of c.args.second.now) in
    let lines = subst (λ (bytes : List ℕ). Wrote g.S.Sink.written g.S.Sink.room g.S.Sink.faults c.args.out.now c.put_slots.new.out bytes) (sym (flat_map-map line context_slot c.args.slots.now)) c.in-Ok.ensures in
    let one = subst (λ (n : ℕ). Writes g.S.Sink.written g.S.Sink.room g.S.Sink.faults c.put_slots.new.out c.put_end.new.out (together_line n c.count_of-in-Ok.result c.last_cycle.result ++ alone_line c.args.alone.0 c.args.alone.1) c.put_end.result) c.count_of.ensures c.put_end.ensures in
    let two = subst (λ (n : ℕ). Writes g.S.Sink.written g.S.Sink.room g.S.Sink.faults c.put_slots.new.out c.put_end.new.out (together_line (length first) n c.last_cycle.result ++ alone_line c.args.alone.0 c.args.alone.1) c.put_end.result) c.count_of-in-Ok.ensures one in
    let ended = subst (λ (n : ℕ). Writes g.S.Sink.written g.S.Sink.room g.S.Sink.faults c.put_slots.new.out c.put_end.new.out (together_line (length first) (length second) n ++ alone_line c.args.alone.0 c.args.alone.1) c.put_end.result) c.last_cycle.ensures two in
    writes_then c.put_end.new.out (together_line (length first) (length second) (last_cycle 0 (map context_slot c.args.slots.now)) ++ alone_line c.args.alone.0 c.args.alone.1) c.put_end.result lines ended

pub returns-in-Err : goal.returns-in-Err
returns-in-Err g c =
    let first = map (λ i. i.number) c.args.first.now.insns.items in
    let second = map (λ i. i.number) c.args.second.now.insns.items in
    let line : ContextSlot → List ℕ = line_of_either c.args.machine.now.classes.items first second (graph_of c.args.first.now) (graph_of c.args.second.now) in
    cut_before (together_line (length first) (length second) (last_cycle 0 (map context_slot c.args.slots.now)) ++ alone_line c.args.alone.0 c.args.alone.1)
    (subst (λ (bytes : List ℕ). Cut g.S.Sink.written g.S.Sink.room g.S.Sink.faults c.args.out.now c.put_slots.new.out bytes) (sym (flat_map-map line context_slot c.args.slots.now)) c.in-Err.ensures)
