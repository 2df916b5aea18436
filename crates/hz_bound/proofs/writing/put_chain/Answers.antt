use Rattle.std.proofs.Common.{ℕ, List, map, slice_index, codes, sym, subst}
use Rattle.std.proofs.lemmas.List.Folds.{flat_map-map}
use Rattle.hz_io.specs.Sink.{Wrote, Cut}
use Rattle.hz_io.proofs.Writing.{cut_before, writes_then}
use Rattle.hz_measure_model.specs.Bounds.Texts.{number_field}
use Rattle.hz_bound.proofs.writing.put_chain.Goals as goal

pub returns-in-Ok : goal.returns-in-Ok
returns-in-Ok g c =
    let numbers : ℕ → ℕ = slice_index (map (λ i. i.number) c.args.graph.now.insns.items) in
    let there = subst (λ (bytes : List ℕ). Wrote g.S.Sink.written g.S.Sink.room g.S.Sink.faults c.args.out.now c.put_numbers.new.out bytes) (sym (flat_map-map number_field numbers c.args.places.now)) c.in-Ok.ensures in
    writes_then c.put.new.self (codes "\n") c.put.result there c.put.ensures

pub returns-in-Err : goal.returns-in-Err
returns-in-Err g c =
    let numbers : ℕ → ℕ = slice_index (map (λ i. i.number) c.args.graph.now.insns.items) in
    cut_before (codes "\n")
    (subst (λ (bytes : List ℕ). Cut g.S.Sink.written g.S.Sink.room g.S.Sink.faults c.args.out.now c.put_numbers.new.out bytes) (sym (flat_map-map number_field numbers c.args.places.now)) c.in-Err.ensures)
