use Rattle.std.proofs.Common.{ℕ, ◌<◌, ◌++◌, List, length, map, slice_index, All, sym, subst}
use Rattle.std.specs.Option.{option_map}
use Rattle.hz_io.specs.Sink.{Wrote, Cut}
use Rattle.hz_io.proofs.Writing.{cut_before, writes_then}
use Rattle.hz_measure_model.specs.Bounds.Texts.{path_line, heaviest_line, bound_line, cycles_line}
use Rattle.hz_bound.specs.Shape.{names_of, load_of}
use Rattle.hz_bound.proofs.writing.put_bound.Goals as goal

pub put_path-requires-clause-places : goal.put_path-requires-clause-places
put_path-requires-clause-places g c = subst (λ (places : List ℕ). All (λ place. place < length c.args.graph.now.insns.items) places) (sym c.deref.ensures.value) c.requires.range.chain

pub returns-in-Ok : goal.returns-in-Ok
returns-in-Ok g c =
    let numbers : ℕ → ℕ = slice_index (map (λ i. i.number) c.args.graph.now.insns.items) in
    let there = subst (λ (places : List ℕ). Wrote g.S.Sink.written g.S.Sink.room g.S.Sink.faults c.args.out.now c.put_path.new.out (path_line c.args.bound.now.path (map numbers places))) c.deref.ensures.value c.in-Ok.ensures in
    writes_then c.put_rest.new.out (heaviest_line (names_of c.args.checked.now) (option_map load_of c.args.bound.now.load) ++ (bound_line c.args.bound.now.value ++ cycles_line c.args.cycles)) c.put_rest.result there c.put_rest.ensures

pub returns-in-Err : goal.returns-in-Err
returns-in-Err g c =
    let numbers : ℕ → ℕ = slice_index (map (λ i. i.number) c.args.graph.now.insns.items) in
    cut_before (heaviest_line (names_of c.args.checked.now) (option_map load_of c.args.bound.now.load) ++ (bound_line c.args.bound.now.value ++ cycles_line c.args.cycles))
    (subst (λ (places : List ℕ). Cut g.S.Sink.written g.S.Sink.room g.S.Sink.faults c.args.out.now c.put_path.new.out (path_line c.args.bound.now.path (map numbers places))) c.deref.ensures.value c.in-Err.ensures)
