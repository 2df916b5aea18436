use Rattle.std.proofs.Common.{ℕ, ◌+◌, ◌<◌, List, length, map, drop, slice_index, sym, subst, arith}
use Rattle.std.specs.List.{flat_map}
use Rattle.hz_io.specs.Sink.{Wrote, Cut}
use Rattle.hz_io.proofs.Writing.{wrote_then, wrote_then_cut, cut_before}
use Rattle.hz_measure_model.specs.Bounds.Texts.{number_field}
use Rattle.hz_io.proofs.PieceTexts.{lines_more, lines_parts}
use Rattle.hz_bound.proofs.writing.put_numbers.Goals as goal

pub put_number-requires : goal.put_number-requires
put_number-requires g c = omega (arith, c.loop-place.invariant.counted, c.requires.sink)

pub loop-place-preserved : goal.loop-place-preserved
loop-place-preserved g c =
    let line : ℕ → List ℕ = λ place. number_field (slice_index (map (λ i. i.number) c.args.graph.now.insns.items) place) in
    let inside : c.loop-place.place-index < length c.args.places.now = omega arith in
    let here = subst (λ (n : ℕ). Wrote g.S.Sink.written g.S.Sink.room g.S.Sink.faults c.loop-place.out c.put_number.new.out (number_field n)) c.number_at.ensures c.in-Ok.ensures in
    subst (λ (bytes : List ℕ). Wrote g.S.Sink.written g.S.Sink.room g.S.Sink.faults c.args.out.now c.put_number.new.out bytes) (sym (lines_more line c.args.places.now c.loop-place.place-index 0 inside))
    (wrote_then c.loop-place.invariant here)

pub returns-in-Err : goal.returns-in-Err
returns-in-Err g c =
    let line : ℕ → List ℕ = λ place. number_field (slice_index (map (λ i. i.number) c.args.graph.now.insns.items) place) in
    let inside : c.loop-place.place-index < length c.args.places.now = omega arith in
    let here = subst (λ (n : ℕ). Cut g.S.Sink.written g.S.Sink.room g.S.Sink.faults c.loop-place.out c.put_number.new.out (number_field n)) c.number_at.ensures c.in-Err.ensures in
    subst (λ (bytes : List ℕ). Cut g.S.Sink.written g.S.Sink.room g.S.Sink.faults c.args.out.now c.put_number.new.out bytes) (sym (lines_parts line c.args.places.now c.loop-place.place-index 0 inside))
    (cut_before (flat_map line (drop (c.loop-place.place-index + 1) c.args.places.now)) (wrote_then_cut c.loop-place.invariant here))
