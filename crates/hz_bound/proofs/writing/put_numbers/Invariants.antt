use Rattle.std.proofs.Common.{map, take, slice_index}
use Rattle.std.specs.List.{flat_map}
use Rattle.hz_io.specs.Sink.{Wrote}
use Rattle.hz_measure_model.specs.Bounds.Texts.{number_field}
use Rattle.hz_bound.proofs.writing.put_numbers.Given as goal

-- the numbers so far
abbrev pub invariant-loop-place : goal.invariant-loop-place
invariant-loop-place g l =
    Wrote g.S.Sink.written g.S.Sink.room g.S.Sink.faults l.fn.out l.out (flat_map (λ place. number_field (slice_index (map (λ i. i.number) l.graph.insns.items) place)) (take l.place-index l.places))
