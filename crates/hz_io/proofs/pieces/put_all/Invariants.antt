use Rattle.std.proofs.Common.{map, take}
use Rattle.std.specs.List.{concat}
use Rattle.hz_io.specs.Sink.{Wrote}
use Rattle.hz_io.proofs.pieces.put_all.Given as goal

abbrev pub invariant-loop-piece : goal.invariant-loop-piece
invariant-loop-piece g l =
    Wrote g.S.Sink.written g.S.Sink.room g.S.Sink.faults l.fn.out l.out (concat (map (λ piece. piece.now) (take l.piece-index l.pieces)))
