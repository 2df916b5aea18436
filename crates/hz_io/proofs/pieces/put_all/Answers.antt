use Rattle.std.proofs.Common.{ℕ, ◌+◌, ◌<◌, List, length, drop, sym, subst, arith}
use Rattle.hz_io.specs.Sink.{Wrote, Cut}
use Rattle.hz_io.proofs.Writing.{wrote_then, wrote_then_cut, cut_before}
use Rattle.hz_io.proofs.PieceTexts.{text, text_more, text_parts}
use Rattle.hz_io.proofs.pieces.put_all.Goals as goal

pub loop-piece-preserved : goal.loop-piece-preserved
loop-piece-preserved g c =
    let inside : c.loop-piece.piece-index < length c.args.pieces.now = omega arith in
    subst (λ (bytes : List ℕ). Wrote g.S.Sink.written g.S.Sink.room g.S.Sink.faults c.args.out.now c.put.new.self bytes) (sym (text_more c.args.pieces.now c.loop-piece.piece-index _ inside))
    (wrote_then c.loop-piece.invariant c.in-Ok.ensures)

pub returns-in-Err : goal.returns-in-Err
returns-in-Err g c =
    let inside : c.loop-piece.piece-index < length c.args.pieces.now = omega arith in
    subst (λ (bytes : List ℕ). Cut g.S.Sink.written g.S.Sink.room g.S.Sink.faults c.args.out.now c.put.new.self bytes) (sym (text_parts c.args.pieces.now c.loop-piece.piece-index _ inside))
    (cut_before (text (drop (c.loop-piece.piece-index + 1) c.args.pieces.now)) (wrote_then_cut c.loop-piece.invariant c.in-Err.ensures))
