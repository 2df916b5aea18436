use Rattle.hz_same_top.proofs.LineLaws.{piece_more}
use Rattle.hz_same_top.proofs.adding.add_all.Goals as goal

pub loop-piece-preserved : goal.loop-piece-preserved
loop-piece-preserved c =
    piece_more c.args.pieces.now c.loop-piece.piece-index _ c.args.text.now.items c.loop-piece.text.items c.extend_from_slice.new.self.items c.loop-piece-test.true c.loop-piece.invariant c.in_ok-extend_from_slice.ensures.items
