use Rattle.std.proofs.Common.{ℕ, List, arith}
use Rattle.std.specs.Borrow.{Bor}
use Rattle.hz_io.proofs.Adding.{each_added, each_stopped, each_done}
use Rattle.hz_io.proofs.page.add_all.Goals as goal

pub loop-piece-preserved : goal.loop-piece-preserved
loop-piece-preserved g c = each_added (λ (piece : Bor (List ℕ)). piece.now) c.args.pieces.now c.loop-piece.piece-index _ (omega arith) c.loop-piece.invariant c.in-Ok.ensures

pub returns-in-Err : goal.returns-in-Err
returns-in-Err g c = each_stopped (λ (piece : Bor (List ℕ)). piece.now) c.args.pieces.now c.loop-piece.piece-index _ (omega arith) c.loop-piece.invariant c.in-Err.ensures

pub returns : goal.returns
returns g c = each_done (λ (piece : Bor (List ℕ)). piece.now) c.args.pieces.now c.loop-piece.piece-index (omega arith) c.loop-piece.invariant

pub add-requires : goal.add-requires
add-requires g c = let same = c.loop-piece.invariant.wrote.counted in omega (arith, same, c.requires)
