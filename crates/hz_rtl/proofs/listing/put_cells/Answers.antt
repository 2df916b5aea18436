use Rattle.std.proofs.Common.{◌++◌, [], List, ℕ, ap, subst, arith}
use Rattle.hz_io.specs.Sink.{Wrote, Cut}
use Rattle.hz_io.proofs.Writing.{wrote_nothing, wrote_then, wrote_then_cut, cut_before}
use Rattle.hz_block_model.specs.Texts.StateTexts.{cell_line}
use Rattle.hz_rtl.proofs.LineLemmas.{cell_lines, cell_parts, cells_done}
use Rattle.hz_rtl.proofs.listing.put_cells.Goals as goal

pub loop-cell-init : goal.loop-cell-init
loop-cell-init g c = record { written = []; wrote = wrote_nothing c.args.out.now; parts = ap cell_lines c.into_iter-cell-iterator.ensures.into_iter_gives.0 }

pub loop-cell-preserved : goal.loop-cell-preserved
loop-cell-preserved g c =
    let before = c.loop-cell.invariant in
    record {
      written = before.written ++ cell_line (c.in-Some.cell.0.now, c.in-Some.cell.1.now);
      wrote = wrote_then before.wrote c.in-Ok.ensures;
      parts = cell_parts before.written (cell_lines c.args.cells.now.entries) c.loop-cell.cell-iterator c.next.new.self (c.in-Some.cell.0.now, c.in-Some.cell.1.now) before.parts c.in-Some.ensures.steps;
    }

pub returns-in-Err : goal.returns-in-Err
returns-in-Err g c =
    let before = c.loop-cell.invariant in
    subst (λ (bytes : List ℕ). Cut g.S.Sink.written g.S.Sink.room g.S.Sink.faults c.args.out.now c.put_cell.new.out bytes)
    (cell_parts before.written (cell_lines c.args.cells.now.entries) c.loop-cell.cell-iterator c.next.new.self (c.in-Some.cell.0.now, c.in-Some.cell.1.now) before.parts c.in-Some.ensures.steps)
    (cut_before (cell_lines c.next.new.self) (wrote_then_cut before.wrote c.in-Err.ensures))

pub returns : goal.returns
returns g c =
    let before = c.loop-cell.invariant in
    subst (λ (bytes : List ℕ). Wrote g.S.Sink.written g.S.Sink.room g.S.Sink.faults c.args.out.now c.loop-cell.out bytes)
    (cells_done before.written (cell_lines c.args.cells.now.entries) c.loop-cell.cell-iterator before.parts c.in-None.ensures.steps.0) before.wrote

pub put_cell-requires : goal.put_cell-requires
put_cell-requires g c = let same = c.loop-cell.invariant.wrote.counted in omega (arith, same, c.requires)
