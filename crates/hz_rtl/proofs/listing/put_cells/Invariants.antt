use Rattle.std.proofs.Common.{◌≡◌, ℕ, List, ◌++◌}
use Rattle.hz_io.specs.Sink.{Wrote}
use Rattle.hz_rtl.proofs.LineLemmas.{cell_lines}
use Rattle.hz_rtl.proofs.listing.put_cells.Given as goal

-- what is written so far, and what the cells left make of it
abbrev pub invariant-loop-cell : goal.invariant-loop-cell
invariant-loop-cell g l = record {
  written : List ℕ;
  wrote : Wrote g.S.Sink.written g.S.Sink.room g.S.Sink.faults l.fn.out l.out written;
  parts : written ++ cell_lines l.cell-iterator ≡ cell_lines l.cells.entries;
}
