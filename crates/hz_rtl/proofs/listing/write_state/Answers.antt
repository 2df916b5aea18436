use Rattle.std.proofs.Common.{ℕ, List, subst}
use Rattle.hz_io.specs.Sink.{Wrote}
use Rattle.hz_io.proofs.Writing.{writes_then}
use Rattle.hz_rtl.proofs.LineLemmas.{register_lines, cell_lines}
use Rattle.hz_rtl.proofs.listing.write_state.Goals as goal

pub returns-in-Ok : goal.returns-in-Ok
returns-in-Ok g c =
    let registers = subst (λ (words : List ℕ). Wrote g.S.Sink.written g.S.Sink.room g.S.Sink.faults c.args.out.now c.put_registers.new.out (register_lines 0 words)) c.deref.ensures.value c.in-Ok.ensures in
    writes_then c.put_cells.new.out (cell_lines c.args.state.now.cells.entries) c.put_cells.result registers c.put_cells.ensures
