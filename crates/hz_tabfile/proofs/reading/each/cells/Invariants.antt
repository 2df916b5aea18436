use Rattle.std.proofs.Common.{◌≡◌, length}
use Rattle.hz_tabtext_model.specs.Lines.{entries_of}
use Rattle.hz_tabfile.specs.Cutting.{fields_in}
use Rattle.hz_tabfile.proofs.Pieces.{left}
use Rattle.hz_tabfile.proofs.Each.{beyond, left_after}
use Rattle.hz_tabfile.proofs.reading.each.cells.Given as goal

abbrev pub invariant-loop-rest : goal.invariant-loop-rest
invariant-loop-rest l = beyond l.row.items (left_after l.size.states l.number l.size.columns l.size.asks (length l.row.items) (fields_in l.rest)) ≡ entries_of l.size.columns l.size.asks l.size.states l.number (fields_in l.fn.fields)

abbrev pub decreases-loop-rest : goal.decreases-loop-rest
decreases-loop-rest l = left l.rest
