use Rattle.std.proofs.Common.{◌≡◌}
use Rattle.hz_tabfile.specs.Cutting.{fields_in}
use Rattle.hz_tabfile.specs.Lines.{cycles_in}
use Rattle.hz_tabfile.proofs.Pieces.{left}
use Rattle.hz_tabfile.proofs.reading.each.cycles.Given as goal

abbrev pub invariant-loop-rest : goal.invariant-loop-rest
invariant-loop-rest l = cycles_in (fields_in l.rest) ≡ cycles_in (fields_in l.fn.fields)

abbrev pub decreases-loop-rest : goal.decreases-loop-rest
decreases-loop-rest l = left l.rest
