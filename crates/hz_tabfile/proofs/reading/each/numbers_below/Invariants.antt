use Rattle.std.proofs.Common.{◌≡◌}
use Rattle.hz_tabtext_model.specs.Judging.{each_by}
use Rattle.hz_tabtext_model.specs.Fields.{number_below}
use Rattle.hz_tabfile.specs.Cutting.{fields_in}
use Rattle.hz_tabfile.proofs.Pieces.{left}
use Rattle.hz_tabfile.proofs.Each.{beyond}
use Rattle.hz_tabfile.proofs.reading.each.numbers_below.Given as goal

abbrev pub invariant-loop-rest : goal.invariant-loop-rest
invariant-loop-rest l = beyond l.numbers.items (each_by (number_below l.limit) (fields_in l.rest)) ≡ each_by (number_below l.limit) (fields_in l.fn.fields)

abbrev pub decreases-loop-rest : goal.decreases-loop-rest
decreases-loop-rest l = left l.rest
