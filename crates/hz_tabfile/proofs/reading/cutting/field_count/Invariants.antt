use Rattle.std.proofs.Common.{◌≡◌, ◌+◌, ◌≤◌}
use Rattle.hz_tabfile.specs.Cutting.{fields_in, counted}
use Rattle.hz_tabfile.proofs.Pieces.{left, counted_on}
use Rattle.hz_tabfile.proofs.reading.cutting.field_count.Given as goal

abbrev pub invariant-loop-rest : goal.invariant-loop-rest
invariant-loop-rest l = record {
  count : counted_on l.count (counted (fields_in l.rest)) ≡ counted (fields_in l.fn.fields);
  short : l.count + left l.rest ≤ left l.fn.fields;
}

abbrev pub decreases-loop-rest : goal.decreases-loop-rest
decreases-loop-rest l = left l.rest
