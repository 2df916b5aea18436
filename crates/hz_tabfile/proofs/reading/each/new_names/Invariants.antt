use Rattle.std.proofs.Common.{◌≡◌, ◌++◌}
use Rattle.hz_tabtext_model.specs.Lines.{asks_of}
use Rattle.hz_tabfile.specs.Cutting.{fields_in}
use Rattle.hz_tabfile.proofs.Pieces.{left}
use Rattle.hz_tabfile.proofs.Each.{beyond}
use Rattle.hz_tabfile.proofs.reading.each.new_names.Given as goal

abbrev pub invariant-loop-rest : goal.invariant-loop-rest
invariant-loop-rest l = record {
  named : beyond l.names.items (asks_of l.known.keys (fields_in l.rest)) ≡ asks_of l.fn.known.keys (fields_in l.fn.fields);
  known : l.known.keys ≡ l.fn.known.keys ++ l.names.items;
}

abbrev pub decreases-loop-rest : goal.decreases-loop-rest
decreases-loop-rest l = left l.rest
