use Rattle.std.proofs.Common.{◌≡◌, ◌-◌, []}
use Rattle.hz_tabtext_model.specs.Reading.{classes_at}
use Rattle.hz_tabfile.specs.Rests.{left_of}
use Rattle.hz_tabfile.proofs.reading.text.names_at.Given as goal

abbrev pub invariant-loop : goal.invariant-loop
invariant-loop l = classes_at (l.count - l.counter) l.names.keys (left_of l.rest) ≡ classes_at l.count [] (left_of l.fn.rest)
