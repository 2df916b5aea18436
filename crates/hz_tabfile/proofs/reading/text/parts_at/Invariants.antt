use Rattle.std.proofs.Common.{◌≡◌, ◌-◌, [], map, All}
use Rattle.hz_tables.specs.Parts.{part_of, IsLeastWidth}
use Rattle.hz_tabtext_model.specs.Reading.{so_many, more_asks, part_at}
use Rattle.hz_tabfile.specs.Rests.{left_of}
use Rattle.hz_tabfile.proofs.Many.{with_front}
use Rattle.hz_tabfile.proofs.reading.text.parts_at.Given as goal

abbrev pub invariant-loop : goal.invariant-loop
invariant-loop l = record {
  read : with_front (map part_of l.parts.items) (so_many more_asks (part_at l.asked l.classes) (l.automata - l.counter) l.known.keys (left_of l.rest)) ≡ so_many more_asks (part_at l.asked l.classes) l.automata [] (left_of l.fn.rest);
  packed : All (λ part. IsLeastWidth part.table) l.parts.items;
}
