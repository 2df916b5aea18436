use Rattle.std.proofs.Common.{◌+◌, ◌-◌, [], map, All, ap, sym, subst, ◌∙◌}
use Rattle.std.proofs.lemmas.List.{map_push}
use Rattle.std.proofs.lemmas.List.Elements.{All-push}
use Rattle.std.proofs.lemmas.Result.{err_from_is_err_and}
use Rattle.hz_tables.specs.Parts.{part_of, IsLeastWidth}
use Rattle.hz_tabtext_model.specs.Reading.{so_many, more_asks, part_at}
use Rattle.hz_tabfile.specs.Rests.{left_of}
use Rattle.hz_tabfile.proofs.Many.{with_front, many_goes, many_stops, many_ends}
use Rattle.hz_tabfile.proofs.reading.text.parts_at.Goals as goal

pub returns-in_err-part-clause-read : goal.returns-in_err-part-clause-read
returns-in_err-part-clause-read c =
    let p = err_from_is_err_and c.from_residual.result c.from_residual.ensures.1 in
    rw (p.1, p.2) (many_stops more_asks (part_at c.args.asked c.args.classes) (map part_of c.loop.parts.items) c.args.automata c.loop.counter c.loop.known.keys (left_of c.loop.rest) (so_many more_asks (part_at c.args.asked c.args.classes) c.args.automata [] (left_of c.args.rest)) c.loop.invariant.read c.in_err-part.field-0.0 c.loop-test.true c.in_err-part.ensures.read)

pub loop-preserved : goal.loop-preserved
loop-preserved c = record {
  read =
      ap (λ parts. with_front parts (so_many more_asks (part_at c.args.asked c.args.classes) (c.args.automata - (c.loop.counter + 1)) c.part_at.new.known.keys (left_of c.in_ok-part.after))) (ap (map part_of) c.in_ok-push.ensures.items ∙ map_push part_of c.loop.parts.items c.in_ok-part.part)
      ∙ many_goes more_asks (part_at c.args.asked c.args.classes) (map part_of c.loop.parts.items) c.args.automata c.loop.counter c.loop.known.keys (left_of c.loop.rest) (so_many more_asks (part_at c.args.asked c.args.classes) c.args.automata [] (left_of c.args.rest)) c.loop.invariant.read (part_of c.in_ok-part.part) (left_of c.in_ok-part.after) c.part_at.new.known.keys c.loop-test.true (sym c.in_ok-part.ensures.known) c.in_ok-part.ensures.read;
  packed = subst (All (λ part. IsLeastWidth part.table)) (sym c.in_ok-push.ensures.items) (All-push (λ part. IsLeastWidth part.table) c.loop.parts.items c.in_ok-part.part c.loop.invariant.packed c.in_ok-part.ensures.packed);
}

pub returns-clause-read : goal.returns-clause-read
returns-clause-read c = many_ends more_asks (part_at c.args.asked c.args.classes) (map part_of c.loop.parts.items) c.args.automata c.loop.counter c.loop.known.keys (left_of c.loop.rest) (so_many more_asks (part_at c.args.asked c.args.classes) c.args.automata [] (left_of c.args.rest)) c.loop.invariant.read c.loop-test.false
