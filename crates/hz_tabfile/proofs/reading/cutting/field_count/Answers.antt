use Rattle.std.proofs.Common.{sym, ◌∙◌, ap, arith}
use Rattle.hz_tabfile.specs.Cutting.{fields_in, counted}
use Rattle.hz_tabfile.proofs.Pieces.{left, left_after, count_goes, count_none, count_done}
use Rattle.hz_tabfile.proofs.reading.cutting.field_count.Goals as goal

pub returns-then-is_empty : goal.returns-then-is_empty
returns-then-is_empty c =
    count_none c.loop-rest.count c.loop-rest.rest (counted (fields_in c.args.fields)) c.loop-rest.invariant.count c.in-Some.text c.cut.result.0.now (fields_in c.cut.result.1) c.in-Some.is c.cut.ensures.pieces
    (sym c.is_empty.ensures ∙ c.if-is_empty.true)

pub loop-rest-preserved : goal.loop-rest-preserved
loop-rest-preserved c =
    let was = ap left c.in-Some.is in
    let less = left_after c.cut.result.1 c.cut.result.0.now c.in-Some.text.now c.cut.ensures.long in
    let short = c.loop-rest.invariant.short in
    record {
      count = count_goes c.loop-rest.count c.loop-rest.rest (counted (fields_in c.args.fields)) c.loop-rest.invariant.count c.in-Some.text c.cut.result.0.now (fields_in c.cut.result.1) c.in-Some.is c.cut.ensures.pieces
          (sym c.is_empty.ensures ∙ c.if-is_empty.false);
      short = omega (arith, was, less, short);
    }

pub returns : goal.returns
returns c = count_done c.loop-rest.count c.loop-rest.rest (counted (fields_in c.args.fields)) c.loop-rest.invariant.count c.in_default.is
