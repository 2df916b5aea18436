use Rattle.std.proofs.Common.{ℕ, ◌==◌, ap, sym, ◌∙◌, arith}
use Rattle.hz_tabfile.proofs.Asked.{none_more, some_asked, none_asked}
use Rattle.hz_tabfile.proofs.writing.parts.are_asked.Goals as goal

pub loop-part-preserved : goal.loop-part-preserved
loop-part-preserved c =
    let long = c.part-item.result.asks.ok.0 in
    none_more c.args.parts.now c.loop-part.part-index c.part-item.result c.loop-part.invariant (omega arith) c.part-item.is (ap (λ (n : ℕ). n == 0) (sym long) ∙ (sym c.is_empty.ensures ∙ c.if-not-is_empty.false))

pub returns-then-not-is_empty : goal.returns-then-not-is_empty
returns-then-not-is_empty c =
    let long = c.part-item.result.asks.ok.0 in
    some_asked c.args.parts.now c.loop-part.part-index c.part-item.result c.loop-part.invariant (omega arith) c.part-item.is (ap (λ (n : ℕ). n == 0) (sym long) ∙ (sym c.is_empty.ensures ∙ c.if-not-is_empty.true))

pub returns : goal.returns
returns c = none_asked c.args.parts.now c.loop-part.part-index (omega arith) c.loop-part.invariant
