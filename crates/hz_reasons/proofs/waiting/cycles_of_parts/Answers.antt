use Rattle.std.proofs.Common.{ℕ, List, Contains, sym, subst, arith}
use Rattle.hz_base_model.specs.Pairs.{Pair}
use Rattle.hz_reasons.proofs.WaitingLaws.{ends_more, ends_all}
use Rattle.hz_reasons.proofs.waiting.cycles_of_parts.Goals as goal

pub loop-part-preserved : goal.loop-part-preserved
loop-part-preserved c =
    ends_more c.args.parts.now c.loop-part.part-index c.part-item.result c.length.result c.loop-part.cycles _ c.part-item.is (omega arith) (omega arith)
    (λ unit cycle h. c.length.ensures.above unit cycle (subst (λ (g : List (Pair ℕ)). Contains g (record { unit = unit; cycle = cycle })) (sym c.grid.ensures) h)) c.loop-part.invariant

pub returns : goal.returns
returns c = ends_all c.args.parts.now c.loop-part.part-index c.loop-part.cycles (omega arith) c.loop-part.invariant
