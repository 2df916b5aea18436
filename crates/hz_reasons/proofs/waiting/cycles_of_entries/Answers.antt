use Rattle.std.proofs.Common.{◌∙◌, subst, arith}
use Rattle.hz_reasons.specs.Waiting.{EndBefore}
use Rattle.hz_reasons.proofs.WaitingLaws.{entries_more}
use Rattle.hz_reasons.proofs.waiting.cycles_of_entries.Goals as goal

pub loop-entry-preserved : goal.loop-entry-preserved
loop-entry-preserved c =
    entries_more c.args.entries.now c.loop-entry.entry-index c.entry-item.result c.cycles_of_grids.result c.loop-entry.cycles _ c.entry-item.is (omega arith) (omega arith)
    (subst (EndBefore c.cycles_of_grids.result) (c.deref.ensures.value ∙ c.calendar-calendar.ensures) c.cycles_of_grids.ensures) c.loop-entry.invariant

pub returns : goal.returns
returns c = λ k d low. c.loop-entry.invariant k (omega arith) d
